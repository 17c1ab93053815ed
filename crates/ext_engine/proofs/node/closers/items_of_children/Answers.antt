use Rattle.std.proofs.Common.{ℕ, Bool, length, map, filter, not, ap, ◌∙◌, arith}
use Rattle.std.proofs.lemmas.Result.{IfOk-weaker}
use Rattle.std.proofs.lemmas.List.Elements.{All-filter, All-same}
use Rattle.ext_engine.specs.declared.node.closers.Item.{Item}
use Rattle.ext_engine.specs.InnerClosers.{IsItem}
use Rattle.ext_engine.proofs.Items.{few-children, as-many, are-items, filtered-nodes, few-pass}
use Rattle.ext_engine.proofs.node.closers.items_of_children.Goals as goal

pub returns-clause-beside : goal.returns-clause-beside
returns-clause-beside g c =
    let p = (g.S.Suite.suite_view c.args.suite.now).is_concurrent in
    IfOk-weaker c.by_mode.result _ _ (λ r h. ap (map (λ (i : Item). i.node)) h.0 ∙ filtered-nodes p c.hand_out.new.items.items ∙ ap (filter p) c.in_ok-hand_out.ensures.children) c.by_mode.ensures

pub returns-clause-in_turn : goal.returns-clause-in_turn
returns-clause-in_turn g c =
    let p : ℕ → Bool = λ n. not ((g.S.Suite.suite_view c.args.suite.now).is_concurrent n) in
    IfOk-weaker c.by_mode.result _ _ (λ r h. ap (map (λ (i : Item). i.node)) h.1 ∙ filtered-nodes p c.hand_out.new.items.items ∙ ap (filter p) c.in_ok-hand_out.ensures.children) c.by_mode.ensures

pub returns-clause-closers : goal.returns-clause-closers
returns-clause-closers g c =
    let store = c.args.store.now in let node = c.args.node in let items = c.hand_out.new.items.items in
    let p = (g.S.Suite.suite_view c.args.suite.now).is_concurrent in
    let all = are-items store node c.args.closers.items items c.requires.node c.in_ok-hand_out.ensures.children c.requires.closers c.in_ok-hand_out.ensures.closers in
    IfOk-weaker c.by_mode.result _ _
    (λ r h. (
      All-same (IsItem store node) r.0.items (filter (λ (i : Item). p i.node) items) h.0 (All-filter (λ (i : Item). p i.node) (IsItem store node) items all),
      All-same (IsItem store node) r.1.items (filter (λ (i : Item). not (p i.node)) items) h.1 (All-filter (λ (i : Item). not (p i.node)) (IsItem store node) items all),
    ))
    c.by_mode.ensures

pub returns-clause-few : goal.returns-clause-few
returns-clause-few g c =
    let store = c.args.store.now in let node = c.args.node in let items = c.hand_out.new.items.items in
    let p = (g.S.Suite.suite_view c.args.suite.now).is_concurrent in
    let many = as-many store.tree node items c.in_ok-hand_out.ensures.children in
    let children = few-children store.tree node in
    let passing = few-pass (λ (i : Item). p i.node) items in
    let tree = ap length c.tree.ensures in let count = c.len-count.ensures.count in let most = c.len-count.ensures.few in
    IfOk-weaker c.by_mode.result _ _ (λ r h. let same = ap length h.0 in let long = r.0.ok in omega (arith, many, children, passing, tree, count, most, same, long)) c.by_mode.ensures
