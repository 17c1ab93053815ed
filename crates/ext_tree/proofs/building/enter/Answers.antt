use Rattle.std.proofs.Common.{◌≡◌, ◌<◌, ◌+◌, ◌-◌, ◌∙◌, ap, subst, length, take}
use Rattle.std.specs.List.{list_any}
use Rattle.indexmap.specs.IndexSet.{insert_key}
use Rattle.std.specs.Cmp.Lexicographic.{pointwise, lists_equiv}
use Rattle.ext_ids.specs.Ids.{pair_eq}
use Rattle.ext_ids.specs.InnerTraits.{pair_eq_equiv}
use Rattle.ext_ids.proofs.Pairs.{ids_Decides}
use Rattle.ext_tree.specs.Trees.{id_at}
use Rattle.ext_tree.proofs.TreeFacts.{read_id}
use Rattle.ext_tree.proofs.Numbers.{IsPlace, place_of}
use Rattle.ext_tree.proofs.Lookups.{whole, stands_judged, parent_judged, entered}
use Rattle.ext_tree.proofs.building.enter.Goals as goal

id : (c : goal.After-contains-stands) → c.index-ids-at.result ≡ id_at c.args.ids.now c.args.at
id c = read_id c.args.ids.now c.args.at c.index-ids-at.result c.requires.within.1 c.index-ids-at.is

some : (c : goal.After-contains-stands) → 0 < length c.index-ids-at.result
some c = let i = c.len-above.ensures.id in i.some

trail : (c : goal.After-contains-stands) → c.push.new.self ≡ id_at c.args.ids.now c.args.at
trail c = c.in_ok-push.ensures ∙ ap (λ n. take (n - 1 + 1) c.index-ids-at.result) c.len-above.ensures.count ∙ whole c.index-ids-at.result (some c) ∙ id c

pub judge-requires-clause-stands : goal.judge-requires-clause-stands
judge-requires-clause-stands c = stands_judged c.args.ids.now c.args.at c.requires.within.1 c.push.new.self c.contains-stands.result (trail c)
    (c.contains-stands.ensures ∙ ap (list_any (pointwise pair_eq c.push.new.self)) c.requires.table)

pub judge-requires-clause-parent : goal.judge-requires-clause-parent
judge-requires-clause-parent c = parent_judged c.args.ids.now c.args.at c.requires.within.1 c.in_ok-trail.trail c.get_index_of-parent.result
    (subst (λ x. 0 < length x) (id c) (some c))
    (c.in_ok-trail.ensures ∙ ap (λ n. take (n - 1) c.index-ids-at.result) c.len-above.ensures.count ∙ ap (λ x. take (length x - 1) x) (id c))
    (subst (λ keys. IsPlace keys c.in_ok-trail.trail c.get_index_of-parent.result) c.requires.table
    (place_of (pointwise pair_eq) ids_Decides (lists_equiv pair_eq_equiv) c.args.table.now.keys c.in_ok-trail.trail c.get_index_of-parent.result c.get_index_of-parent.ensures.index c.get_index_of-parent.ensures.found))

pub returns : goal.returns
returns c =
    let id = read_id c.args.ids.now c.args.at c.index-ids-at.result c.requires.within.1 c.index-ids-at.is in
    let i = c.len-above.ensures.id in
    let trail : c.push.new.self ≡ id_at c.args.ids.now c.args.at =
    c.in_ok-push.ensures ∙ ap (λ n. take (n - 1 + 1) c.index-ids-at.result) c.len-above.ensures.count ∙ whole c.index-ids-at.result i.some ∙ id in
    let f = c.in_ok-parent.ensures in
    let fresh = f.may in (
      f,
      c.in_ok-insert.ensures.keys ∙ ap (λ keys. insert_key (pointwise pair_eq) keys c.push.new.self) c.requires.table
          ∙ entered c.args.ids.now c.args.at c.requires.within.1 c.push.new.self trail fresh.fresh,
    )
