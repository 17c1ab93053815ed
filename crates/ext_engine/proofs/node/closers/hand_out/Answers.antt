use Rattle.std.proofs.Common.{rules, ◌≡◌, ◌<◌, ◌++◌, ◌∷◌, [], length, ap, sym, subst, ◌∙◌, append_assoc, refl, arith}
use Rattle.std.proofs.lemmas.Grind.{common_steps}
use Rattle.std.specs.Prelude.{All, slice_index_or}
use Rattle.std.proofs.Math.Seq.{map-set_same}
use Rattle.ext_tree.specs.Trees.{children_of}
use Rattle.ext_store.specs.Stores.{IsCloserOf}
use Rattle.ext_engine.specs.declared.node.closers.Item.{Item}
use Rattle.ext_engine.specs.InnerClosers.{IsWithin, HasTaken}
use Rattle.ext_engine.proofs.Contexts.{all-mid}
use Rattle.ext_engine.proofs.Items.{as-many, handed-to, handed-to-none}
use Rattle.ext_engine.proofs.node.closers.hand_out.Goals as goal

pub loop-closer-preserved-in-Continue-1 : goal.loop-closer-preserved-in-Continue-1
loop-closer-preserved-in-Continue-1 g c =
    let I = c.loop-closer.invariant in let closer = c.in-Some.closer in
    let store = c.args.store.now in let node = c.args.node in let items = c.loop-closer.items.items in
    let at = c.in-Some-child_above.at in
    let list : c.loop-closer.yielded ++ closer ∷ c.next.new.self.rest.items ≡ c.args.closers.items = search rules in
    let own : IsCloserOf store closer = all-mid (IsCloserOf store) _ closer _ _ list c.requires.own in
    let next : Item = record { node = c.index_mut.result.now.node; closers = c.push.new.self } in
    let many = as-many store.tree node items I.children in
    let inside : at < length items = omega (arith, many, c.in-Some-child_above.ensures.within) in
    let was = c.index_mut.result.now in
    record {
      can = tt;
      finite = tt;
      items = append_assoc c.loop-closer.yielded (closer ∷ []) c.next.new.self.rest.items ∙ list;
      children = map-set_same (λ (x : Item). x.node) items at next was (ap (λ (x : Item). x.node) c.index_mut.ensures.value) ∙ I.children;
      taken = handed-to store c.loop-closer.yielded closer node items c.requires.node I.children I.taken at was next inside c.index_mut.ensures.value refl c.in_ok-push.ensures.items own
          (λ i l within. c.in-Some-child_above.ensures.at i l (subst (λ k. IsWithin store.tree (slice_index_or (children_of store.tree node) i 0) k) (sym c.context.ensures) within));
    }

pub loop-closer-preserved : goal.loop-closer-preserved
loop-closer-preserved g c =
    let I = c.loop-closer.invariant in let closer = c.in-Some.closer in
    let store = c.args.store.now in let node = c.args.node in
    let list : c.loop-closer.yielded ++ closer ∷ c.next.new.self.rest.items ≡ c.args.closers.items = search rules in
    record {
      can = tt;
      finite = tt;
      items = append_assoc c.loop-closer.yielded (closer ∷ []) c.next.new.self.rest.items ∙ list;
      children = I.children;
      taken = handed-to-none store c.loop-closer.yielded closer node c.loop-closer.items.items c.requires.node I.children I.taken
          (λ i l within. c.in_default.ensures.at i l (subst (λ k. IsWithin store.tree (slice_index_or (children_of store.tree node) i 0) k) (sym c.context.ensures) within));
    }

pub returns-clause-closers : goal.returns-clause-closers
returns-clause-closers g c =
    let all : c.loop-closer.yielded ≡ c.args.closers.items = grind (arith, common_steps) in
    subst (λ seen. All (HasTaken c.args.store.now seen) c.loop-closer.items.items) all c.loop-closer.invariant.taken
