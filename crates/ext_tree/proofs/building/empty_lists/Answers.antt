use Rattle.std.proofs.Common.{◌≡◌, ◌<◌, ◌+◌, ◌∙◌, [], ap, sym, length, arith, subst, HoldsAt, ℕ}
use Rattle.std.proofs.lemmas.List.{length_push}
use Rattle.ext_tree.proofs.TreeFacts.{held_more}
use Rattle.ext_tree.proofs.Children.{none_yet}
use Rattle.ext_tree.proofs.building.empty_lists.Goals as goal

pub loop-preserved : goal.loop-preserved
loop-preserved c = record {
  filled = c.push_reserved.ensures.len ∙ ap (λ n. n + 1) c.loop.invariant.filled;
  room = c.push_reserved.ensures.capacity ∙ c.loop.invariant.room;
  count = ap length c.push_reserved.ensures.items ∙ length_push c.loop.lists.items _ ∙ ap (λ n. n + 1) c.loop.invariant.count;
  each = subst (λ lists. (k : ℕ) → k < c.loop.counter + 1 → HoldsAt (λ v. v.items ≡ []) lists k) (sym c.push_reserved.ensures.items)
      (held_more (λ k v. v.items ≡ []) c.loop.lists.items _ c.loop.counter c.loop.invariant.count c.loop.invariant.each c.new.ensures.items);
}

pub returns : goal.returns
returns c =
    let all : length c.args.ids.now ≡ c.loop.counter = omega (arith, c.loop-test.false, c.loop.auto.counter-end) in
    none_yet c.args.ids.now c.requires c.loop.lists.items (c.loop.invariant.count ∙ sym all) (λ k less. c.loop.invariant.each k (omega (arith, less, all)))
