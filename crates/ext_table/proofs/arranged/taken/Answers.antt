use Rattle.std.proofs.Common.{◌≡◌, ◌<◌, Some, None, ap, sym, ◌∙◌, get_or, map, length}
use Rattle.std.proofs.lemmas.List.{get_or_default, take_all}
use Rattle.std.specs.Prelude.{slice_get}
use Rattle.ext_table.proofs.Arranging.{all_left, left_more, not_empty, taken_more}
use Rattle.ext_table.proofs.arranged.taken.Goals as goal

pub loop-index-init : goal.loop-index-init
loop-index-init g c = record {
  left = λ index new. ap (λ s. get_or s index None) (c.as_mut_slice-slots.ensures.value ∙ c.in_ok-slots.ensures) ∙ all_left c.args.items.items index;
  taken = λ are. ap (map (λ x. Some x)) c.in_ok-taken.ensures.items;
}

pub loop-index-preserved-in_default : goal.loop-index-preserved-in_default
loop-index-preserved-in_default g c =
    let i = c.loop-index.index-index in
    let indices = c.args.indices.now in
    let p = get_or indices i 0 in
    let at : (i < length indices) × (p ≡ get_or indices i p) = (c.loop-index-test.true, get_or_default indices i 0 p c.loop-index-test.true) in
    record {
      left = left_more c.args.items.items indices c.loop-index.slots i p c.take_at.new.slots at c.loop-index.invariant.left c.take_at.ensures.left;
      taken = λ are. absurd (not_empty c.args.items.items indices c.loop-index.slots i p are at c.loop-index.invariant.left (sym c.take_at.ensures.taken ∙ c.in_default.is));
    }

pub loop-index-preserved : goal.loop-index-preserved
loop-index-preserved g c =
    let i = c.loop-index.index-index in
    let indices = c.args.indices.now in
    let p = get_or indices i 0 in
    let at : (i < length indices) × (p ≡ get_or indices i p) = (c.loop-index-test.true, get_or_default indices i 0 p c.loop-index-test.true) in
    record {
      left = left_more c.args.items.items indices c.loop-index.slots i p c.take_at.new.slots at c.loop-index.invariant.left c.take_at.ensures.left;
      taken = λ are. ap (map (λ x. Some x)) c.in_ok-push.ensures.items
          ∙ taken_more c.args.items.items indices c.loop-index.slots c.loop-index.taken.items i p c.in-Some.item are at c.loop-index.invariant.left (sym c.take_at.ensures.taken ∙ c.in-Some.is) (c.loop-index.invariant.taken are);
    }

pub returns : goal.returns
returns g c = λ are. c.loop-index.invariant.taken are ∙ ap (map (slice_get c.args.items.items)) (take_all c.loop-index.index-index c.args.indices.now c.loop-index-test.false)
