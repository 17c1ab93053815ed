use Rattle.std.proofs.Common.{◌≡◌, ◌≢◌, ◌<◌, ◌+◌, ◌-◌, ◌∙◌, sym, ap, arith, length, get_or, refl, Err, ⊎_elim}
use Rattle.std.proofs.lemmas.Bool.{false≢true, cases_eq}
use Rattle.ext_ids.specs.declared.fault.IdFault.TheVariants as faults
use Rattle.ext_ids.specs.Reading.{read_id}
use Rattle.ext_ids.proofs.Steps.{at_fault, at_end, at_raw, at_slash, read_empty, read_some, segments_end, with_front-cons, with_front-nil, with_front}
use Rattle.ext_ids.proofs.id.segments_of.Goals as goal

pub loop-init : goal.loop-init
loop-init c =
    let some : length c.args.text.now ≢ 0 = λ e. let bad = rw (read_empty c.args.text.now e) at c.requires in absurd (false≢true bad) in
    record { within = omega arith; rest = read_some c.args.text.now some ∙ sym (with_front-nil _) ∙ rw c.new-segments.ensures.items refl }

pub unreachable-requires : goal.unreachable-requires
unreachable-requires c =
    let h : c.loop.counter < 16 = omega arith in
    let all = c.loop.invariant.rest ∙ ap (with_front _) (at_fault c.loop.counter c.args.text.now c.loop.at _ h (rw c.as_bytes.ensures.value at c.in_default.ensures.exact)) in
    let bad = rw all at c.requires in false≢true bad

pub returns-then-next-text : goal.returns-then-next-text
returns-then-next-text c =
    let h : c.loop.counter < 16 = omega arith in
    let whole : c.in-Ok.ends.value + 1 ≡ length c.args.text.now = omega arith in
    let all = c.loop.invariant.rest ∙ ap (with_front _) (at_end c.loop.counter c.args.text.now c.loop.at (c.in-Ok.ends.kind, c.in-Ok.ends.value) h (rw c.as_bytes.ensures.value at c.in-Ok.ensures.exact) whole) in
    all ∙ rw (c.in_ok-push.ensures.items, c.in_ok-segment.ensures) refl

pub loop-preserved : goal.loop-preserved
loop-preserved c =
    let h : c.loop.counter < 16 = omega arith in
    let more : c.in-Ok.ends.value + 1 ≢ length c.args.text.now = omega arith in
    let read = rw c.as_bytes.ensures.value at c.in-Ok.ensures.exact in
    let slash : get_or c.args.text.now (c.in-Ok.ends.value + 1) 0 ≡ 47 = ⊎_elim
    (λ e. e)
    (λ other.
    let all = c.loop.invariant.rest ∙ ap (with_front _) (at_raw c.loop.counter c.args.text.now c.loop.at (c.in-Ok.ends.kind, c.in-Ok.ends.value) h read more other) in
    let bad = rw all at c.requires in absurd (false≢true bad))
    (cases_eq (get_or c.args.text.now (c.in-Ok.ends.value + 1) 0) 47) in
    let step = at_slash c.loop.counter c.args.text.now c.loop.at (c.in-Ok.ends.kind, c.in-Ok.ends.value) h read more slash in
    let two : c.in-Ok.ends.value + 1 + 1 ≡ c.in-Ok.ends.value + 2 = omega arith in
    record {
      within = omega (arith, more, c.in-Ok.ensures.order, ap length c.as_bytes.ensures.value);
      rest = c.loop.invariant.rest ∙ ap (with_front _) step ∙ with_front-cons _ _ _ ∙ rw (two, c.in_ok-push.ensures.items, c.in_ok-segment.ensures) refl;
    }

pub unreachable-requires-2 : goal.unreachable-requires-2
unreachable-requires-2 c =
    let none : 16 - c.loop.counter ≡ 0 = omega arith in
    let all : read_id c.args.text.now ≡ Err faults.TooDeep = c.loop.invariant.rest ∙ rw (none, segments_end c.args.text.now c.loop.at) refl in
    let bad = rw all at c.requires in false≢true bad
