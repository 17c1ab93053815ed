use Rattle.std.proofs.Common.{◌≡◌, ◌∙◌, ℕ, ◌≤◌, ◌<◌, Some, None, length, refl, sym, ap, subst, arith}
use Rattle.ext_model.specs.declared.event.Act.TheVariants.{Seal}
use Rattle.ext_model.specs.declared.slot.Slot.TheVariants as slot
use Rattle.ext_model.specs.Closing.{put_in_kept}
use Rattle.ext_model.specs.Plain.{under}
use Rattle.ext_plan_plain.specs.ValueStates.{after_act}
use Rattle.ext_plan_plain.specs.InnerUsed.{is_used}
use Rattle.ext_plan_plain.specs.InnerSteps.{state_view}
use Rattle.ext_plan_plain.proofs.ContextSeals.{places_stay, seals_over, numbers_over, still_sealed}
use Rattle.ext_plan_plain.proofs.Sealing.{seal_keys-zero, seal_keys-more, numbers_left-more}
use Rattle.ext_plan_plain.proofs.value_store.ValueStore.seal_used.Goals as goal

pub loop-key-init : goal.loop-key-init
loop-key-init c = record {
  state = sym (seal_keys-zero c.args.at (state_view c.args.self.now));
  numbers = c.new-numbers.ensures;
  few = omega (arith, ap length c.new-numbers.ensures);
  within = omega arith;
  used = refl;
}

pub next_used-requires : goal.next_used-requires
next_used-requires c =
    let same = ap (λ s. s.places) c.loop-key.invariant.state ∙ places_stay c.loop-key.from c.args.at (state_view c.args.self.now) in
    let within = c.loop-key.invariant.within in
    omega (arith, same, within)

pub loop-key-preserved : goal.loop-key-preserved
loop-key-preserved c =
    let at = c.args.at in
    let from = c.loop-key.from in
    let key = c.in-Some.key in
    let first = state_view c.args.self.now in
    let s = state_view c.loop-key.self in
    let t = state_view c.seal.new.self in
    let same = ap (λ s. s.places) c.loop-key.invariant.state ∙ places_stay from at first in
    let next = c.in-Some.ensures.next in
    let least : from ≤ key = next.from in
    let within : key < s.places = next.within in
    let spared : (other : ℕ) → from ≤ other → other < key → under first.store other at ≡ Some (slot.Sealed None) = λ other after before.
    let below : other < key = before in
    c.requires.unused other (omega (arith, below, within, same)) (ap (λ used. is_used used (at, other)) (sym c.loop-key.invariant.used) ∙ next.between other after before) in
    let skipped = seals_over from key at first least spared in
    let kept = numbers_over from key at s least (λ other after before. still_sealed from other at first s c.loop-key.invariant.state (spared other after before)) in
    let left = numbers_left-more key at s t c.in_ok-kept.kept c.in_ok-kept.ensures.state c.in_ok-kept.ensures.kept in
    record {
      state = c.in_ok-kept.ensures.state ∙ ap (after_act (Seal (at, key))) (c.loop-key.invariant.state ∙ sym skipped) ∙ sym (seal_keys-more key at first);
      numbers = c.put_in_kept.ensures.numbers ∙ ap (put_in_kept c.in_ok-kept.kept) (c.loop-key.invariant.numbers ∙ sym kept) ∙ sym left;
      few = omega (arith, c.put_in_kept.ensures.few, c.loop-key.invariant.few, least);
      within = omega (arith, within, same);
      used = c.in_ok-kept.ensures.used ∙ c.loop-key.invariant.used;
    }

pub loop-key-smaller : goal.loop-key-smaller
loop-key-smaller c =
    let same = ap (λ s. s.places) c.loop-key.invariant.state ∙ places_stay c.loop-key.from c.args.at (state_view c.args.self.now) in
    let least = c.in-Some.ensures.next.from in
    let within = c.in-Some.ensures.next.within in
    omega (arith, same, least, within)

pub returns-clause-state : goal.returns-clause-state
returns-clause-state c =
    let at = c.args.at in
    let from = c.loop-key.from in
    let first = state_view c.args.self.now in
    let spared : (key : ℕ) → from ≤ key → key < first.places → under first.store key at ≡ Some (slot.Sealed None) = λ key least below.
    let same = ap (λ s. s.places) c.loop-key.invariant.state ∙ places_stay from at first in
    c.requires.unused key below (ap (λ used. is_used used (at, key)) (sym c.loop-key.invariant.used) ∙ c.in_default.ensures.none key least (omega (arith, below, same))) in
    c.loop-key.invariant.state ∙ sym (seals_over from first.places at first c.loop-key.invariant.within spared)

pub returns-clause-numbers : goal.returns-clause-numbers
returns-clause-numbers c =
    let at = c.args.at in
    let from = c.loop-key.from in
    let first = state_view c.args.self.now in
    let s = state_view c.loop-key.self in
    let spared : (key : ℕ) → from ≤ key → key < first.places → under s.store key at ≡ Some (slot.Sealed None) = λ key least below.
    let same = ap (λ s. s.places) c.loop-key.invariant.state ∙ places_stay from at first in
    still_sealed from key at first s c.loop-key.invariant.state
    (c.requires.unused key below (ap (λ used. is_used used (at, key)) (sym c.loop-key.invariant.used) ∙ c.in_default.ensures.none key least (omega (arith, below, same)))) in
    c.loop-key.invariant.numbers ∙ sym (numbers_over from first.places at s c.loop-key.invariant.within spared)
