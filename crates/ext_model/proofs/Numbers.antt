-- In a legal history no number is above the limit.
use Rattle.std.proofs.Common.{◌≡◌, ℕ, ◌+◌, ◌≤◌, ◌<◌, Bool, true, false, [], ◌∷◌, ◌++◌, inl, inr, refl, sym, subst, arith, Option, None, Some}
use Rattle.std.specs.Prelude.{nat_eq, nat_lt, Contains, if◌then◌else◌}
use Rattle.std.proofs.lemmas.List.Elements.{Contains-push_cases}
use Rattle.std.proofs.lemmas.Bool.Decides.{nat_tests}
use Rattle.ext_model.specs.declared.event.Act.{Act}
use Rattle.ext_model.specs.declared.event.Act.TheVariants.{Keep, Put, Remove, Claim, Fill, Fail, Abandon, Seal}
use Rattle.ext_model.specs.declared.event.Event.{Event}
use Rattle.ext_model.specs.declared.slot.Slot.{Slot}
use Rattle.ext_model.specs.declared.slot.Slot.TheVariants as slot
use Rattle.ext_model.specs.State.{standing_value}
use Rattle.ext_model.specs.Events.{Happens, Refuses, NumbersFull, slot_after, drawn_after, is_on, apply}
use Rattle.ext_model.specs.History.{History, Limits, state_after, by, IsAllowed, IsLegal}
use Rattle.ext_model.specs.CellWords.{number_code}
use Rattle.ext_history.proofs.Legal.{legal_steps}
use Rattle.ext_model.proofs.Words.{after-push}

-- the count and the numbers at the cells are within the limit, and the numbers drawn within the count
pub record IsBounded (numbers : ℕ) (h : History) : Type 0 where
  pub drawn : (state_after h).drawn ≤ numbers
  pub kept : (lane number : ℕ) → Contains h (by lane (Keep number)) → number ≤ (state_after h).drawn
  pub slots : (cell : ℕ) → number_code ((state_after h).slots cell) ≤ numbers

keep_happens : (numbers drawn : ℕ) (b : Bool) (answer : Option ℕ) → nat_lt drawn numbers ≡ b → (if b then Happens (Some (drawn + 1)) else Refuses NumbersFull) ≡ Happens answer → drawn < numbers
keep_happens numbers drawn true answer is happens = grind (arith, nat_tests)
keep_happens numbers drawn false answer is happens = absurd (cc happens)

drawn_rises : (act : Act ℕ) (drawn : ℕ) → drawn ≤ drawn_after act drawn
drawn_rises (Keep number) drawn = omega arith
drawn_rises (Put at number) drawn = omega arith
drawn_rises (Remove at) drawn = omega arith
drawn_rises (Claim at) drawn = omega arith
drawn_rises (Fill at number) drawn = omega arith
drawn_rises (Fail at number) drawn = omega arith
drawn_rises (Abandon at) drawn = omega arith
drawn_rises (Seal at) drawn = omega arith

either_bound : (b : Bool) (x y : Option Slot) (m : ℕ) → number_code x ≤ m → number_code y ≤ m → number_code (if b then x else y) ≤ m
either_bound true x y m p q = p
either_bound false x y m p q = q

sealed_bound : (old : Option Slot) (m : ℕ) → number_code old ≤ m → number_code (Some (slot.Sealed (standing_value old))) ≤ m
sealed_bound None m p = omega arith
sealed_bound (Some (slot.Entry number)) m p = p
sealed_bound (Some (slot.Fault number)) m p = omega arith
sealed_bound (Some (slot.Claim lane)) m p = omega arith
sealed_bound (Some (slot.Sealed kept)) m p = omega arith

module _ {limits : Limits} (before : History) (lane : ℕ) (b : IsBounded limits.numbers before) where
  drawn_bound : (act : Act ℕ) → IsAllowed limits before (by lane act) → drawn_after act (state_after before).drawn ≤ limits.numbers
  drawn_bound (Keep number) a = let p = keep_happens limits.numbers (state_after before).drawn _ a.happens.0 refl a.happens.1 in omega arith
  drawn_bound (Put at number) a = b.drawn
  drawn_bound (Remove at) a = b.drawn
  drawn_bound (Claim at) a = b.drawn
  drawn_bound (Fill at number) a = b.drawn
  drawn_bound (Fail at number) a = b.drawn
  drawn_bound (Abandon at) a = b.drawn
  drawn_bound (Seal at) a = b.drawn

  left_bound : (act : Act ℕ) (cell : ℕ) → IsAllowed limits before (by lane act) → number_code (slot_after lane act ((state_after before).slots cell)) ≤ limits.numbers
  left_bound (Keep number) cell a = b.slots cell
  left_bound (Put at number) cell a = let p = b.kept lane number a.drew in let q = b.drawn in omega arith
  left_bound (Remove at) cell a = omega arith
  left_bound (Claim at) cell a = omega arith
  left_bound (Fill at number) cell a = let p = b.kept lane number a.drew in let q = b.drawn in omega arith
  left_bound (Fail at number) cell a = let p = b.kept lane number a.drew in let q = b.drawn in omega arith
  left_bound (Abandon at) cell a = omega arith
  left_bound (Seal at) cell a = sealed_bound ((state_after before).slots cell) limits.numbers (b.slots cell)

kept_bound : {limits : Limits} (before : History) (e : Event ℕ) (drawn lane number : ℕ) → IsAllowed limits before e → (state_after before).drawn ≡ drawn → e ≡ by lane (Keep number) → number ≤ drawn_after e.act drawn
kept_bound {limits} before e drawn lane number a is same =
    let P : Event ℕ → Type 0 = λ x. IsAllowed limits before x → number ≤ drawn_after x.act drawn in
    subst P (sym same) (λ w. let p = w.next in omega arith) a

bounded_step : {limits : Limits} (before : History) (e : Event ℕ) → IsAllowed limits before e → IsBounded limits.numbers before → IsBounded limits.numbers (before ++ e ∷ [])
bounded_step {limits} before e a b =
    let s : state_after (before ++ e ∷ []) ≡ apply nat_eq (state_after before) e = after-push before e in
    record {
      drawn = rw s (drawn_bound before e.lane b e.act a);
      kept = λ lane number there. rw s (elim (Contains-push_cases before e (by lane (Keep number)) there) [
        | inl old ↦ let p = b.kept lane number old in let q = drawn_rises e.act (state_after before).drawn in omega arith
        | inr new ↦ kept_bound before e (state_after before).drawn lane number a refl new
      ]);
      slots = λ cell. rw s (either_bound (is_on nat_eq cell e.act) _ _ limits.numbers (left_bound before e.lane b e.act cell a) (b.slots cell));
    }

nothing_in_empty : (x : Event ℕ) → Contains [] x → ⊥
nothing_in_empty x c = absurd (omega (arith, c.1))

pub bounded : {limits : Limits} (h : History) → IsLegal limits h → IsBounded limits.numbers h
bounded {limits} h legal =
    legal_steps (IsBounded limits.numbers) bounded_step [] h legal (record {
      drawn = omega arith;
      kept = λ lane number there. absurd (nothing_in_empty _ there);
      slots = λ cell. omega arith;
    })
