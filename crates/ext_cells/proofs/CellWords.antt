-- The words of a legal history: what each tells, and what they are after one more event.
use Rattle.std.proofs.Common.{◌≡◌, ◌≢◌, inl, inr, ℕ, ◌+◌, ◌^◌, ◌<◌, ◌≤◌, Bool, true, false, [], ◌∷◌, ◌++◌, refl, sym, ap, subst, ◌∙◌, arith, nat_eq, Option, None, Some, Contains, eq-eqb}
use Rattle.std.specs.Prelude.{if◌then◌else◌}
use Rattle.std.proofs.lemmas.List.Elements.{Contains-push_cases}
use mathlib.Core.Logic.{dite}
use native.Mathlib.Decide.{ℕ_discrete}
use Rattle.ext_model.specs.declared.event.Act.{Act}
use Rattle.ext_model.specs.declared.event.Act.TheVariants.{Keep, Put, Remove, Claim, Fill, Fail, Abandon, Seal}
use Rattle.ext_model.specs.declared.event.Event.{Event}
use Rattle.ext_model.specs.declared.slot.Slot.{Slot}
use Rattle.ext_model.specs.declared.slot.Slot.TheVariants as slot
use Rattle.ext_model.specs.State.{standing_value}
use Rattle.ext_model.specs.Events.{slot_after, place_of, is_at, is_on}
use Rattle.ext_model.specs.History.{History, Limits, by, state_after, version_of, IsAllowed, IsLegal}
use Rattle.ext_model.specs.CellWords.{state_code, number_code, word, slot_word}
use Rattle.ext_history.proofs.Legal.{legal_induct}
use Rattle.ext_history.proofs.Lists.{contains_none}
use Rattle.ext_model.proofs.Numbers.{bounded}
use Rattle.ext_model.proofs.Claims.{claim_can_end, can_be_sealed}
use Rattle.ext_model.proofs.Words.{after-push, word-event}
use Rattle.ext_cells.specs.declared.cell_state.CellState.TheVariants.{Sealed}
use Rattle.ext_cells.specs.WordChanges.{code}
use Rattle.ext_cells.specs.InnerTableSteps.{IsWordAt}
use Rattle.ext_cells.specs.InnerDeciding.{state_of, IsNumbered, IsCellWord}

-- ---- a number that stands is not 0

pub kept_least : {limits : Limits} (h : History) → IsLegal limits h → (lane number : ℕ) → Contains h (by lane (Keep number)) → 1 ≤ number
kept_least {limits} h legal = legal_induct (IsAllowed limits) Fact (λ lane number there. absurd (contains_none _ there)) step h legal
  where
    Fact : History → Type 0
    Fact g = (lane number : ℕ) → Contains g (by lane (Keep number)) → 1 ≤ number

    now : (g : History) (e : Event ℕ) (lane number : ℕ) → IsAllowed limits g e → e ≡ by lane (Keep number) → 1 ≤ number
    now g e lane number allowed is =
        let P : Event ℕ → Type 0 = λ x. IsAllowed limits g x in
        let next = (subst P is allowed).next in
        omega (arith, next)

    step : (g : History) (e : Event ℕ) → IsLegal limits g → Fact g → IsAllowed limits g e → Fact (g ++ e ∷ [])
    step g e legal fact allowed lane number there = elim (Contains-push_cases g e (by lane (Keep number)) there) [
      | inl old ↦ fact lane number old
      | inr new ↦ now g e lane number allowed new
    ]

sealed_numbered : (s : Option Slot) → IsNumbered s → IsNumbered (Some (slot.Sealed (standing_value s)))
sealed_numbered None is = tt
sealed_numbered (Some (slot.Entry number)) is = is
sealed_numbered (Some (slot.Fault number)) is = tt
sealed_numbered (Some (slot.Claim lane)) is = tt
sealed_numbered (Some (slot.Sealed kept)) is = tt

either_numbered : (b : Bool) (x y : Option Slot) → IsNumbered x → IsNumbered y → IsNumbered (if b then x else y)
either_numbered true x y p q = p
either_numbered false x y p q = q

left_numbered : {limits : Limits} (h : History) (lane : ℕ) (act : Act ℕ) (s : Option Slot) → IsLegal limits h → IsAllowed limits h (by lane act) → IsNumbered s → IsNumbered (slot_after lane act s)
left_numbered h lane (Keep number) s legal a is = is
left_numbered h lane (Put at number) s legal a is = kept_least h legal lane number a.drew
left_numbered h lane (Remove at) s legal a is = tt
left_numbered h lane (Claim at) s legal a is = tt
left_numbered h lane (Fill at number) s legal a is = kept_least h legal lane number a.drew
left_numbered h lane (Fail at number) s legal a is = kept_least h legal lane number a.drew
left_numbered h lane (Abandon at) s legal a is = tt
left_numbered h lane (Seal at) s legal a is = sealed_numbered s is

pub numbered : {limits : Limits} (h : History) → IsLegal limits h → (cell : ℕ) → IsNumbered ((state_after h).slots cell)
numbered {limits} h legal = legal_induct (IsAllowed limits) (λ g. (cell : ℕ) → IsNumbered ((state_after g).slots cell)) (λ cell. tt) step h legal
  where
    step : (g : History) (e : Event ℕ) → IsLegal limits g → ((cell : ℕ) → IsNumbered ((state_after g).slots cell)) → IsAllowed limits g e → (cell : ℕ) → IsNumbered ((state_after (g ++ e ∷ [])).slots cell)
    step g e legal is allowed cell = subst (λ s. IsNumbered (s.slots cell)) (sym (after-push g e)) (either_numbered (is_on nat_eq cell e.act) _ _ (left_numbered g e.lane e.act _ legal allowed (is cell)) (is cell))

-- ---- what the word of a cell tells

pub code_is : (s : Option Slot) → state_code s ≡ code (state_of s)
code_is None = refl
code_is (Some (slot.Entry number)) = refl
code_is (Some (slot.Fault number)) = refl
code_is (Some (slot.Claim lane)) = refl
code_is (Some (slot.Sealed kept)) = refl

room : {limits : Limits} (h : History) (cell : ℕ) (s : Option Slot) → (state_after h).slots cell ≡ s → IsLegal limits h → (state_of s ≢ Sealed) → version_of h cell + 1 < 2 ^ 40
room h cell None is legal ne = can_be_sealed h cell legal (rw is tt)
room h cell (Some (slot.Entry number)) is legal ne = can_be_sealed h cell legal (rw is tt)
room h cell (Some (slot.Fault number)) is legal ne = can_be_sealed h cell legal (rw is tt)
room h cell (Some (slot.Claim lane)) is legal ne = let l = claim_can_end h lane cell legal is in omega (arith, l)
room h cell (Some (slot.Sealed kept)) is legal ne = absurd (ne refl)

pub cell_word : {limits : Limits} (h : History) (cell w : ℕ) → limits.numbers < 2 ^ 20 → IsLegal limits h → IsWordAt limits h cell w → cell < limits.cells → IsCellWord ((state_after h).slots cell) (version_of h cell) w
cell_word h cell w few legal at within =
    let least = (bounded h legal).slots cell in record {
      is = at.cell within ∙ ap (λ k. word k (number_code ((state_after h).slots cell)) (version_of h cell)) (code_is ((state_after h).slots cell));
      fits = omega (arith, least, few);
      numbered = numbered h legal cell;
      room = room h cell ((state_after h).slots cell) refl legal;
    }

-- an index has one word
pub one_word : (limits : Limits) (h : History) (index v w : ℕ) → index ≤ limits.cells → IsWordAt limits h index v → IsWordAt limits h index w → v ≡ w
one_word limits h index v w within a b = dite (ℕ_discrete index limits.cells)
    (λ last. a.count last ∙ sym (b.count last))
    (λ (ne : index ≡ limits.cells → ⊥). let less : index < limits.cells = omega (arith, within, ne) in a.cell less ∙ sym (b.cell less))

-- ---- after one more event

on_same : (cell : ℕ) → nat_eq cell cell ≡ true
on_same cell = eq-eqb cell cell refl

-- the word of the cell that the act is on
pub word_after : (limits : Limits) (h : History) (lane : ℕ) (act : Act ℕ) (cell next : ℕ) → place_of act ≡ Some cell → cell < limits.cells → next ≡ slot_word (slot_after lane act ((state_after h).slots cell)) (version_of h cell + 1)
    → IsWordAt limits (h ++ by lane act ∷ []) cell next
word_after limits h lane act cell next on within is = record {
  cell = λ less. is ∙ sym (word-event h (by lane act) cell (ap (is_at nat_eq cell) on ∙ on_same cell));
  count = λ last. absurd (omega (arith, within, last));
}
