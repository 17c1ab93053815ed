-- Slots that are taken one after another, and the outcomes in them.
use Rattle.std.proofs.Common.{◌≡◌, ℕ, ◌<◌, zero, suc, Bool, false, get_or, set, List, [], ◌∷◌, ◌++◌, take, map, ap, sym, refl, arith}
use Rattle.std.specs.Prelude.{Some, slice_get}
use mathlib.Core.Option.{some, some-injective, some-ne-none}
use lib.ListN.{get_elem?}
use Rattle.ext_crew.specs.InnerCounter.{outcome_in, outcomes_in}
use Rattle.ext_crew.specs.declared.jobs.slot.Slot.{Slot}
use Rattle.ext_crew.specs.declared.jobs.slot.Slot.TheVariants as slot

-- one more slot
pub outcomes-one_more : {T O : Type 0} (slots : List (Slot T O)) (k : ℕ) (x : Slot T O) → get_elem? slots k ≡ some x → outcomes_in (take (suc k) slots) ≡ outcomes_in (take k slots) ++ outcomes_in (x ∷ [])
outcomes-one_more [] k x at = absurd (some-ne-none x (sym at))
outcomes-one_more (y ∷ slots) zero x at = ap (λ z. outcomes_in (z ∷ [])) (some-injective y x at)
outcomes-one_more (slot.Item item ∷ slots) (suc k) x at = outcomes-one_more slots k x at
outcomes-one_more (slot.Outcome outcome ∷ slots) (suc k) x at = ap (λ l. outcome ∷ l) (outcomes-one_more slots k x at)
outcomes-one_more (slot.Empty ∷ slots) (suc k) x at = outcomes-one_more slots k x at

-- the outcome in a slot is the one at its index
pub outcome_at : {T O : Type 0} (slots : List (Slot T O)) (k : ℕ) (o : O) → get_elem? slots k ≡ some (slot.Outcome o) → slice_get (map outcome_in slots) k ≡ Some (Some o)
outcome_at [] k o at = absurd (some-ne-none (slot.Outcome o) (sym at))
outcome_at (x ∷ slots) zero o at = ap (λ z. Some (outcome_in z)) (some-injective x (slot.Outcome o) at)
outcome_at (x ∷ slots) (suc k) o at = outcome_at slots k o at

-- where all before an index are false, and that at the index becomes false, all up to it are
pub false_up_to : (marks : List Bool) (i k : ℕ) → k < suc i → ((j : ℕ) → j < i → get_or marks j false ≡ false) → get_or (set marks i false) k false ≡ false
false_up_to [] i k l before = refl
false_up_to (m ∷ marks) zero zero l before = refl
false_up_to (m ∷ marks) zero (suc k) l before = absurd (omega (arith, l))
false_up_to (m ∷ marks) (suc i) zero l before = before zero (omega arith)
false_up_to (m ∷ marks) (suc i) (suc k) l before = false_up_to marks i k (omega (arith, l)) (λ j b. before (suc j) (omega (arith, b)))
