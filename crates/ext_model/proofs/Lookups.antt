-- The look-up, from one context of the path to the next.
use Rattle.std.proofs.Common.{◌≡◌, ℕ, ◌+◌, ◌<◌, cond, Bool, true, false, List, [], ◌∷◌, ◌++◌, length, drop, slice_index, drop-cons, add-one, ap, refl, subst, ◌∙◌, sym, Option, None, Some, is_some, find}
use Rattle.std.specs.Prelude.{if◌then◌else◌, All}
use Rattle.std.proofs.lemmas.List.Elements.{All-head, All-tail}
use Rattle.ext_model.specs.declared.slot.Slot.{Slot}
use Rattle.ext_model.specs.declared.event.Act.TheVariants.{Put, Fail}
use Rattle.ext_model.specs.declared.look.Look.TheVariants as look
use Rattle.ext_model.specs.declared.slot.Slot.TheVariants as slot
use Rattle.ext_model.specs.State.{State, lookup, look_at, look_in}
use Rattle.ext_model.specs.Events.{Happens}
use Rattle.ext_model.specs.Plain.{Place, same_place, under, with_slot, state_by, plain_reply, next_state}
use Rattle.ext_model.proofs.Changes.{same_place_is, here}

first_decides : (slots : ℕ → Option Slot) (context : ℕ) (path : List ℕ) (slot : Slot) → slots context ≡ Some slot → lookup slots (context ∷ path) ≡ look_in context (Some slot)
first_decides slots context path slot is =
    ap (λ b. look_at slots (cond b (Some context) (find (λ c. is_some (slots c)) path))) (ap is_some is) ∙ ap (look_in context) is

first_passed : (slots : ℕ → Option Slot) (context : ℕ) (path : List ℕ) → slots context ≡ None → lookup slots (context ∷ path) ≡ lookup slots path
first_passed slots context path is = ap (λ b. look_at slots (cond b (Some context) (find (λ c. is_some (slots c)) path))) (ap is_some is)

-- the context where something stands decides
pub lookup_here : (slots : ℕ → Option Slot) (path : List ℕ) (i : ℕ) (slot : Slot) → i < length path → slots (slice_index path i) ≡ Some slot → lookup slots (drop i path) ≡ look_in (slice_index path i) (Some slot)
lookup_here slots path i slot within is = ap (lookup slots) (drop-cons path i 0 within) ∙ first_decides slots _ _ slot is

-- and one where nothing stands is passed
pub lookup_past : (slots : ℕ → Option Slot) (path : List ℕ) (i : ℕ) → i < length path → slots (slice_index path i) ≡ None → lookup slots (drop i path) ≡ lookup slots (drop (i + 1) path)
lookup_past slots path i within is = ap (lookup slots) (drop-cons path i 0 within) ∙ first_passed slots _ _ is ∙ ap (λ k. lookup slots (drop k path)) (sym (add-one i))

-- contexts where nothing stands are passed, and the first where anything stands decides
pub nearest_decides : (slots : ℕ → Option Slot) (nearer : List ℕ) (context : ℕ) (farther : List ℕ) (slot : Slot) → All (λ c. slots c ≡ None) nearer → slots context ≡ Some slot
    → lookup slots (nearer ++ context ∷ farther) ≡ look_in context (Some slot)
nearest_decides slots [] context farther slot none is = first_decides slots context farther slot is
nearest_decides slots (c ∷ nearer) context farther slot none is =
    first_passed slots c (nearer ++ context ∷ farther) (All-head (λ k. slots k ≡ None) c nearer none)
    ∙ nearest_decides slots nearer context farther slot (All-tail (λ k. slots k ≡ None) c nearer none) is

pub empty_path : (slots : ℕ → Option Slot) (path : List ℕ) → All (λ c. slots c ≡ None) path → lookup slots path ≡ look.Absent
empty_path slots [] none = refl
empty_path slots (c ∷ path) none = first_passed slots c path (All-head (λ k. slots k ≡ None) c path none) ∙ empty_path slots path (All-tail (λ k. slots k ≡ None) c path none)

-- what was set in a context is met from those that have nothing nearer
found_from : (s : State Place) (key context : ℕ) (what : Slot) (nearer farther : List ℕ) → All (λ c. s.slots (c, key) ≡ None) nearer
    → lookup (under (with_slot s (context, key) (Some what)) key) (nearer ++ context ∷ farther) ≡ look_in context (Some what)
found_from s key context what [] farther none =
    first_decides (under (with_slot s (context, key) (Some what)) key) context farther what (ap (λ b. if b then Some what else s.slots (context, key)) (here (context, key)))
found_from s key context what (c ∷ nearer) farther none =
    let slots : ℕ → Option Slot = under (with_slot s (context, key) (Some what)) key in
    let chosen : Bool → Option Slot = λ b. if b then Some what else s.slots (c, key) in
    elim (same_place (context, key) (c, key)) as (λ b. same_place (context, key) (c, key) ≡ b → lookup slots (c ∷ (nearer ++ context ∷ farther)) ≡ look_in context (Some what)) [
      | true ↦ λ same. first_decides slots c (nearer ++ context ∷ farther) what (ap chosen same)
          ∙ ap (λ (p : Place). look_in p.0 (Some what)) (sym (same_place_is (context, key) (c, key) same))
      | false ↦ λ other. first_passed slots c (nearer ++ context ∷ farther) (ap chosen other ∙ All-head (λ k. s.slots (k, key) ≡ None) c nearer none)
          ∙ found_from s key context what nearer farther (All-tail (λ k. s.slots (k, key) ≡ None) c nearer none)
    ] refl

-- a number that was put is found from each context that has nothing nearer
pub put_found : (numbers : ℕ) (s : State Place) (lane context key number : ℕ) (stood : Option ℕ) (nearer farther : List ℕ) → All (λ c. s.slots (c, key) ≡ None) nearer
    → plain_reply numbers s lane (Put (context, key) number) ≡ Happens stood
    → lookup (under (next_state numbers s lane (Put (context, key) number)) key) (nearer ++ context ∷ farther) ≡ look.Found context number
put_found numbers s lane context key number stood nearer farther none happens =
    ap (λ r. lookup (under (state_by r s (record { lane = lane; act = Put (context, key) number })) key) (nearer ++ context ∷ farther)) happens
    ∙ found_from s key context (slot.Entry number) nearer farther none

-- and so is a fault that was kept
pub fault_met : (numbers : ℕ) (s : State Place) (lane context key number : ℕ) (answer : Option ℕ) (nearer farther : List ℕ) → All (λ c. s.slots (c, key) ≡ None) nearer
    → plain_reply numbers s lane (Fail (context, key) number) ≡ Happens answer
    → lookup (under (next_state numbers s lane (Fail (context, key) number)) key) (nearer ++ context ∷ farther) ≡ look.Fault context number
fault_met numbers s lane context key number answer nearer farther none happens =
    ap (λ r. lookup (under (state_by r s (record { lane = lane; act = Fail (context, key) number })) key) (nearer ++ context ∷ farther)) happens
    ∙ found_from s key context (slot.Fault number) nearer farther none

-- a fault that decides stands in the context that is named
fault_in : (context : ℕ) (x : Option Slot) (at number : ℕ) → look_in context x ≡ look.Fault at number → (context ≡ at) × (x ≡ Some (slot.Fault number))
fault_in context None at number is = absurd (cc is)
fault_in context (Some (slot.Entry n)) at number is = absurd (cc is)
fault_in context (Some (slot.Fault n)) at number is = (cc is, cc is)
fault_in context (Some (slot.Claim lane)) at number is = absurd (cc is)
fault_in context (Some (slot.Sealed kept)) at number is = absurd (cc is)

fault_at : (slots : ℕ → Option Slot) (o : Option ℕ) (at number : ℕ) → look_at slots o ≡ look.Fault at number → slots at ≡ Some (slot.Fault number)
fault_at slots None at number is = absurd (cc is)
fault_at slots (Some context) at number is = let f = fault_in context (slots context) at number is in subst (λ c. slots c ≡ Some (slot.Fault number)) f.0 f.1

pub met_fault_stands : (slots : ℕ → Option Slot) (path : List ℕ) (at number : ℕ) → lookup slots path ≡ look.Fault at number → slots at ≡ Some (slot.Fault number)
met_fault_stands slots path at number is = fault_at slots (find (λ c. is_some (slots c)) path) at number is
