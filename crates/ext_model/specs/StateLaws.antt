-- Laws of look-ups and of acts on any state, by which a reader may judge the definitions.
-- As in JUnit, a value is seen from all descendants of its context, unless a nearer context has one (User Guide,
-- "Keeping State in Extensions"; Javadoc `ExtensionContext.Store`, `get` and `put`). The laws of claims, kept faults
-- and seals are not from JUnit.
use Rattle.std.specs.Prelude.{ℕ, ◌≡◌, ◌≢◌, ◌↔◌, true, false, List, ◌∷◌, ◌++◌, All, Option, None, Some}
use Rattle.ext_model.specs.declared.event.Act.{Act}
use Rattle.ext_model.specs.declared.event.Act.TheVariants.{Put, Claim, Fail, Abandon, Seal}
use Rattle.ext_model.specs.declared.look.Look.TheVariants as look
use Rattle.ext_model.specs.declared.slot.Slot.{Slot}
use Rattle.ext_model.specs.declared.slot.Slot.TheVariants as slot
use Rattle.ext_model.specs.State.{State, look_in, lookup}
use Rattle.ext_model.specs.Events.{Happens, is_on}
use Rattle.ext_model.specs.Plain.{Place, same_place, under, plain_reply, next_state}

-- The first context of the path where anything stands decides, whatever stands farther away.
abbrev pub NearestDecides : Type 0
NearestDecides =
    (slots : ℕ → Option Slot) (nearer : List ℕ) (context : ℕ) (farther : List ℕ) (what : Slot)
    → All (λ c. slots c ≡ None) nearer → slots context ≡ Some what
    → lookup slots (nearer ++ context ∷ farther) ≡ look_in context (Some what)

-- If nothing stands in any context of the path, the look-up is absent.
abbrev pub EmptyPathIsAbsent : Type 0
EmptyPathIsAbsent = (slots : ℕ → Option Slot) (path : List ℕ) → All (λ c. slots c ≡ None) path
    → lookup slots path ≡ look.Absent

-- A fault that a look-up meets stands in the context that it names.
abbrev pub MetFaultStands : Type 0
MetFaultStands = (slots : ℕ → Option Slot) (path : List ℕ) (at number : ℕ) → lookup slots path ≡ look.Fault at number
    → slots at ≡ Some (slot.Fault number)

-- A number that was put is found from each context that has nothing nearer.
abbrev pub PutIsFound : Type 0
PutIsFound =
    (numbers : ℕ) (s : State Place) (lane context key number : ℕ) (stood : Option ℕ) (nearer farther : List ℕ)
    → All (λ c. s.slots (c, key) ≡ None) nearer → plain_reply numbers s lane (Put (context, key) number) ≡ Happens stood
    → lookup (under (next_state numbers s lane (Put (context, key) number)) key) (nearer ++ context ∷ farther)
    ≡ look.Found context number

-- A kept fault is met from each context that has nothing nearer.
abbrev pub FaultIsMet : Type 0
FaultIsMet =
    (numbers : ℕ) (s : State Place) (lane context key number : ℕ) (answer : Option ℕ) (nearer farther : List ℕ)
    → All (λ c. s.slots (c, key) ≡ None) nearer
    → plain_reply numbers s lane (Fail (context, key) number) ≡ Happens answer
    → lookup (under (next_state numbers s lane (Fail (context, key) number)) key) (nearer ++ context ∷ farther)
    ≡ look.Fault context number

-- `same_place` is equality.
abbrev pub PlacesAreTold : Type 0
PlacesAreTold = (p q : Place) → (same_place p q ≡ true) ↔ (p ≡ q)

-- An act changes no other place.
abbrev pub OthersStay : Type 0
OthersStay =
    (numbers : ℕ) (s : State Place) (lane : ℕ) (act : Act Place) (place : Place)
    → is_on same_place place act ≡ false → (next_state numbers s lane act).slots place ≡ s.slots place

-- A seal stays, whatever is done.
abbrev pub SealsStay : Type 0
SealsStay =
    (numbers : ℕ) (s : State Place) (lane : ℕ) (act : Act Place) (place : Place) (kept : Option ℕ)
    → s.slots place ≡ Some (slot.Sealed kept) → (next_state numbers s lane act).slots place ≡ Some (slot.Sealed kept)

-- A seal over a fault keeps no number.
abbrev pub SealPassesFault : Type 0
SealPassesFault =
    (numbers : ℕ) (s : State Place) (lane : ℕ) (place : Place) (number : ℕ)
    → s.slots place ≡ Some (slot.Fault number)
    → (next_state numbers s lane (Seal place)).slots place ≡ Some (slot.Sealed None)

-- A claim stays, whatever other lanes do.
abbrev pub ClaimsStay : Type 0
ClaimsStay =
    (numbers : ℕ) (s : State Place) (lane : ℕ) (act : Act Place) (place : Place) (by : ℕ)
    → s.slots place ≡ Some (slot.Claim by) → lane ≢ by
    → (next_state numbers s lane act).slots place ≡ Some (slot.Claim by)

-- Claiming an empty place and abandoning it changes nothing.
abbrev pub AbandonUndoesClaim : Type 0
AbandonUndoesClaim =
    (numbers : ℕ) (s : State Place) (lane : ℕ) (place : Place)
    → s.slots place ≡ None → next_state numbers (next_state numbers s lane (Claim place)) lane (Abandon place) ≡ s
