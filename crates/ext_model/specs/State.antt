-- The state of a store, and the look-up from a context through its ancestors.
-- As in JUnit, a look-up asks the context itself and then its ancestors, nearest first, under the same key (User Guide,
-- "Keeping State in Extensions"; Javadoc `ExtensionContext.Store`, `get`, and `NamespacedHierarchicalStore`, `get`).
-- Not from JUnit: a kept fault, a claim or a seal decides a look-up just as a value does, and values and faults are
-- seen by their numbers.
use Rattle.std.specs.Prelude.{ℕ, List, Option, None, Some, is_some, find}
use Rattle.ext_model.specs.declared.look.Look.{Look}
use Rattle.ext_model.specs.declared.look.Look.TheVariants as look
use Rattle.ext_model.specs.declared.slot.Slot.{Slot}
use Rattle.ext_model.specs.declared.slot.Slot.TheVariants as slot

-- What stands at each place of type P, and how many numbers have been drawn. A place is empty (`None`) or has one
-- thing: the number of a value, that of a kept fault, a claim or a seal.
pub record State (P : Type 0) : Type 0 where
  pub slots : P → Option Slot
  pub drawn : ℕ

-- The newly opened store: nothing stands anywhere, and no number is drawn.
abbrev pub opening : {P : Type 0} → State P
opening = record { slots = λ place. None; drawn = 0 }

-- The number of the value or kept fault that stands there.
abbrev pub standing : Option Slot → Option ℕ
standing None = None
standing (Some (slot.Entry number)) = Some number
standing (Some (slot.Fault number)) = Some number
standing (Some (slot.Claim lane)) = None
standing (Some (slot.Sealed kept)) = None

-- The number of the value that stands there.
abbrev pub standing_value : Option Slot → Option ℕ
standing_value None = None
standing_value (Some (slot.Entry number)) = Some number
standing_value (Some (slot.Fault number)) = None
standing_value (Some (slot.Claim lane)) = None
standing_value (Some (slot.Sealed kept)) = None

-- A claim stands there.
abbrev pub IsClaimed : Option Slot → Type 0
IsClaimed None = ⊥
IsClaimed (Some (slot.Entry number)) = ⊥
IsClaimed (Some (slot.Fault number)) = ⊥
IsClaimed (Some (slot.Claim lane)) = Unit {0}
IsClaimed (Some (slot.Sealed kept)) = ⊥

-- A seal stands there.
abbrev pub IsSealed : Option Slot → Type 0
IsSealed None = ⊥
IsSealed (Some (slot.Entry number)) = ⊥
IsSealed (Some (slot.Fault number)) = ⊥
IsSealed (Some (slot.Claim lane)) = ⊥
IsSealed (Some (slot.Sealed kept)) = Unit {0}

-- The answer of a look-up that this context decides, by what stands there.
abbrev pub look_in : ℕ → Option Slot → Look
look_in context None = look.Absent
look_in context (Some (slot.Entry number)) = look.Found context number
look_in context (Some (slot.Fault number)) = look.Fault context number
look_in context (Some (slot.Claim lane)) = look.Busy context
look_in context (Some (slot.Sealed kept)) = look.Closed context

-- The same; absent if no context decides.
abbrev pub look_at : (ℕ → Option Slot) → Option ℕ → Look
look_at slots None = look.Absent
look_at slots (Some context) = look_in context (slots context)

-- What a look-up on the path answers: the first context where anything stands decides, and it is absent if there is
-- none. `slots` says what stands in each context under the key.
abbrev pub lookup : (ℕ → Option Slot) → List ℕ → Look
lookup slots path = look_at slots (find (λ context. is_some (slots context)) path)
