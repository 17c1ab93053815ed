-- What `found_or_made` makes of a compute's answer: the value that was found or made, or the fault by which a test
-- fails. JUnit's `getOrComputeIfAbsent` answers the value itself, or throws (Javadoc `ExtensionContext.Store`). The
-- numbers and the texts of the faults are not from JUnit.
-- `before` and `after` are the lane before and after the call.
use Rattle.std.specs.Prelude.{ℕ, ◌≡◌, ◌⊎◌, Bool, true, false, None, codes}
use Rattle.ext_model.specs.declared.look.Fault.{Fault}
use Rattle.ext_values.specs.Known.{Learns, known_at}
use Rattle.ext_store_core.specs.RefusalTexts.{refusal_text}
use Rattle.ext_store.specs.declared.computed.Compute.{Compute}
use Rattle.ext_store.specs.declared.computed.Compute.TheVariants.{Computed, Found, Failed, FaultKept, FaultUnkept, FaultStands, Unkept, Refused}
use Rattle.ext_store.specs.FaultTexts.{IsCopyOf, IsTold, keep_fault_text}
use Rattle.ext_store.specs.Stores.{StoreLane}

-- ---- what the lane shows

-- The lane shows this number's value, and knows it from then on.
pub record IsShown {V : Type 0} (before after : StoreLane V) (shown : ℕ) (made : Bool) (number : ℕ) (is_new : Bool)
    (value : V) : Type 0 where
  pub number_is : number ≡ shown
  pub is_new_is : is_new ≡ made
  pub learnt : Learns before.known after.known shown value
  pub faults : after.faults ≡ before.faults

-- The lane did not know this number's value, and finds none.
pub record IsUnshown {V : Type 0} (before after : StoreLane V) (number : ℕ) (why : Fault) : Type 0 where
  pub unknown : known_at before.known number ≡ None
  pub told : IsTold (codes "the value is not shown") why
  pub still : after ≡ before

-- The lane shows this number's kept fault, and knows it from then on.
pub record IsShownFault {V : Type 0} (before after : StoreLane V) (number : ℕ) (why : Fault) : Type 0 where
  pub kept : Fault
  pub learnt : Learns before.faults after.faults number kept
  pub copied : IsCopyOf kept why
  pub known : after.known ≡ before.known

-- The lane did not know this number's kept fault, and finds none.
pub record IsUnshownFault {V : Type 0} (before after : StoreLane V) (number : ℕ) (why : Fault) : Type 0 where
  pub unknown : known_at before.faults number ≡ None
  pub told : IsTold (codes "the kept fault is not shown") why
  pub still : after ≡ before

abbrev pub IsKeptFault : {V : Type 0} → StoreLane V → StoreLane V → ℕ → Fault → Type 0
IsKeptFault before after number why = IsShownFault before after number why ⊎ IsUnshownFault before after number why

-- ---- for each answer of a compute

-- The value that is answered, with its number, and whether the compute made it.
abbrev pub IsMadeOf : {V F : Type 0} → StoreLane V → StoreLane V → Compute V F → ℕ → Bool → V → Type 0
IsMadeOf before after (Computed shown) number is_new value = IsShown before after shown true number is_new value
IsMadeOf before after (Found at shown unused) number is_new value = IsShown before after shown false number is_new value
IsMadeOf before after (Failed said) number is_new value = ⊥
IsMadeOf before after (FaultKept kept) number is_new value = ⊥
IsMadeOf before after (FaultUnkept said cause) number is_new value = ⊥
IsMadeOf before after (FaultStands at kept unused) number is_new value = ⊥
IsMadeOf before after (Unkept back cause) number is_new value = ⊥
IsMadeOf before after (Refused refusal unused) number is_new value = ⊥

-- The fault that is answered.
abbrev pub IsFaultOf : {V F : Type 0} → StoreLane V → StoreLane V → Compute V F → Fault → Type 0
IsFaultOf before after (Computed number) why = IsUnshown before after number why
IsFaultOf before after (Found at number unused) why = IsUnshown before after number why
IsFaultOf before after (Failed said) why = (why ≡ said) × (after ≡ before)
IsFaultOf before after (FaultKept number) why = IsKeptFault before after number why
IsFaultOf before after (FaultUnkept said cause) why = (why ≡ said) × (after ≡ before)
IsFaultOf before after (FaultStands at number unused) why = IsKeptFault before after number why
IsFaultOf before after (Unkept back cause) why = IsTold (keep_fault_text cause) why × (after ≡ before)
IsFaultOf before after (Refused refusal unused) why = IsTold (refusal_text refusal) why × (after ≡ before)
