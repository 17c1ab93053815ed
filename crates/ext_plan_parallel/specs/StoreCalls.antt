-- What the calls of a step do on a lane of a store for several threads, and how the step ends. Each call does what the
-- contract of the store's waiting form promises of its result and of what the lane then knows (JUnit 5 User Guide,
-- "Keeping State in Extensions"; Javadoc `ExtensionContext.Store`, `get`, `put`, `remove` and `getOrComputeIfAbsent`).
-- What a step says is not from JUnit.
use Rattle.std.specs.Prelude.{◌≡◌, ◌⊎◌, ℕ, List, [], Option, None, Result, Ok, Err, String, string_bytes}
use Rattle.std.specs.declared.alloc.Global.{Global}
use Rattle.ext_model.specs.declared.look.Fault.{Fault}
use Rattle.ext_model.specs.declared.look.Fault.TheVariants as faults
use Rattle.ext_model.specs.declared.look.Look.{Look}
use Rattle.ext_model.specs.declared.look.Look.TheVariants as look
use Rattle.ext_lifecycle.specs.declared.outcome.Outcome.{Outcome}
use Rattle.ext_lifecycle.specs.Endings.{successful}
use Rattle.ext_values.specs.Known.{Known, Learns, known_at}
use Rattle.ext_store_core.specs.declared.fault.Refusal.{Refusal}
use Rattle.ext_store.specs.declared.fault.KeepFault.{KeepFault}
use Rattle.ext_store.specs.declared.computed.Compute.{Compute}
use Rattle.ext_store.specs.declared.computed.Compute.TheVariants as computes
use Rattle.ext_store.specs.Stores.{StoreView, StoreLane}
use Rattle.ext_store.specs.LaneCalls.{Frame, Gets, Puts, Removes, KeepsNothing}
use Rattle.ext_store.specs.Computing.{Uses}
use Rattle.ext_store.specs.Waiting.{ComputesAfterWaits}
use Rattle.ext_plan.specs.declared.reason.Reason.TheVariants as reasons
use Rattle.ext_plan.specs.Values.{ValueText, value_view}
use Rattle.ext_plan.specs.Verdicts.{SeenText, seen_value, seen_fault, seen_no_memory, seen_nothing, seen_refused, none_verdict, fail_verdict}
use Rattle.ext_plan_parallel.specs.declared.steps.stored_value.StoredValue.{StoredValue}
use Rattle.ext_plan_parallel.specs.Saying.{Ends, EndsRefused, EndsUnkept}

-- What a reader sees of a stored value.
abbrev pub stored_view : StoredValue → ValueText
stored_view v = value_view v.value

-- A lane of a store of a plan's values.
abbrev pub PlanLane : Type 0
PlanLane = StoreLane StoredValue

-- What such a lane knows of the values of numbers.
abbrev pub PlanNotes : Type 0
PlanNotes = List (Known StoredValue)

-- What the calls of one or several steps leave of a lane: it is a lane of the store, it made some events, it still
-- knows what it knew and keeps what it kept. So a step stores only numbers that it drew itself.
abbrev pub HasFrame : StoreView → PlanLane → PlanLane → Type 0
HasFrame store before after = Frame store.id [] before after

-- ---- what a look-up shows

-- The lane is shown the value of a number, and the step its text. Or the lane does not know the value, and the step
-- learns that it is not shown.
abbrev pub ShowsNumber : ℕ → PlanNotes → SeenText → PlanNotes → Type 0
ShowsNumber number before seen after =
    ((value : StoredValue) × Learns before after number value × (seen ≡ seen_value (stored_view value).text))
    ⊎ ((known_at before number ≡ None) × (after ≡ before) × (seen ≡ seen_refused reasons.NotShown))

-- What a step is shown of a kept fault.
abbrev pub fault_seen : Fault → SeenText
fault_seen (faults.Text text) = seen_fault (string_bytes text)
fault_seen faults.Memory = seen_no_memory

-- The lane is shown the kept fault of a number, and the step its text. Or the lane does not know the fault, and the
-- step learns that it is not shown.
abbrev pub ShowsFault : ℕ → List (Known Fault) → SeenText → List (Known Fault) → Type 0
ShowsFault number before seen after =
    ((fault : Fault) × Learns before after number fault × (seen ≡ fault_seen fault))
    ⊎ ((known_at before number ≡ None) × (after ≡ before) × (seen ≡ seen_refused reasons.NotShown))

-- The lane knows exactly the values and faults that it knew.
abbrev pub KnowsTheSame : PlanLane → PlanLane → Type 0
KnowsTheSame before after = (after.known ≡ before.known) × (after.faults ≡ before.faults)

-- What a step is shown by a look-up with this answer.
abbrev pub Shows : Look → PlanLane → SeenText → PlanLane → Type 0
Shows (look.Found at number) before seen after = (after.faults ≡ before.faults)
    × ShowsNumber number before.known seen after.known
Shows (look.Fault at number) before seen after = (after.known ≡ before.known)
    × ShowsFault number before.faults seen after.faults
Shows look.Absent before seen after = KnowsTheSame before after × (seen ≡ seen_nothing)
Shows (look.Busy at) before seen after = ⊥
Shows (look.Closed at) before seen after = KnowsTheSame before after × (seen ≡ seen_refused reasons.Closed)

-- ---- how a step with this name and label ends

module _ (name label : List ℕ) where
  -- A refused change ends the step with the reason. Any other succeeds.
  abbrev pub EndsChange : Result (Option ℕ) Refusal → Outcome → Type 0
  EndsChange (Ok stood) outcome = Ends successful 0 0 outcome
  EndsChange (Err why) outcome = EndsRefused name label why outcome

  -- The same for a put, which hands the number back.
  abbrev pub EndsPut : Result (Option ℕ) (ℕ × Refusal) → Outcome → Type 0
  EndsPut (Ok stood) outcome = Ends successful 0 0 outcome
  EndsPut (Err refused) outcome = EndsRefused name label refused.1 outcome

  -- How a compute ends whose factory gives a value. A kept fault in its place is shown and not counted.
  abbrev pub EndsCompute : Compute StoredValue (Unit {0}) → PlanLane → Outcome → PlanLane → Type 0
  EndsCompute (computes.Computed number) before outcome after = (after ≡ before) × Ends successful 1 0 outcome
  EndsCompute (computes.Found at number unused) before outcome after = (after ≡ before) × Ends successful 0 1 outcome
  EndsCompute (computes.Failed why) before outcome after = ⊥
  EndsCompute (computes.FaultKept number) before outcome after = ⊥
  EndsCompute (computes.FaultUnkept why cause) before outcome after = ⊥
  EndsCompute (computes.FaultStands at number unused) before outcome after =
      (after.known ≡ before.known) × (seen : SeenText) × ShowsFault number before.faults seen after.faults
      × Ends (none_verdict name label seen) 0 0 outcome
  EndsCompute (computes.Unkept value cause) before outcome after = (after ≡ before)
      × EndsUnkept name label cause outcome
  EndsCompute (computes.Refused why unused) before outcome after = (after ≡ before) × EndsRefused name label why outcome

  -- How a compute ends whose factory fails with this text. It succeeds if its fault comes back or is kept, or if it
  -- meets a kept fault with the same text. What it meets in its place is shown. A value that is found is counted, a
  -- kept fault is not.
  abbrev pub EndsComputeFail : List ℕ → Compute StoredValue (Unit {0}) → PlanLane → Outcome → PlanLane → Type 0
  EndsComputeFail text (computes.Computed number) before outcome after = ⊥
  EndsComputeFail text (computes.Found at number unused) before outcome after =
      (after.faults ≡ before.faults) × (seen : SeenText) × ShowsNumber number before.known seen after.known
      × Ends (none_verdict name label seen) 0 1 outcome
  EndsComputeFail text (computes.Failed why) before outcome after = (after ≡ before) × Ends successful 0 0 outcome
  EndsComputeFail text (computes.FaultKept number) before outcome after = (after ≡ before) × Ends successful 0 0 outcome
  EndsComputeFail text (computes.FaultUnkept why cause) before outcome after = (after ≡ before)
      × EndsUnkept name label cause outcome
  EndsComputeFail text (computes.FaultStands at number unused) before outcome after =
      (after.known ≡ before.known) × (seen : SeenText) × ShowsFault number before.faults seen after.faults
      × Ends (fail_verdict name label text seen) 0 0 outcome
  EndsComputeFail text (computes.Unkept value cause) before outcome after = ⊥
  EndsComputeFail text (computes.Refused why unused) before outcome after = (after ≡ before)
      × EndsRefused name label why outcome

-- ---- the calls

-- The value of a step with this name and label is not kept, and nothing is stored.
pub record PutsNothing (store : StoreView) (name label : List ℕ) (value : ValueText) (before : PlanLane)
    (outcome : Outcome) (after : PlanLane) : Type 0 where
  pub lost_value : StoredValue
  pub value_is : stored_view lost_value ≡ value
  pub why : KeepFault
  pub keeps_nothing : KeepsNothing store lost_value before after lost_value why
  pub faults : after.faults ≡ before.faults
  pub ends : EndsUnkept name label why outcome

-- By the number of the key:
module _ (store : StoreView) (context key : ℕ) where
  -- A look-up from the context, and what it shows.
  pub record Sees (before : PlanLane) (seen : SeenText) (after : PlanLane) : Type 0 where
    pub answer : Look
    pub looked : Gets store context key before.cells after.cells (Ok answer)
    pub shown : Shows answer before seen after

  -- How they end a step with this name and label.
  module _ (name label : List ℕ) where
    -- The kept number is stored in the context, or that is refused.
    pub record StoresThere (kept : ℕ) (before : PlanLane) (outcome : Outcome) (after : PlanLane) : Type 0 where
      pub result : Result (Option ℕ) (ℕ × Refusal)
      pub puts : Puts store context key kept before.cells after.cells result
      pub ends : EndsPut name label result outcome

    -- What stands in the context itself is removed, or nothing stands there, or the remove is refused.
    pub record RemovesThere (before : PlanLane) (outcome : Outcome) (after : PlanLane) : Type 0 where
      pub result : Result (Option ℕ) Refusal
      pub removes : Removes store context key before.cells after.cells result
      pub known : KnowsTheSame before after
      pub ends : EndsChange name label result outcome

    -- A compute with a factory that gives this value and then, if a kept fault stands there, the call that shows it.
    pub record ComputesValue (value : ValueText) (before : PlanLane) (outcome : Outcome) (after : PlanLane)
        : Type 0 where
      pub given : StoredValue
      pub value_is : stored_view given ≡ value
      pub result : Compute StoredValue (Unit {0})
      pub computed : ComputesAfterWaits store context key before.cells after.cells result
      pub between : PlanLane
      pub uses : Uses (λ answer. answer ≡ Ok given) before between result
      pub ends : EndsCompute name label result between outcome after

    -- A compute with a factory that fails with this text and then, if it meets a value or a kept fault, the call that
    -- shows it.
    pub record ComputesFault (text : List ℕ) (before : PlanLane) (outcome : Outcome) (after : PlanLane) : Type 0 where
      pub message : String Global
      pub message_is : string_bytes message ≡ text
      pub result : Compute StoredValue (Unit {0})
      pub computed : ComputesAfterWaits store context key before.cells after.cells result
      pub between : PlanLane
      pub uses : Uses (λ answer. answer ≡ Err (faults.Text message)) before between result
      pub ends : EndsComputeFail name label text result between outcome after
