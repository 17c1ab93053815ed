-- What the calls of a step store: nothing, or the number of the value or of the fault that the step keeps, in a cell of its key.
use Rattle.std.proofs.Common.{◌≡◌, ◌≢◌, inl, inr, ℕ, zero, suc, List, [], ◌∷◌, ◌++◌, Option, refl, ap, sym, ◌∙◌, append-nil}
use Rattle.std.specs.Prelude.{Result, Ok, Err}
use Rattle.ext_model.specs.declared.event.Act.TheVariants.{Keep, Claim, Fill, Fail, Abandon}
use Rattle.ext_model.specs.declared.look.Look.{Look}
use Rattle.ext_model.specs.declared.look.Look.TheVariants as look
use Rattle.ext_model.specs.declared.slot.Slot.TheVariants as slot
use Rattle.ext_model.specs.History.{Limits}
use Rattle.ext_model.specs.CallActs.{Calls, LaneView}
use Rattle.ext_cells.specs.Lanes.{Lane}
use Rattle.ext_store_core.specs.declared.fault.Refusal.{Refusal}
use Rattle.ext_store_core.specs.declared.fault.Refusal.TheVariants as refusal
use Rattle.ext_store_core.specs.ContextCalls.{put_acts, remove_acts}
use Rattle.ext_store_core.specs.ContextCalls as shared
use Rattle.ext_store_core.specs.Claiming as claiming
use Rattle.ext_store_core.specs.Waiting.{VainAttempts}
use Rattle.ext_store.specs.declared.fault.KeepFault.{KeepFault}
use Rattle.ext_store.specs.declared.fault.KeepFault.TheVariants as keep_fault
use Rattle.ext_store.specs.declared.computed.Compute.{Compute}
use Rattle.ext_store.specs.declared.computed.Compute.TheVariants as computes
use Rattle.ext_store.specs.Stores.{StoreView, cell_in, context_cells}
use Rattle.ext_store.specs.LaneCalls.{Gets, Puts, Removes, KeepFails}
use Rattle.ext_store.specs.Computing.{ComputesFrom, Computes, IsRefused, IsUnkept, Meets, given_up_events}
use Rattle.ext_store.specs.Waiting.{ComputesAfterWaits}
use Rattle.ext_plan_parallel.specs.declared.steps.stored_value.StoredValue.{StoredValue}
use Rattle.ext_plan_parallel.proofs.Values.{Stored, calls_quiet, calls_stored, own_stored}

-- ---- store calls

pub gets_quiet : (store : StoreView) (context key : ℕ) (a b : Lane) (answer : Look) → Gets store context key a b (Ok answer) → own_stored b.view ≡ own_stored a.view
unfolding shared.Gets
gets_quiet store context key a b answer gets = calls_quiet a.view b.view [] (gets.2.looked.replied (λ is. absurd (cc is))).calls refl

-- of a change that was not refused because others were in the way
pub puts_values : (store : StoreView) (context key number : ℕ) (a b : Lane) (result : Result (Option ℕ) (ℕ × Refusal)) → Puts store context key number a b result → result ≢ Err (number, refusal.Contended)
    → Calls a.cells.limits a.view b.view (put_acts (cell_in store key context) number result)
unfolding shared.Puts
puts_values store context key number a b result puts decided = (puts.replied decided).calls

pub removes_values : (store : StoreView) (context key : ℕ) (a b : Lane) (result : Result (Option ℕ) Refusal) → Removes store context key a b result → result ≢ Err refusal.Contended
    → Calls a.cells.limits a.view b.view (remove_acts (cell_in store key context) result)
unfolding shared.Removes
removes_values store context key a b result removes decided = (removes.replied decided).calls

pub keep_quiet : (store : StoreView) (a b : Lane) (why : KeepFault) → KeepFails store a b why → own_stored b.view ≡ own_stored a.view
unfolding KeepFails
keep_quiet store a b keep_fault.Memory fails = ap (λ (l : Lane). own_stored l.view) fails
keep_quiet store a b keep_fault.NumbersFull fails = calls_quiet a.view b.view [] fails.calls refl
keep_quiet store a b keep_fault.Contended fails = calls_quiet a.view b.view [] fails.calls refl
keep_quiet store a b keep_fault.Unplaced fails = calls_quiet a.view b.view (Keep fails.0 ∷ []) fails.1.calls refl

-- ---- computes

meets_quiet : (limits : Limits) (store : StoreView) (context : ℕ) (ancestors : List ℕ) (key : ℕ) (a b : LaneView) (met : Look) → Meets limits store context ancestors key a b met → own_stored b ≡ own_stored a
unfolding claiming.Meets
meets_quiet limits store context ancestors key a b met (inl at) = calls_quiet a b [] at.calls refl
meets_quiet limits store context ancestors key a b met (inr given_up) = calls_quiet a b (given_up_events store context key) given_up.0 refl

refused_quiet : (limits : Limits) (store : StoreView) (context : ℕ) (ancestors : List ℕ) (key : ℕ) (a b : LaneView) (why : Refusal) → IsRefused limits store context ancestors key a b why → own_stored b ≡ own_stored a
unfolding claiming.IsRefused
refused_quiet limits store context ancestors key a b (refusal.Busy at) r = meets_quiet limits store context ancestors key a b (look.Busy at) r
refused_quiet limits store context ancestors key a b (refusal.Closed at) r = meets_quiet limits store context ancestors key a b (look.Closed at) r
refused_quiet limits store context ancestors key a b refusal.Contended (inl overtaken) = calls_quiet a b [] overtaken.calls refl
refused_quiet limits store context ancestors key a b refusal.Contended (inr given_up) = calls_quiet a b (given_up_events store context key) given_up.0 refl
refused_quiet limits store context ancestors key a b refusal.DirectoryFull r = absurd r
refused_quiet limits store context ancestors key a b refusal.Unplaced r = absurd r
refused_quiet limits store context ancestors key a b refusal.Memory r = absurd r
refused_quiet limits store context ancestors key a b refusal.Exhausted r = calls_quiet a b [] r.0.calls refl

vain_quiet : (store : StoreView) (context key attempts : ℕ) (a b : LaneView) → VainAttempts (claiming.ClaimsMissing (context_cells store) context key) attempts a b → own_stored b ≡ own_stored a
vain_quiet store context key zero a b same = ap own_stored same
vain_quiet store context key (suc attempts) a b more =
    refused_quiet store.id.cells.limits store context more.2.refused.0 key more.0 b more.2.why more.2.refused.2 ∙ vain_quiet store context key attempts a more.0 more.1

-- what a compute stores
abbrev pub filled : ℕ → Compute StoredValue (Unit {0}) → List Stored
filled cell (computes.Computed number) = (cell, slot.Entry number) ∷ []
filled cell (computes.Found at number unused) = []
filled cell (computes.Failed why) = []
filled cell (computes.FaultKept number) = (cell, slot.Fault number) ∷ []
filled cell (computes.FaultUnkept why cause) = []
filled cell (computes.FaultStands at number unused) = []
filled cell (computes.Unkept value cause) = []
filled cell (computes.Refused why unused) = []

unkept_quiet : (limits : Limits) (tries cell : ℕ) (a b : LaneView) (why : KeepFault) → IsUnkept limits tries (Claim cell ∷ []) cell a b why → own_stored b ≡ own_stored a
unfolding IsUnkept
unkept_quiet limits tries cell a b keep_fault.Memory r = calls_quiet a b (Claim cell ∷ Abandon cell ∷ []) r refl
unkept_quiet limits tries cell a b keep_fault.NumbersFull r = calls_quiet a b (Claim cell ∷ Abandon cell ∷ []) r.0 refl
unkept_quiet limits tries cell a b keep_fault.Contended r = calls_quiet a b (Claim cell ∷ Abandon cell ∷ []) r.0 refl
unkept_quiet limits tries cell a b keep_fault.Unplaced r = calls_quiet a b (Claim cell ∷ Keep r.0 ∷ Abandon cell ∷ []) r.1 refl

computes_values : (limits : Limits) (store : StoreView) (context : ℕ) (ancestors : List ℕ) (key : ℕ) (a b : LaneView) (result : Compute StoredValue (Unit {0})) → ComputesFrom limits store context ancestors key a b result
    → own_stored b ≡ own_stored a ++ filled (cell_in store key context) result
unfolding ComputesFrom
computes_values limits store context ancestors key a b (computes.Computed number) r =
    calls_stored a b (Claim (cell_in store key context) ∷ Keep number ∷ Fill (cell_in store key context) number ∷ []) r.1.calls
computes_values limits store context ancestors key a b (computes.Found at number unused) r = meets_quiet limits store context ancestors key a b (look.Found at number) r ∙ sym (append-nil (own_stored a))
computes_values limits store context ancestors key a b (computes.Failed why) r = calls_quiet a b (given_up_events store context key) r.2 refl ∙ sym (append-nil (own_stored a))
computes_values limits store context ancestors key a b (computes.FaultKept number) r =
    calls_stored a b (Claim (cell_in store key context) ∷ Keep number ∷ Fail (cell_in store key context) number ∷ []) r.2.calls
computes_values limits store context ancestors key a b (computes.FaultUnkept why cause) r = unkept_quiet limits store.tries (cell_in store key context) a b cause r.2 ∙ sym (append-nil (own_stored a))
computes_values limits store context ancestors key a b (computes.FaultStands at number unused) r = meets_quiet limits store context ancestors key a b (look.Fault at number) r ∙ sym (append-nil (own_stored a))
computes_values limits store context ancestors key a b (computes.Unkept value cause) r = unkept_quiet limits store.tries (cell_in store key context) a b cause r.1 ∙ sym (append-nil (own_stored a))
computes_values limits store context ancestors key a b (computes.Refused why unused) r = refused_quiet limits store context ancestors key a b why r ∙ sym (append-nil (own_stored a))

pub waits_values : (store : StoreView) (context key : ℕ) (a b : Lane) (result : Compute StoredValue (Unit {0})) → ComputesAfterWaits store context key a b result
    → own_stored b.view ≡ own_stored a.view ++ filled (cell_in store key context) result
unfolding ComputesAfterWaits Computes
waits_values store context key a b result waits =
    let last = waits.then_is in
    computes_values a.cells.limits store context last.0 key waits.between b.view result last.2
    ∙ ap (λ l. l ++ filled (cell_in store key context) result) (vain_quiet store context key waits.attempts a.view waits.between waits.in_vain)
