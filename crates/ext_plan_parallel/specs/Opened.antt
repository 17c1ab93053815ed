-- The store and the locks that a run of a plan opens (JUnit 5 User Guide, "Keeping State in Extensions" and
-- "Synchronization"), and the one history of lanes that met, which is not from JUnit.
use Rattle.std.specs.Prelude.{◌≡◌, ℕ, ◌*◌, true, List, length, map, Some, All, AllPairs, Contains, IsPermutation}
use mathlib.Core.List.{IsPrefix}
use Rattle.ext_model.specs.declared.look.Fault.{Fault}
use Rattle.ext_model.specs.History.{History, IsLegal, own}
use Rattle.ext_model.specs.Sizes.{most_numbers}
use Rattle.ext_lifecycle.specs.declared.call.Call.{Call}
use Rattle.ext_plan.specs.Plans.{PlanText, StepKeyText, StepText}
use Rattle.ext_plan.specs.PlanCalls.{steps_of_call}
use Rattle.ext_plan.specs.Steps.{step_key}
use Rattle.ext_plan.specs.StoreKeys.{key_of_step}
use Rattle.ext_plan.specs.ReadPlans.{ids_of_nodes}
use Rattle.ext_plan.specs.LockNames.{lock_names}
use Rattle.ext_tree.specs.Keys.{KeyValue, KnownPlace, IsKeyNumber, KeepsKeys, placed_at}
use Rattle.ext_history.specs.Histories.{seen_by}
use Rattle.ext_values.specs.Known.{Known, AllAgree}
use Rattle.ext_store.specs.Opening.{fault_count}
use Rattle.ext_store.specs.Stores.{StoreView, StoreLane}
use Rattle.ext_locks.specs.Opening.{LocksView}

-- How many exchanges a call makes at most before it waits or starts over.
abbrev pub run_tries : ℕ
run_tries = 64

-- A store of the plan's contexts with `lanes` lanes, the plan's places for keys, a slot for the value of each number
-- and, if faults are kept, one for the fault of each.
pub record IsStoreOf (plan : PlanText) (lanes : ℕ) (store : StoreView) : Type 0 where
  pub tree : store.tree ≡ ids_of_nodes plan.nodes
  pub limits : store.id.cells.limits
      ≡ record {
        cells = length plan.nodes * plan.key_places;
        lanes = lanes;
        numbers = most_numbers plan.size;
        keep_faults = plan.keep_faults;
      }
  pub key_places : length store.id.keys ≡ plan.key_places
  pub slots : length store.id.slots ≡ most_numbers plan.size
  pub fault_slots : length store.id.fault_slots ≡ fault_count plan.keep_faults (most_numbers plan.size)
  pub tries : store.tries ≡ run_tries

-- Locks with the names that the plan's nodes name, for `lanes` lanes.
pub record IsLocksOf (plan : PlanText) (lanes : ℕ) (locks : LocksView) : Type 0 where
  pub names : IsPermutation (lock_names plan.nodes) locks.names
  pub same_lanes : locks.lanes ≡ lanes
  pub tries : locks.tries ≡ run_tries

-- What each of the lanes knows of values.
abbrev pub all_known : {V : Type 0} → List (StoreLane V) → List (List (Known V))
all_known lanes = map (λ lane. lane.known) lanes

-- What each of the lanes knows of faults.
abbrev pub all_faults : {V : Type 0} → List (StoreLane V) → List (List (Known Fault))
all_faults lanes = map (λ lane. lane.faults) lanes

-- What all lanes of a run have seen is one legal history, and all their fronts are beginnings of it. It has exactly the
-- events of each lane that this lane has seen: nobody else makes events in its name. Two lanes that know the value or
-- fault of a number know the same one.
pub record ShareHistory {V : Type 0} (store : StoreView) (lanes : List (StoreLane V)) : Type 0 where
  pub history : History
  pub legal : IsLegal store.id.cells.limits history
  pub parts : All (λ lane. All (λ front. IsPrefix front history) lane.cells.view.fronts) lanes
  pub own_events : All (λ lane. own lane.cells.view.number history
      ≡ own lane.cells.view.number (seen_by lane.cells.view)) lanes
  pub agree : AllPairs AllAgree (all_known lanes)
  pub agree_faults : AllPairs AllAgree (all_faults lanes)

-- All lanes of a run number keys alike: what each knows of the places of keys is part of one numbering.
pub record ShareKeys {V : Type 0} (lanes : List (StoreLane V)) : Type 0 where
  pub numbering : List KnownPlace
  pub parts : All (λ lane. KeepsKeys lane.keys numbering) lanes

-- A step of the plan names this key, by a label or by its name.
pub record IsNamedByPlan (plan : PlanText) (key : KeyValue) : Type 0 where
  pub call : Call
  pub step : StepText
  pub among : Contains (steps_of_call plan call) step
  pub names : StepKeyText
  pub step_names : step_key step ≡ Some names
  pub key_is : key_of_step plan.keys names ≡ key

-- The place with this number is that of a key that a step of the plan names.
abbrev pub IsPlaceOfPlan : PlanText → List KnownPlace → ℕ → Type 0
IsPlaceOfPlan plan notes number = (key : KeyValue) × IsKeyNumber notes key number × IsNamedByPlan plan key

-- Each lane of a run set only places of keys that steps of the plan name. As lanes number keys alike, all of them
-- together set at most one place for each key that the plan names. It is not said that every place was set by one of
-- the lanes.
abbrev pub PlaceKeysOfPlan : {V : Type 0} → PlanText → List (StoreLane V) → Type 0
PlaceKeysOfPlan plan lanes =
    All (λ lane. (number : ℕ) → placed_at lane.keys number ≡ true → IsPlaceOfPlan plan lane.keys number) lanes
