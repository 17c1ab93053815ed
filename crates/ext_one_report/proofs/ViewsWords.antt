-- What is so of a whole run of a plan on several lanes: one view of it, in which all is so that any of its lanes knows of keys, values and faults.
-- Own rule. That any two lanes know the same of a number, and number keys alike, is said of each such run by [ext_plan_parallel ParallelRun].
use Rattle.std.specs.Prelude.{ℕ, ◌≡◌, ◌<◌, List, length, Contains, Some}
use Rattle.ext_model.specs.declared.look.Fault.{Fault}
use Rattle.ext_tree.specs.Keys.{KnownPlace}
use Rattle.ext_values.specs.Known.{known_at}
use Rattle.ext_lifecycle.specs.Results.{ResultOf}
use Rattle.ext_plan.specs.Plans.{PlanText}
use Rattle.ext_plan.specs.Values.{ValueText}
use Rattle.ext_store.specs.Stores.{StoreView}
use Rattle.ext_engine.specs.Order.{LaneGoesOn}
use Rattle.ext_plan_parallel.specs.declared.steps.stored_value.StoredValue.{StoredValue}
use Rattle.ext_plan_parallel.specs.ParallelRun.{ParallelRun}
use Rattle.ext_plan_parallel.specs.StoreCalls.{PlanLane, stored_view}
use Rattle.ext_one_report.proofs.MatchingWords.{RunView, IsRunView}
use Rattle.ext_one_report.proofs.StepsWords.{IsLaneIn, words_of}

-- a lane knows this value of the number
pub record KnowsValue (lanes : List PlanLane) (number : ℕ) (value : ValueText) : Type 0 where
  pub lane : PlanLane
  pub among : Contains lanes lane
  pub stored : StoredValue
  pub known : known_at lane.known number ≡ Some stored
  pub is : value ≡ stored_view stored

-- a lane knows this fault of the number
pub record KnowsFault (lanes : List PlanLane) (number : ℕ) (words : List ℕ) : Type 0 where
  pub lane : PlanLane
  pub among : Contains lanes lane
  pub fault : Fault
  pub known : known_at lane.faults number ≡ Some fault
  pub is : words_of fault ≡ Some words

-- One view of all these lanes of a store, which number keys so: what each of them knows is so in it, and no number stands for more than one of them knows.
-- Where lane 0 knows x of number 1, and lane 1 knows y of number 2, these numbers stand for x and y in it, and number 3 for nothing
pub record AreSeenAsOne (store : StoreView) (numbering : List KnownPlace) (lanes : List PlanLane) : Type 0 where
  pub view : RunView
  pub store_is : view.store ≡ store
  pub is_view : IsRunView view
  pub numbering_is : 0 < length lanes → view.numbering ≡ numbering
  pub each : (lane : PlanLane) → Contains lanes lane → IsLaneIn view lane
  pub values : (number : ℕ) (value : ValueText) → view.meaning.values number ≡ Some value → KnowsValue lanes number value
  pub faults : (number : ℕ) (words : List ℕ) → view.meaning.faults number ≡ Some words → KnowsFault lanes number words

-- the lanes of each run of a plan are seen as one when it has ended
abbrev pub RunsAreSeenAsOne : Type 0
RunsAreSeenAsOne = (plan : PlanText) (lanes : ℕ) (results : List (ResultOf Fault)) (run : ParallelRun plan lanes results) → AreSeenAsOne run.store run.numbered.numbering run.after.first

-- what a lane knew earlier is so too
abbrev pub EarlierIsSo : Type 0
EarlierIsSo = (view : RunView) (before after : PlanLane) → LaneGoesOn before after → IsLaneIn view after → IsLaneIn view before
