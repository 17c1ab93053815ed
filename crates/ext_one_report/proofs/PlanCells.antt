-- Which cells the steps of a plan's nodes change, in a run on several lanes whose keys have these numbers; and what that says of the calls of a run.
-- Own rule, for Javadoc `ExtensionContext.Store` and JUnit 5 User Guide, "Parallel Execution".
use Rattle.std.specs.Prelude.{◌≡◌, ℕ, ◌<◌, List, drop, length, Contains, Option, Some, None, if◌then◌else◌}
use Rattle.ext_lifecycle.specs.declared.call.Call.{Call}
use Rattle.ext_lifecycle.specs.declared.outcome.Outcome.{Outcome}
use Rattle.ext_lifecycle.specs.Results.{ResultOf}
use Rattle.ext_locks.specs.Opening.{LocksView}
use Rattle.ext_locks.specs.Sets.{HeldView}
use Rattle.ext_model.specs.declared.look.Fault.{Fault}
use Rattle.ext_plan.specs.PlanCalls.{steps_of_call}
use Rattle.ext_plan.specs.Plans.{KeyText, PlanText, StepKeyText, StepText, keyed, fail, abort}
use Rattle.ext_plan.specs.StepCalls.{start_of}
use Rattle.ext_plan.specs.StoreKeys.{key_of_step}
use Rattle.ext_plan.specs.StepWords.{changes}
use Rattle.ext_store.specs.Stores.{StoreLane, StoreView, cell_in}
use Rattle.ext_tree.specs.Keys.{IsKeyNumber, KeepsKeys, KnownPlace}
use Rattle.ext_tree.specs.Trees.{IsPathOf}
use Rattle.ext_engine.specs.TreeRun.{TreeSetting, with_calls}
use Rattle.ext_one_report.specs.Changing.{IsCallOf, MakesOnly}
use Rattle.ext_plan_parallel.specs.declared.steps.stored_value.StoredValue.{StoredValue}
use Rattle.ext_plan_parallel.specs.ParallelRun.{ParallelRun, setting_of_plan}
use Rattle.ext_plan_parallel.specs.StoreCalls.{PlanLane}
use Rattle.ext_plan_parallel.specs.StoreSteps.{StepsRun}

-- ---- steps

-- the key under which a step may change something, and how many contexts up; a look-up changes nothing
abbrev pub changed_by : StepText → Option (StepKeyText × ℕ)
changed_by (keyed word key text up) = if changes word then Some (key, up) else None
changed_by (fail text) = None
changed_by (abort text) = None

-- the cell that a step changes that runs in the first context of the path, where keys have these numbers
pub record IsCellOf (store : StoreView) (keys : List KeyText) (numbering : List KnownPlace) (path : List ℕ) (step : StepText) (cell : ℕ) : Type 0 where
  pub key : StepKeyText
  pub up : ℕ
  pub changes : changed_by step ≡ Some (key, up)
  pub number : ℕ
  pub named : IsKeyNumber numbering (key_of_step keys key) number
  pub cell_is : cell ≡ cell_in store number (start_of (drop up path))

-- steps change only the cells of these steps, on a lane that numbers keys so
abbrev pub StepsChangeOnly : Type 0
StepsChangeOnly = (plan : PlanText) (store : StoreView) (numbering : List KnownPlace) (path : List ℕ) (steps : List StepText) (cells : List ℕ) (before : PlanLane) (outcome : Outcome) (after : PlanLane)
    → StepsRun store plan.keys path steps before outcome after → KeepsKeys after.keys numbering
    → ((step : StepText) (cell : ℕ) → Contains steps step → IsCellOf store plan.keys numbering path step cell → Contains cells cell) → MakesOnly cells before after

-- ---- nodes

-- a call of a node, on a lane that numbers keys so
abbrev pub NumbersSo : {V A : Type 0} → TreeSetting V A → List KnownPlace → ℕ → Call → Option HeldView → StoreLane V → Outcome → StoreLane V → Type 0
NumbersSo t numbering node call held before outcome after = t.call_gives node call held before outcome after × KeepsKeys after.keys numbering

-- what the run of a plan's nodes goes over, on lanes that number keys so
abbrev pub numbered_setting : PlanText → StoreView → LocksView → List KnownPlace → TreeSetting StoredValue ℕ
numbered_setting plan store locks numbering = with_calls (NumbersSo (setting_of_plan plan store locks) numbering) (setting_of_plan plan store locks)

-- these lists have the cells that the nodes change: those of the steps of each node's calls, and those of its own context, which its close seals
pub record HaveChanged (plan : PlanText) (store : StoreView) (locks : LocksView) (numbering : List KnownPlace) (changed : ℕ → List ℕ) : Type 0 where
  pub steps : (node : ℕ) (call : Call) (path : List ℕ) (step : StepText) (cell : ℕ) → IsCallOf (numbered_setting plan store locks numbering) node call → IsPathOf store.tree node path
      → Contains (steps_of_call plan call) step → IsCellOf store plan.keys numbering path step cell → Contains (changed node) cell
  pub closes : (node key : ℕ) → node < length store.tree → key < length store.id.keys → Contains (changed node) (cell_in store key node)

-- ---- runs

-- the setting of a run of a plan, on lanes that number keys as all of its lanes do in the end
abbrev pub setting_of_run : (plan : PlanText) (lanes : ℕ) (results : List (ResultOf Fault)) → ParallelRun plan lanes results → TreeSetting StoredValue ℕ
setting_of_run plan lanes results run = numbered_setting plan run.store run.locks run.numbered.numbering
