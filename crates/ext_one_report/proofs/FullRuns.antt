-- Runs of a plan on several lanes that lack nothing: each call and each close finds all memory, numbers, keys and places that it wants, and is shown what stands there.
-- JUnit 5 User Guide, "Parallel Execution"; what a run of a plan is stands in [ext_plan_parallel ParallelRun].
use Rattle.ext_one_report.specs.FullRuns.{full_setting, CallsFully}
use Rattle.std.specs.Prelude.{ℕ, Option}
use Rattle.ext_lifecycle.specs.declared.call.Call.{Call}
use Rattle.ext_lifecycle.specs.declared.outcome.Outcome.{Outcome}
use Rattle.ext_plan.specs.Plans.{PlanText}
use Rattle.ext_store.specs.Stores.{IsLaneOf}
use Rattle.ext_locks.specs.Opening.{LocksView}
use Rattle.ext_locks.specs.Sets.{HeldView}
use Rattle.ext_engine.specs.TreeRun.{TreeSetting}
use Rattle.ext_plan_parallel.specs.declared.steps.stored_value.StoredValue.{StoredValue}
use Rattle.ext_plan_parallel.specs.StoreCalls.{PlanLane}
use Rattle.ext_one_report.proofs.MatchingWords.{RunView}
use Rattle.ext_one_report.proofs.StepsWords.{IsLaneIn}

-- ---- closes

-- ---- calls

-- and one before and after which its lane knows only what is so in a view of the run
pub record CallsInView (plan : PlanText) (run : RunView) (node : ℕ) (call : Call) (held : Option HeldView) (before : PlanLane) (outcome : Outcome) (after : PlanLane) : Type 0 where
  pub fully : CallsFully plan run.store node call held before outcome after
  -- the lane is one of the run's store
  pub before_of : IsLaneOf run.store.id before
  pub before_in : IsLaneIn run before
  pub after_in : IsLaneIn run after

-- ---- runs

-- what it goes over where its lanes know only what is so in a view
abbrev pub setting_in : PlanText → RunView → LocksView → TreeSetting StoredValue ℕ
setting_in plan run locks = full_setting plan run.store locks (CallsInView plan run)
