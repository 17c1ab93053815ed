-- What the nodes of a plan are to an engine that runs them, over any store, and what a call of a node does (JUnit 5
-- User Guide, "Parallel Execution", "Synchronization" and "Keeping State in Extensions"). A callback that another node
-- registered acts on the context of the node for which it is called, as `ExtensionContext` does in "Relative Execution
-- Order of User Code and Extensions". The steps are not from JUnit.
use Rattle.std.specs.Prelude.{ℕ, List, map, Some, is_some}
use Rattle.ext_lifecycle.specs.declared.call.Call.{Call}
use Rattle.ext_lifecycle.specs.declared.outcome.Outcome.{Outcome}
use Rattle.ext_locks.specs.declared.event.LockMode.TheVariants as lock_mode
use Rattle.ext_tree.specs.Trees.{IsPathOf}
use Rattle.ext_plan.specs.Plans.{LockText, read, read_write, PlanText}
use Rattle.ext_plan.specs.PlanCalls.{concurrent_of, isolated_of, locks_of, steps_of_call, test_of}
use Rattle.ext_store.specs.Stores.{StoreView}
use Rattle.ext_plan_parallel.specs.StoreCalls.{PlanLane}
use Rattle.ext_plan_parallel.specs.StoreSteps.{StepsRun}
use Rattle.ext_engine.specs.Suites.{Asked, SuiteView}

-- A lock that a node names, as the suite asks for it.
abbrev pub asked : LockText → Asked
asked (read name) = record { name = Some name; mode = lock_mode.Read }
asked (read_write name) = record { name = Some name; mode = lock_mode.ReadWrite }

-- The nodes of a plan. One that it does not have is a container that names nothing.
abbrev pub suite_of : PlanText → SuiteView
suite_of plan = record {
  is_concurrent = concurrent_of plan;
  is_isolated = isolated_of plan;
  is_test = λ node. is_some (test_of plan node);
  locks = λ node. map asked (locks_of plan node);
}

-- A call of a node: its steps run in the node's context, even if another node registered them.
pub record RunsCall (plan : PlanText) (store : StoreView) (node : ℕ) (call : Call) (before : PlanLane)
    (outcome : Outcome) (after : PlanLane) : Type 0 where
  pub path : List ℕ
  pub path_is : IsPathOf store.tree node path
  pub steps : StepsRun store plan.keys path (steps_of_call plan call) before outcome after
