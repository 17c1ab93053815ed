-- Runs of a plan on several lanes that lack nothing: each call and each close finds all memory, numbers, keys and
-- places that it asks for, and is shown what stands there (JUnit 5 User Guide, "Parallel Execution"). `ParallelRun` of
-- ext_plan_parallel says what a run of a plan is.
use Rattle.std.specs.Prelude.{ℕ, ◌≡◌, ◌≢◌, true, List, All, Option, None, Some, [], IfSome, Result, Ok, Err}
use Rattle.ext_model.specs.declared.look.Fault.{Fault}
use Rattle.ext_lifecycle.specs.declared.outcome.Outcome.{Outcome}
use Rattle.ext_lifecycle.specs.FaultTexts.{verdict_text, fault_text}
use Rattle.ext_plan.specs.declared.reason.Reason.{Reason}
use Rattle.ext_plan.specs.declared.reason.Reason.TheVariants as reasons
use Rattle.ext_plan.specs.Plans.{KeyText, StepText, PlanText, keyed, fail, abort}
use Rattle.ext_plan.specs.StepCalls.{label_of}
use Rattle.ext_plan.specs.Verdicts.{refused}
use Rattle.ext_plan_parallel.specs.declared.steps.stored_value.StoredValue.{StoredValue}
use Rattle.ext_plan_parallel.specs.Saying.{no_memory}
use Rattle.ext_plan_parallel.specs.StoreCalls.{PlanLane, stored_view}
use Rattle.ext_lifecycle.specs.declared.call.Call.{Call}
use Rattle.ext_plan.specs.Steps.{step_key}
use Rattle.ext_plan.specs.PlanCalls.{steps_of_call, registered}
use Rattle.ext_plan.specs.StepWords.{word_text}
use Rattle.ext_store.specs.Stores.{StoreView}
use Rattle.ext_plan_parallel.specs.PlanSuites.{suite_of}
use Rattle.ext_lifecycle.specs.Results.{ResultOf}
use Rattle.ext_plan.specs.Values.{close_fault}
use Rattle.ext_locks.specs.Opening.{LocksView}
use Rattle.ext_locks.specs.Sets.{HeldView}
use Rattle.ext_engine.specs.TreeRun.{TreeRun, TreeSetting}
use Rattle.ext_plan_parallel.specs.ParallelRun.{IsAction, MakesCall, ParallelRun}

-- A step refused for this reason lacked room, or was not shown what stood there.
abbrev pub IsForRoom : Reason → Type 0
IsForRoom reasons.Busy = ⊥
IsForRoom reasons.Closed = ⊥
IsForRoom reasons.Exhausted = Unit {0}
IsForRoom reasons.NumbersFull = Unit {0}
IsForRoom reasons.DirectoryFull = Unit {0}
IsForRoom reasons.Unplaced = Unit {0}
IsForRoom reasons.NotShown = Unit {0}

-- A step with this name and label finds all that it asks for on its lane: memory, numbers, places, and what stands
-- there.
pub record FindsAll (name label : List ℕ) (outcome : Outcome) : Type 0 where
  pub memory : outcome.verdict ≢ no_memory
  pub room : (why : Reason) → IsForRoom why → verdict_text outcome.verdict ≢ refused name label why

-- The first word of a step that names a key.
abbrev pub name_of : StepText → List ℕ
name_of (keyed word key text up) = word_text word
name_of (fail text) = []
name_of (abort text) = []

-- The outcome is no lack of memory; nor was this step refused for lack of room, or because it was not shown what stood
-- there.
abbrev pub StepFinds : List KeyText → Outcome → StepText → Type 0
StepFinds keys outcome step = (outcome.verdict ≢ no_memory)
    × IfSome (step_key step) (λ key. FindsAll (name_of step) (label_of keys key) outcome)

-- A close that must fail answers the fault with this text. Any other succeeds.
abbrev pub AnswersText : Option (List ℕ) → Result (Unit {0}) Fault → Type 0
AnswersText None answer = answer ≡ Ok tt
AnswersText (Some text) answer = (fault : Fault) × (answer ≡ Err fault) × (fault_text fault ≡ text)

abbrev pub ClosesFully : ℕ → ℕ → StoredValue → Result (Unit {0}) Fault → ℕ → Type 0
ClosesFully action number value answer left = AnswersText (close_fault (stored_view value)) answer × (left ≡ action)

-- A call that lacks nothing.
pub record CallsFully (plan : PlanText) (store : StoreView) (node : ℕ) (call : Call) (held : Option HeldView)
    (before : PlanLane) (outcome : Outcome) (after : PlanLane) : Type 0 where
  pub made : MakesCall plan store node call held before outcome after
  pub finds : All (StepFinds plan.keys outcome) (steps_of_call plan call)

-- The setting for such a run of a plan's nodes, by what its calls give.
abbrev pub full_setting : PlanText → StoreView → LocksView
    → (ℕ → Call → Option HeldView → PlanLane → Outcome → PlanLane → Type 0) → TreeSetting StoredValue ℕ
full_setting plan store locks calls = record {
  store = store;
  locks = locks;
  suite = suite_of plan;
  enabled_gives = λ node answer. answer ≡ true;
  registered = registered plan;
  call_gives = calls;
  action_gives = IsAction;
  is_closeable = λ value. value.value.closeable;
  close_gives = ClosesFully;
}

-- The run lacks nothing.
abbrev pub LacksNothing : (plan : PlanText) (lanes : ℕ) (results : List (ResultOf Fault))
    → ParallelRun plan lanes results → Type 0
LacksNothing plan lanes results run =
    TreeRun (full_setting plan run.store run.locks (CallsFully plan run.store)) 16 0 run.first run.ran run.after
