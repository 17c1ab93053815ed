-- The calls of a node in a plain run: which steps each of them makes, and what they leave one after another. The calls
-- are those of `Callbacks` in ext_lifecycle (JUnit 5 User Guide, "Relative Execution Order of User Code and
-- Extensions"). That a before-callback that isn't successful skips all later calls except after-callbacks is chosen
-- here.
use Rattle.std.specs.Prelude.{ℕ, ◌+◌, Bool, List, [], ◌∷◌, ◌++◌, fold, if◌then◌else◌}
use Rattle.ext_lifecycle.specs.declared.call.Call.{Call}
use Rattle.ext_lifecycle.specs.Callbacks.{afters_of, befores_of, test_call}
use Rattle.ext_lifecycle.specs.Endings.{all_successful}
use Rattle.ext_lifecycle.specs.FaultTexts.{VerdictText}
use Rattle.ext_plan.specs.Plans.{PlanText}
use Rattle.ext_plan.specs.PlanCalls.{registered, steps_of_call}
use Rattle.ext_plan_plain.specs.ValueStates.{ValueState}
use Rattle.ext_plan_plain.specs.StepRuns.{StepEnd, steps_run}

module _ (plan : PlanText) where
  -- A call of a node with this path: its steps run in that node's context, even if another node registered them.
  abbrev pub call_run : List ℕ → Call → ValueState → StepEnd
  call_run path call s = steps_run plan.keys path (steps_of_call plan call) s

-- ---- calls, one after another

-- What a node's calls leave, how they ended, and what they computed and found.
pub record CallsEnd : Type 0 where
  pub state : ValueState
  pub calls : List VerdictText
  pub computed : ℕ
  pub found : ℕ

-- Before the first call.
abbrev pub no_calls : ValueState → CallsEnd
no_calls s = record { state = s; calls = []; computed = 0; found = 0 }

-- One more call.
abbrev pub and_call : CallsEnd → StepEnd → CallsEnd
and_call before call = record {
  state = call.state;
  calls = before.calls ++ call.verdict ∷ [];
  computed = before.computed + call.computed;
  found = before.found + call.found;
}

-- `run call state` is what a call leaves.
module _ (run : Call → ValueState → StepEnd) where
  abbrev pub make : CallsEnd → Call → CallsEnd
  make before call = and_call before (run call before.state)

  -- The call is made if all calls before it were successful.
  abbrev pub make_if_successful : CallsEnd → Call → CallsEnd
  make_if_successful before call = if all_successful before.calls then make before call else before

  -- All of these calls, in order.
  abbrev pub make_all : List Call → CallsEnd → CallsEnd
  make_all calls before = fold make before calls

  -- The calls in order, up to and including the first that isn't successful.
  abbrev pub make_befores : List Call → CallsEnd → CallsEnd
  make_befores calls before = fold make_if_successful before calls

-- ---- the calls of a node with this path, which begins with it

module _ (plan : PlanText) where
  abbrev pub befores_run : Bool → ℕ → List ℕ → ValueState → CallsEnd
  befores_run is_test at path s =
      make_befores (call_run plan path) (befores_of (registered plan) is_test at path) (no_calls s)

  -- The body of a test.
  abbrev pub test_run : ℕ → List ℕ → CallsEnd → CallsEnd
  test_run at path before = make_if_successful (call_run plan path) before (test_call at)

  abbrev pub afters_run : Bool → ℕ → List ℕ → CallsEnd → CallsEnd
  afters_run is_test at path before = make_all (call_run plan path) (afters_of (registered plan) is_test at path) before
