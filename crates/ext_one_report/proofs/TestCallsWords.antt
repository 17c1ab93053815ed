-- All calls of a test, on a lane that is alone on the places that they touch, beside those of a plain run.
-- JUnit 5 User Guide, "Relative Execution Order of User Code and Extensions": the before-callbacks round the test, the test, and the after-callbacks round it.
use Rattle.std.specs.Prelude.{ℕ, ◌≡◌, true, List, [], ◌∷◌}
use Rattle.ext_lifecycle.specs.declared.call.Call.{Call}
use Rattle.ext_lifecycle.specs.declared.outcome.Outcome.{Outcome}
use Rattle.ext_lifecycle.specs.Callbacks.{afters_of, befores_of, test_call}
use Rattle.ext_lifecycle.specs.Endings.{all_successful}
use Rattle.ext_lifecycle.specs.Lifecycle.{MakesCalls}
use Rattle.ext_plan.specs.Plans.{PlanText}
use Rattle.ext_plan.specs.PlanCalls.{registered, steps_of_call}
use Rattle.ext_store.specs.Stores.{StoreView}
use Rattle.ext_plan_plain.specs.ValueStates.{ValueState}
use Rattle.ext_plan_plain.specs.NodeCalls.{CallsEnd, afters_run, befores_run, test_run}
use Rattle.ext_plan_parallel.specs.StoreCalls.{PlanLane}
use Rattle.ext_one_report.proofs.CallsWords.{StepsHaveRoom}
use Rattle.ext_one_report.proofs.CallListsWords.{BeforesHaveRoom, CallsFind, CallsHaveRoom, Makes}

module _ (plan : PlanText) (node : ℕ) (path : List ℕ) where
  -- the callbacks round the test of this node, whose path this is
  abbrev pub befores_round : List Call
  befores_round = befores_of (registered plan) true node path

  abbrev pub afters_round : List Call
  afters_round = afters_of (registered plan) true node path

  -- what all calls of the test do to a lane
  abbrev pub MakesTest : StoreView → PlanLane → List Outcome → PlanLane → Type 0
  MakesTest store before outcomes after = MakesCalls (Makes plan store node) befores_round (test_call node) afters_round before outcomes after

  -- and what they leave in a plain run
  abbrev pub plain_test : ValueState → CallsEnd
  plain_test s = afters_run plan true node path (test_run plan node path (befores_run plan true node path s))

  -- the plain run has room in each call that it makes
  pub record TestHasRoom (s : ValueState) : Type 0 where
    pub befores : BeforesHaveRoom plan path befores_round s
    pub body : all_successful (befores_run plan true node path s).calls ≡ true
        → StepsHaveRoom plan.keys path (steps_of_call plan (test_call node)) (befores_run plan true node path s).state
    pub afters : CallsHaveRoom plan path afters_round (test_run plan node path (befores_run plan true node path s)).state

  -- no call that was made ended for want of anything
  pub record TestFinds (store : StoreView) (before : PlanLane) (outcomes : List Outcome) (after : PlanLane) (made : MakesTest store before outcomes after) : Type 0 where
    pub befores : CallsFind plan befores_round made.first
    pub body : CallsFind plan (test_call node ∷ []) made.second
    pub afters : CallsFind plan afters_round made.third
