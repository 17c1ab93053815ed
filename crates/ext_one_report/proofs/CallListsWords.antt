-- The calls of a node, one after another, on a lane that is alone on the places that they touch, beside the same calls of a plain run: when they are compared, and what it
-- means that they end alike.
-- JUnit 5 User Guide, "Relative Execution Order of User Code and Extensions". Which calls are made is a definition of [ext_lifecycle Lifecycle], and what they leave in a
-- plain run one of [ext_plan_plain NodeCalls].
use Rattle.std.specs.Prelude.{ℕ, ◌≡◌, true, List, [], ◌∷◌, All, map}
use Rattle.ext_history.specs.Histories.{seen_by}
use Rattle.ext_lifecycle.specs.declared.call.Call.{Call}
use Rattle.ext_lifecycle.specs.declared.outcome.Outcome.{Outcome}
use Rattle.ext_lifecycle.specs.Endings.{is_successful, with_fault}
use Rattle.ext_lifecycle.specs.FaultTexts.{fault_text}
use Rattle.ext_lifecycle.specs.Lifecycle.{computed_in, endings_of, found_in}
use Rattle.ext_plan.specs.Plans.{PlanText}
use Rattle.ext_plan.specs.PlanCalls.{steps_of_call}
use Rattle.ext_store.specs.Stores.{StoreView}
use Rattle.ext_plan_plain.specs.ValueStates.{ValueState}
use Rattle.ext_plan_plain.specs.NodeCalls.{CallsEnd, call_run}
use Rattle.ext_plan_parallel.specs.PlanSuites.{RunsCall}
use Rattle.ext_plan_parallel.specs.StoreCalls.{PlanLane}
use Rattle.ext_one_report.proofs.MatchingWords.{RunView, Places, Matches, IsNumbered}
use Rattle.ext_one_report.proofs.CallsWords.{StepsHaveRoom}
use Rattle.ext_one_report.specs.FullRuns.{StepFinds}

-- what a call of the node does to a lane, in the order of [ext_lifecycle Lifecycle]
abbrev pub Makes : PlanText → StoreView → ℕ → PlanLane → Call → Outcome → PlanLane → Type 0
Makes plan store node before call outcome after = RunsCall plan store node call before outcome after

-- All calls so far, that had these outcomes, ended as those of the plain run: they say and count the same, and the same stands at the places after them
pub record CallsAlike (run : RunView) (places : Places) (outcomes : List Outcome) (after : PlanLane) (end : CallsEnd) : Type 0 where
  pub says : map (with_fault fault_text) (endings_of outcomes) ≡ end.calls
  pub computed : computed_in outcomes ≡ end.computed
  pub found : found_in outcomes ≡ end.found
  pub matches : Matches run places (seen_by after.cells.view) end.state
  pub numbered : IsNumbered places end.state

-- ---- when calls are compared

-- no call that was made ended for want of anything
abbrev pub CallsFind : PlanText → List Call → List Outcome → Type 0
CallsFind plan [] outcomes = Unit {0}
CallsFind plan (call ∷ calls) [] = Unit {0}
CallsFind plan (call ∷ calls) (outcome ∷ outcomes) = All (StepFinds plan.keys outcome) (steps_of_call plan call) × CallsFind plan calls outcomes

-- the plain run has room in each of the calls, in order,
abbrev pub CallsHaveRoom : PlanText → List ℕ → List Call → ValueState → Type 0
CallsHaveRoom plan path [] s = Unit {0}
CallsHaveRoom plan path (call ∷ calls) s = StepsHaveRoom plan.keys path (steps_of_call plan call) s × CallsHaveRoom plan path calls (call_run plan path call s).state

-- or up to the first that is not successful
abbrev pub BeforesHaveRoom : PlanText → List ℕ → List Call → ValueState → Type 0
BeforesHaveRoom plan path [] s = Unit {0}
BeforesHaveRoom plan path (call ∷ calls) s =
    StepsHaveRoom plan.keys path (steps_of_call plan call) s
    × (is_successful (call_run plan path call s).verdict ≡ true → BeforesHaveRoom plan path calls (call_run plan path call s).state)
