-- The calls of a node end as those of a plain run.
use Rattle.std.proofs.Common.{◌≡◌, ℕ, inl, inr, Bool, true, false, List, [], ◌∷◌, ◌++◌, map, refl, ap, sym, subst, ◌∙◌}
use Rattle.std.specs.Prelude.{Option, option_map, ◌&&◌, if◌then◌else◌}
use Rattle.ext_history.proofs.Lists.{bools}
use Rattle.ext_model.specs.declared.look.Fault.{Fault}
use Rattle.ext_model.specs.Lacks.{tells_lack}
use Rattle.ext_tree.specs.Trees.{IsPathOf}
use Rattle.ext_lifecycle.specs.declared.call.Call.{Call}
use Rattle.ext_lifecycle.specs.declared.outcome.Outcome.{Outcome}
use Rattle.ext_lifecycle.specs.Endings.{all_successful, is_successful}
use Rattle.ext_lifecycle.specs.FaultTexts.{VerdictText, fault_text}
use Rattle.ext_lifecycle.specs.Lifecycle.{MakesAll, MakesBefores, computed_in, ending_of, endings_of, found_in}
use Rattle.ext_lifecycle.specs.Results.{result_by, result_of, map_fault}
use Rattle.ext_lifecycle.proofs.OtherFaults.{result_of-told}
use Rattle.ext_plan.specs.Plans.{PlanText}
use Rattle.ext_plan.specs.PlanCalls.{steps_of_call}
use Rattle.ext_engine.specs.Order.{LaneGoesOn}
use Rattle.ext_engine.proofs.Going.{goes_same, goes_then}
use Rattle.ext_plan_plain.specs.ValueStates.{ValueState}
use Rattle.ext_plan_plain.specs.StepRuns.{StepEnd}
use Rattle.ext_plan_plain.specs.NodeCalls.{CallsEnd, make, make_befores, make_if_successful}
use Rattle.ext_plan_plain.specs.PlainRun.{outcome_of}
use Rattle.ext_plan_parallel.specs.StoreCalls.{PlanLane}
use Rattle.ext_one_report.proofs.MatchingWords.{RunView, Places}
use Rattle.ext_one_report.proofs.CallListsWords.{CallsAlike, Makes}
use Rattle.ext_one_report.proofs.Calls.{steps_go}

-- ---- whether all were successful

and_assoc : (a b c : Bool) → (a && (b && c)) ≡ ((a && b) && c)
and_assoc true b c = refl
and_assoc false b c = refl

and_true : (b : Bool) → (b && true) ≡ b
and_true true = refl
and_true false = refl

pub successful_more : (before : List VerdictText) (v : VerdictText) → all_successful (before ++ v ∷ []) ≡ (all_successful before && is_successful v)
successful_more [] v = and_true (is_successful v)
successful_more (p ∷ before) v = ap (λ b. is_successful p && b) (successful_more before v) ∙ and_assoc (is_successful p) (all_successful before) (is_successful v)

module _ (does : Call → ValueState → StepEnd) where
  pub if_made : (e : CallsEnd) (call : Call) → all_successful e.calls ≡ true → make_if_successful does e call ≡ make does e call
  if_made e call all = ap (λ go. if go then make does e call else e) all

  pub stays : (calls : List Call) (e : CallsEnd) → all_successful e.calls ≡ false → make_befores does calls e ≡ e
  stays [] e ends = refl
  stays (call ∷ calls) e ends = ap (make_befores does calls) (ap (λ go. if go then make does e call else e) ends) ∙ stays calls e ends

-- ---- calls, one after another

module _ (run : RunView) (plan : PlanText) (node : ℕ) (path : List ℕ) (places : Places) (path_is : IsPathOf run.store.tree node path) where
  call_goes : (call : Call) (a : PlanLane) (o : Outcome) (b : PlanLane) → Makes plan run.store node a call o b → LaneGoesOn a b
  call_goes call a o b made = steps_go run.store plan.keys made.path (steps_of_call plan call) a o b made.steps

  pub all_go : (calls : List Call) (a : PlanLane) (os : List Outcome) (b : PlanLane) → MakesAll (Makes plan run.store node) calls a os b → LaneGoesOn a b
  all_go [] a os b made = subst (λ (x : PlanLane). LaneGoesOn a x) (sym made.1) (goes_same a)
  all_go (call ∷ calls) a os b made = goes_then a made.2 b (call_goes call a made.0 made.2 made.4) (all_go calls made.2 made.1 b made.5)

  pub befores_go : (calls : List Call) (a : PlanLane) (os : List Outcome) (b : PlanLane) → MakesBefores (Makes plan run.store node) calls a os b → LaneGoesOn a b
  befores_go [] a os b made = subst (λ (x : PlanLane). LaneGoesOn a x) (sym made.1) (goes_same a)
  befores_go (call ∷ calls) a os b made =
      let one = call_goes call a made.0 made.2 made.4 in
      elim (bools (is_successful (ending_of made.0.verdict))) [
        | inl on ↦ goes_then a made.2 b one (befores_go calls made.2 made.1 b (made.5.0 on))
        | inr off ↦ subst (λ (x : PlanLane). LaneGoesOn a x) (sym (made.5.1 off).1) one
      ]

-- ---- what is told of them

pub told_alike : (run : RunView) (places : Places) (node : ℕ) (is_test : Bool) (outcomes : List Outcome) (after : PlanLane) (end : CallsEnd) (faults : List (Option Fault))
    → CallsAlike run places outcomes after end
    → map_fault fault_text (result_of node is_test (endings_of outcomes) (computed_in outcomes) (found_in outcomes) faults) ≡ outcome_of node is_test end (map (option_map fault_text) faults)
told_alike run places node is_test outcomes after end faults alike =
    let closed = map (option_map fault_text) faults in
    sym (result_of-told node is_test (endings_of outcomes) (computed_in outcomes) (found_in outcomes) faults)
    ∙ (λ i. result_by tells_lack node is_test (alike.says i) (alike.computed i) (alike.found i) closed)
