-- A closeable value that a step of a call leaves is one that the touches of the plan tell, so that each call of a node keeps what stands where the plan may leave it.
use Rattle.std.proofs.Common.{◌≡◌, ◌<◌, ℕ, true, List, [], length, drop, Contains, All, refl, ap, sym, subst, ◌∙◌, arith}
use Rattle.std.specs.Prelude.{◌&&◌, codes}
use Rattle.std.proofs.lemmas.List.{length-map}
use Rattle.std.proofs.lemmas.List.Elements.{All-contains}
use Rattle.ext_tree.specs.Trees.{IsPathOf}
use Rattle.ext_lifecycle.specs.declared.call.Call.{Call}
use Rattle.ext_plan.specs.Plans.{PlanText, StepText, keyed, fail, abort}
use Rattle.ext_plan.specs.PlanCalls.{steps_of_call}
use Rattle.ext_plan.specs.ReadPlans.{IsReadPlan, ids_of_nodes}
use Rattle.ext_plan.specs.StepCalls.{start_of}
use Rattle.ext_plan.specs.Steps.{height}
use Rattle.ext_plan.specs.StoreKeys.{key_of_step, number_of_key}
use Rattle.ext_plan.specs.Values.{begins_with}
use Rattle.ext_plan.specs.declared.word.Word.{Word}
use Rattle.ext_plan.specs.declared.word.Word.TheVariants as words
use Rattle.ext_races.specs.Acts.{ActText}
use Rattle.ext_races.specs.MadeSteps.{calls_of, plan_path}
use Rattle.ext_races.specs.Touches.{keys_named, text_if, touch_of, touches_made}
use Rattle.ext_plan.specs.StepWords.{changes, has_text, leaves_closeable}
use Rattle.ext_races.proofs.Lists.{all_contained}
use Rattle.ext_plan_plain.specs.ValueStates.{ValueState}
use Rattle.ext_plan_plain.specs.NodeCalls.{call_run}
use Rattle.ext_one_report.proofs.OfPlan.{Allows, IsLeftOf, IsOfPlan, Leaving, plan_leaves}
use Rattle.ext_one_report.proofs.OfPlanSteps.{IsReady, StepLeaves, steps_ready}
use Rattle.ext_one_report.proofs.OfPlanHeights.{call_stays, is_plan_path, path_inside}
use Rattle.ext_one_report.proofs.CoveredTouches.{is_made, start_made}

-- ---- what they touch

closeable_all : (word : Word) → leaves_closeable word ≡ true → (changes word ≡ true) × (has_text word ≡ true)
closeable_all words.PutCloseable leaves = (refl, refl)
closeable_all words.ComputeCloseable leaves = (refl, refl)
closeable_all word leaves = absurd cc

-- an act that leaves a closeable value does so in the context on which it acts
left_there : (plan : PlanText) (node key : ℕ) (act : ActText) (context : ℕ) → Contains (touches_made plan) (touch_of node key act true context)
    → leaves_closeable act.word ≡ true → has_text act.word ≡ true → begins_with (codes "bad") act.text ≡ true → IsLeftOf plan node context act.text
left_there plan node key act context made leaves tells bad =
    let touch = touch_of node key act true context in
    let told : touch.text ≡ act.text = λ i. text_if (tells i) act.text in
    record {
      left = record {
        touch = touch;
        made = made;
        fails = λ i. leaves i && (ap (begins_with (codes "bad")) told ∙ bad) i;
        context_is = refl;
        text_is = told;
      };
      node_is = refl;
    }

module _ (plan : PlanText) (node : ℕ) (path : List ℕ) (read : IsReadPlan plan) (is : IsPathOf (ids_of_nodes plan.nodes) node path) (leaving : Leaving) (allows : Allows plan leaving node) where
  within : node < length plan.nodes
  within = let inside = path_inside (ids_of_nodes plan.nodes) node path read.runnable.tree is in let long : length (ids_of_nodes plan.nodes) ≡ length plan.nodes = length-map plan.nodes (λ n. n.id) in omega (arith, inside, long)

  own_path : (up : ℕ) (text : List ℕ) → IsLeftOf plan node (start_of (drop up (plan_path plan node))) text → IsLeftOf plan node (start_of (drop up path)) text
  own_path up text = subst (λ p. IsLeftOf plan node (start_of (drop up p)) text) (sym (is_plan_path plan node path read is))

  step_leaves : (call : Call) (step : StepText) → Contains (calls_of plan node) call → Contains (steps_of_call plan call) step → height step < length path → StepLeaves leaving path step
  step_leaves call (keyed word key text up) of_node of_call less = λ leaves closes bad there under late.
      let step = keyed word key text up in
      let act : ActText = record { word = word; key = key; text = text; up = up } in
      let number = number_of_key (keys_named plan) (key_of_step plan.keys key) in
      let all = closeable_all word leaves in
      let low : up < length (plan_path plan node) = subst (λ p. up < length p) (is_plan_path plan node path read is) less in
      let made = start_made plan node act (is_made plan node call step within of_node of_call) all.0 low in
      allows (start_of (drop up path)) there under text late
      (own_path up text (left_there plan node number act (start_of (drop up (plan_path plan node))) made leaves all.1 bad))
  step_leaves call (fail text) of_node of_call less = tt
  step_leaves call (abort text) of_node of_call less = tt

  call_leaves : (call : Call) → Contains (calls_of plan node) call → All (StepLeaves leaving path) (steps_of_call plan call)
  call_leaves call of_node =
      let steps = steps_of_call plan call in
      all_contained (StepLeaves leaving path) steps (λ step of_call. step_leaves call step of_node of_call (All-contains (λ s. height s < length path) steps step (call_stays plan node path read is call of_node) of_call))

  -- ---- a call

  pub call_ready : (call : Call) (s : ValueState) → Contains (calls_of plan node) call → IsReady leaving s → IsReady leaving (call_run plan path call s).state
  call_ready call s of_node h = steps_ready leaving plan.keys path (steps_of_call plan call) s (call_leaves call of_node) h

-- all that its steps leave the plan may leave
pub allows_all : (plan : PlanText) (node : ℕ) → Allows plan (plan_leaves plan) node
allows_all plan node context key number text late left = left.left

pub call_of : (plan : PlanText) (node : ℕ) (path : List ℕ) (call : Call) (s : ValueState) → IsReadPlan plan → IsPathOf (ids_of_nodes plan.nodes) node path → Contains (calls_of plan node) call → s.memory ≡ []
    → IsOfPlan plan s → IsOfPlan plan (call_run plan path call s).state
call_of plan node path call s read is of_node none h = (call_ready plan node path read is (plan_leaves plan) (allows_all plan node) call s of_node (record { memory = none; of = h })).of
