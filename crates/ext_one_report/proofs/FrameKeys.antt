-- The steps of a plan name the keys of the plan, so that its nodes give numbers to these alone.
use Rattle.std.proofs.Common.{◌≡◌, ◌<◌, ℕ, zero, suc, true, List, [], length, All, IfSome, Contains, refl, sym, subst}
use Rattle.std.proofs.lemmas.List.Elements.{All-contains}
use Rattle.ext_model.specs.declared.event.Act.TheVariants.{Seal}
use Rattle.ext_one_report.proofs.Numbers.{enough_numbers}
use Rattle.ext_tree.specs.Keys.{KeyValue}
use Rattle.ext_tree.specs.Trees.{IsPathOf}
use Rattle.ext_lifecycle.specs.declared.call.Call.{Call}
use Rattle.ext_plan.specs.Plans.{KeyText, PlanText, StepText, keyed, fail, abort}
use Rattle.ext_plan.specs.PlanCalls.{steps_of_call}
use Rattle.ext_plan.specs.ReadPlans.{NodesAreTree, ids_of_nodes}
use Rattle.ext_plan.specs.StoreKeys.{is_there, key_of_step}
use Rattle.ext_plan.proofs.KeyLists.{is_contained}
use Rattle.ext_races.specs.Acts.{act_of}
use Rattle.ext_races.specs.MadeSteps.{calls_of, made_by, steps_made}
use Rattle.ext_races.specs.Touches.{key_of_act, key_of_made, keys_named}
use Rattle.ext_races.proofs.Lists.{all_contained}
use Rattle.ext_plan_plain.specs.ValueStates.{ValueState}
use Rattle.ext_plan_plain.specs.ContextEnds.{seal_keys}
use Rattle.ext_plan_plain.specs.PlainRun.{RunState, node_run}
use Rattle.ext_plan_plain.specs.PlainRunLaws.{NamesOneOf}
use Rattle.ext_plan_plain.proofs.Values.{act-values}
use Rattle.ext_one_report.proofs.Rooms.{GaveFew, few_are_given}
use Rattle.ext_one_report.proofs.FrameNodes.{KeepNodes, nodes_keep, within_nodes}
use Rattle.ext_one_report.proofs.CoveredTouches.{is_made}
use Rattle.ext_one_report.proofs.KeysNamed.{there_all}

-- a step of a key that is there names it
names_it : (names : List KeyValue) (keys : List KeyText) (step : StepText) → IfSome (key_of_act keys (act_of step)) (λ key. is_there names key ≡ true) → NamesOneOf names keys step
names_it names keys (keyed word key text up) there = is_contained names (key_of_step keys key) there
names_it names keys (fail text) there = tt
names_it names keys (abort text) there = tt

pub calls_name_keys : (plan : PlanText) (node : ℕ) (call : Call) → node < length plan.nodes → Contains (calls_of plan node) call → All (NamesOneOf (keys_named plan) plan.keys) (steps_of_call plan call)
calls_name_keys plan node call less there =
    all_contained (NamesOneOf (keys_named plan) plan.keys) (steps_of_call plan call) (λ step made.
    let of_plan = is_made plan node call step less there made in
    names_it (keys_named plan) plan.keys step
    (All-contains (λ m. IfSome (key_of_made plan.keys m) (λ key. is_there (keys_named plan) key ≡ true)) (steps_made plan) (made_by node of_plan.front step) (there_all plan.keys [] (steps_made plan)) of_plan.made))

-- ---- so only these get numbers

module _ (names : List KeyValue) (numbers : ℕ) where
  seals_few : (count node : ℕ) (s : ValueState) → GaveFew names numbers s → GaveFew names numbers (seal_keys count node s)
  unfolding seal_keys
  seals_few zero node s few = few
  seals_few (suc key) node s few =
      let before = seals_few key node s few in
      record {
        values = act-values (Seal (node, key)) (seal_keys key node s) refl before.values;
        keys = record { different = before.keys.different; few = before.keys.few };
        named = before.named;
        room = before.room;
        limit = before.limit;
      }

  -- any node of the plan
  abbrev Any : ℕ → List ℕ → Type 0
  Any node path = Unit {0}

  few_keep : (plan : PlanText) → NodesAreTree plan → names ≡ keys_named plan → KeepNodes plan Any (GaveFew names numbers)
  few_keep plan tree are = record {
    below = λ parent child path is parented any. tt;
    calls = λ node path call s any is there few. few_are_given names numbers plan.keys path (steps_of_call plan call) s few
        (subst (λ ns. All (NamesOneOf ns plan.keys) (steps_of_call plan call)) (sym are) (calls_name_keys plan node call (within_nodes plan node path tree is) there));
    seals = λ node path s any is few. seals_few s.places node s few;
  }

pub nodes_give_few : (plan : PlanText) (levels node : ℕ) (path : List ℕ) (r : RunState) → NodesAreTree plan → IsPathOf (ids_of_nodes plan.nodes) node path
    → GaveFew (keys_named plan) (enough_numbers plan.size) r.state → GaveFew (keys_named plan) (enough_numbers plan.size) (node_run plan levels path r).state
nodes_give_few plan levels node path r tree is few =
    let names = keys_named plan in
    let numbers = enough_numbers plan.size in
    nodes_keep plan (Any names numbers) (GaveFew names numbers) (few_keep names numbers plan tree refl) tree levels node path r tt is few
