-- A step of a call at places that its node shares: where it changes one it computes what others compute there, and it changes none above one.
use Rattle.std.proofs.Common.{◌≡◌, ◌<◌, ◌⊎◌, ℕ, Bool, true, false, List, [], ◌∷◌, length, Contains, drop, Some, None, refl, ap, sym, subst, ◌∙◌, arith, inl, inr}
use Rattle.std.proofs.lemmas.Bool.{cases_Bool, true≢false}
use Rattle.std.proofs.lemmas.List.{length-drop}
use Rattle.std.proofs.lemmas.List.Elements.{All-contains}
use Rattle.ext_tree.specs.Keys.{KeyValue}
use Rattle.ext_tree.specs.Trees.{IsPathOf}
use Rattle.ext_lifecycle.specs.declared.call.Call.{Call}
use Rattle.ext_plan.specs.Plans.{PlanText, StepKeyText, StepText, keyed, fail, abort}
use Rattle.ext_plan.specs.PlanCalls.{steps_of_call}
use Rattle.ext_plan.specs.ReadPlans.{IsReadPlan, ids_of_nodes}
use Rattle.ext_plan.specs.StepCalls.{start_of}
use Rattle.ext_plan.specs.Steps.{height}
use Rattle.ext_plan.specs.StoreKeys.{key_of_step, number_of_key}
use Rattle.ext_plan.specs.declared.word.Word.{Word}
use Rattle.ext_plan.specs.declared.word.Word.TheVariants as words
use Rattle.ext_races.specs.Acts.{ActText}
use Rattle.ext_races.specs.MadeSteps.{calls_of, plan_path}
use Rattle.ext_races.specs.Touches.{keys_named, text_if, touch_of, touches_along, touches_made}
use Rattle.ext_plan.specs.StepWords.{changes, computes, has_text}
use Rattle.ext_one_report.proofs.PlanCells.{changed_by}
use Rattle.ext_one_report.proofs.MatchingWords.{RunView}
use Rattle.ext_one_report.proofs.Covered.{changed_in, touched_in}
use Rattle.ext_one_report.proofs.CoveredCalls.{call_stays}
use Rattle.ext_one_report.proofs.CoveredPaths.{path_there}
use Rattle.ext_one_report.proofs.CoveredTouches.{along_first, first_changes, step_of}
use Rattle.ext_one_report.proofs.CoveredPlans.{IsTouchedBelow, an_act, changed_by_touch, none_is, step_changes, within_itself}
use Rattle.ext_one_report.proofs.Open.{ComputesOpen, FailsOpen, Given, Open, given_by, of_nothing}
use Rattle.ext_races.specs.OneReports.{SharesValues}
use Rattle.ext_one_report.proofs.OpenCalls.{LeavesAbove}
use Rattle.ext_one_report.proofs.Shared.{given_in}
use Rattle.ext_one_report.proofs.SharedFound.{Gives, changing_gives, same_count, shares_found}
use Rattle.ext_one_report.proofs.SharedNodes.{above}
use Rattle.ext_one_report.proofs.SharedTouches.{changes_there}
use Rattle.ext_one_report.proofs.WordCases.{of_factories}

-- ---- lists

pub from_start : (path : List ℕ) → 0 < length path → (above : List ℕ) × (path ≡ start_of path ∷ above)
from_start [] some = absurd (omega (arith, some))
from_start (context ∷ above) some = (above, refl)

-- what a factory gives is left there; or it fails, and nothing is kept
by_factory : (keep : Bool) (word : Word) (text : List ℕ) → computes word ≡ true
    → (given_by keep word (text_if (has_text word) text) ≡ given_by true word text) ⊎ ((word ≡ words.ComputeFail) × (given_by keep word (text_if (has_text word) text) ≡ of_nothing text))
by_factory true word text has = inl (of_factories (λ w. given_by true w (text_if (has_text w) text) ≡ given_by true w text) refl refl refl word has)
by_factory false word text has = of_factories (λ w. (given_by false w (text_if (has_text w) text) ≡ given_by true w text) ⊎ ((w ≡ words.ComputeFail) × (given_by false w (text_if (has_text w) text) ≡ of_nothing text)))
    (inl refl) (inl refl) (inr (refl, refl)) word has

-- ---- steps of a call

module _ (plan : PlanText) (read : IsReadPlan plan) (shares : SharesValues plan) (node : ℕ) (call : Call) (less : node < length (ids_of_nodes plan.nodes)) (among : Contains (calls_of plan node) call) where
  abbrev path : List ℕ
  path = plan_path plan node

  pub path_is : IsPathOf (ids_of_nodes plan.nodes) node (plan_path plan node)
  path_is = path_there (ids_of_nodes plan.nodes) read.runnable.tree node less

  pub within : node < length plan.nodes
  within = let count = same_count plan in omega (arith, less, count)

  pub goes_up : (act : ActText) → Contains (steps_of_call plan call) (step_of act) → 0 < length (drop act.up (plan_path plan node))
  goes_up act there =
      let low : act.up < length path = All-contains (λ s. height s < length path) (steps_of_call plan call) (step_of act) (call_stays plan read node path path_is call among) there in
      let long = length-drop act.up path in
      omega (arith, low, long)

  -- the touch of the place that a step changes
  pub acts_there : (act : ActText) → Contains (steps_of_call plan call) (step_of act) → changes act.word ≡ true
      → Contains (touches_made plan) (touch_of node (number_of_key (keys_named plan) (key_of_step plan.keys act.key)) act (changes act.word) (start_of (drop act.up (plan_path plan node))))
  acts_there act there changing =
      let number = number_of_key (keys_named plan) (key_of_step plan.keys act.key) in
      let context = start_of (drop act.up path) in
      subst (λ b. Contains (touches_made plan) (touch_of node number act b context)) (sym changing)
      (changes_there plan node call within among act there changing (touch_of node number act true context)
      (subst (Contains (touches_along node number act None (drop act.up path))) (first_changes node number act None context changing) (along_first node number act None (drop act.up path) (goes_up act there))))

  -- where the place is shared, it computes what others compute there
  gives_there : (act : ActText) → Contains (steps_of_call plan call) (step_of act) → changes act.word ≡ true → (v : Given)
      → given_in plan node (start_of (drop act.up (plan_path plan node))) (key_of_step plan.keys act.key) ≡ Some v
      → Gives plan (touch_of node (number_of_key (keys_named plan) (key_of_step plan.keys act.key)) act true (start_of (drop act.up (plan_path plan node)))) v
  gives_there act there changing v e =
      let key = key_of_step plan.keys act.key in
      let number = number_of_key (keys_named plan) key in
      let context = start_of (drop act.up path) in
      let one : IsTouchedBelow plan node context key true = record {
        touch = touch_of node number act true context;
        made = subst (λ b. Contains (touches_made plan) (touch_of node number act b context)) changing (acts_there act there changing);
        below = within_itself plan read node within;
        context_is = refl;
        key_is = refl;
        changes = λ told. refl;
      } in
      changing_gives plan read shares node context key v (shares_found plan read node context key v e) true one refl

  -- what is open at the place of the one is so at the place of the other, where they are one
  moved : (o : Open) (v : Given) (a b : StepKeyText × ℕ) → a ≡ b → o (start_of (drop b.1 (plan_path plan node))) (key_of_step plan.keys b.0) ≡ Some v → o (start_of (drop a.1 (plan_path plan node))) (key_of_step plan.keys a.0) ≡ Some v
  moved o v a b same is = subst (λ (p : StepKeyText × ℕ). o (start_of (drop p.1 path)) (key_of_step plan.keys p.0) ≡ Some v) (sym same) is

  -- A step that changes a shared place computes what is left there, where this is open, or fails as others do
  pub computes_there : (step : StepText) → Contains (steps_of_call plan call) step → (o : Open) (key : StepKeyText) (up : ℕ) (v : Given) → changed_by step ≡ Some (key, up)
      → given_in plan node (start_of (drop up (plan_path plan node))) (key_of_step plan.keys key) ≡ Some v → o (start_of (drop up (plan_path plan node))) (key_of_step plan.keys key) ≡ Some v
      → ComputesOpen plan.keys (plan_path plan node) o step ⊎ FailsOpen plan.keys (plan_path plan node) o step
  computes_there (keyed word k text u) there o key up v changed e open_is = elim (cases_Bool (changes word)) [
    | inl changing ↦
        let some : Some (k, u) ≡ Some (key, up) = rw changing at changed in
        let same : (k, u) ≡ (key, up) = cc some in
        let gives = gives_there (an_act word k text u) there changing v (moved (given_in plan node) v (k, u) (key, up) same e) in
        let here = moved o v (k, u) (key, up) same open_is in
        elim (by_factory plan.keep_faults word text gives.acts) [
          | inl left ↦ inl (gives.acts, here ∙ ap (λ w. Some w) (sym gives.value ∙ left))
          | inr fails ↦ inr (fails.0, here ∙ ap (λ w. Some w) (sym gives.value ∙ fails.1))
        ]
    | inr still ↦ absurd (none_is (rw still at changed))
  ]
  computes_there (fail text) there o key up v changed e open_is = absurd (cc changed)
  computes_there (abort text) there o key up v changed e open_is = absurd (cc changed)

  -- a step changes no place above one that is shared
  pub leaves_above : (run : RunView) → run.store.tree ≡ ids_of_nodes plan.nodes → (step : StepText) → Contains (steps_of_call plan call) step → (o : Open)
      → ((context : ℕ) (key : KeyValue) (v : Given) → o context key ≡ Some v → given_in plan node context key ≡ Some v) → LeavesAbove run plan.keys (plan_path plan node) o step
  leaves_above run tree step there o shared = λ key up context v walk changed open_is is held.
      let k = key_of_step plan.keys key in
      let on = subst (λ ids. IsPathOf ids context (context ∷ walk)) tree is in
      let all = above plan read shares node context k v (shared context k v open_is) walk on in
      let at = start_of (drop up path) in
      let one = All-contains (λ c. (touched_in plan node c k ≡ true) × (given_in plan node c k ≡ None) × (changed_in plan node c k ≡ false)) walk at all held in
      true≢false (sym (changed_by_touch plan node at k (step_changes plan read node call path path_is among step key up there changed)) ∙ one.2)
