-- The nodes of a plan that share values share the places of its touches.
use Rattle.std.proofs.Common.{◌≡◌, ◌<◌, ◌⊎◌, ℕ, inl, inr, Bool, true, false, List, [], ◌∷◌, ◌++◌, length, Contains, Option, None, Some, drop, refl, sym, subst, arith}
use Rattle.std.specs.Prelude.{find, if◌then◌else◌}
use Rattle.std.proofs.lemmas.Bool.{cases_Bool}
use Rattle.std.proofs.lemmas.List.Elements.{Contains-append_left, Contains-append_right}
use Rattle.std.specs.List.{flat_map}
use Rattle.ext_tree.specs.Keys.{KeyValue}
use Rattle.ext_tree.specs.Trees.{IsPathOf}
use Rattle.ext_lifecycle.specs.declared.call.Call.{Call}
use Rattle.ext_lifecycle.specs.Callbacks.{test_call}
use Rattle.ext_plan.specs.Plans.{PlanText, StepKeyText, StepText}
use Rattle.ext_plan.specs.PlanCalls.{steps_of_call}
use Rattle.ext_plan.specs.ReadPlans.{IsReadPlan, ids_of_nodes}
use Rattle.ext_plan.specs.StepCalls.{start_of}
use Rattle.ext_plan.specs.StoreKeys.{key_of_step}
use Rattle.ext_plan.specs.declared.word.Word.{Word}
use Rattle.ext_plan.specs.StepWords.{gives_value, leaves_closeable}
use Rattle.ext_races.specs.Touches.{TouchText, touches_made}
use Rattle.ext_races.specs.MadeSteps.{calls_after, calls_before, calls_of}
use Rattle.ext_one_report.proofs.PlanCells.{changed_by}
use Rattle.ext_one_report.proofs.MatchingWords.{RunView}
use Rattle.ext_one_report.proofs.Covered.{touched_in}
use Rattle.ext_one_report.proofs.CoveredCalls.{made_path}
use Rattle.ext_one_report.proofs.CoveredPaths.{has_context}
use Rattle.ext_one_report.proofs.ComputedAbove.{NoneOpenAbove}
use Rattle.ext_one_report.proofs.Open.{ComputesOpen, FailsOpen, Given, IsKeptBy, Open, given_by, of_fault, of_nothing, of_value}
use Rattle.ext_one_report.proofs.OpenCalls.{CallFitsOpen, NoneOpen}
use Rattle.ext_races.specs.OneReports.{SharesValues}
use Rattle.ext_one_report.proofs.Shared.{given_in, given_of, unshared, is_open_at}
use Rattle.ext_one_report.proofs.SharedPlansWords.{PlansAreShared}
use Rattle.ext_one_report.proofs.SharedCalls.{call_fits_open}
use Rattle.ext_one_report.proofs.SharedFails.{fails_below, fails_beside}
use Rattle.ext_one_report.proofs.SharedNodes as laws
use Rattle.ext_one_report.proofs.SharedNodes.{below, below_changed, beside, outside, same, touched_there}
use Rattle.ext_one_report.proofs.SharedSteps.{computes_there}
use Rattle.ext_one_report.proofs.SharedFound.{same_count}
use Rattle.ext_one_report.proofs.SharedTouches.{IsMadeBehind, behind_befores, behind_none}
use Rattle.ext_races.proofs.Lists.{contains_first, contains_nothing}

-- what is left is what a store keeps that keeps faults, or none
given_is_kept : (keep : Bool) (word : Word) (text : List ℕ) → IsKeptBy keep (given_by keep word text)
given_is_kept keep word text = elim (cases_Bool (gives_value word)) [
  | inl gives ↦ subst (λ b. IsKeptBy keep (if b then of_value (record { text = text; closeable = leaves_closeable word }) else if keep then of_fault text else of_nothing text)) (sym gives) tt
  | inr fails ↦ subst (λ b. IsKeptBy keep (if b then of_value (record { text = text; closeable = leaves_closeable word }) else if keep then of_fault text else of_nothing text)) (sym fails) (by keep)
]
  where
    by : (keeps : Bool) → IsKeptBy keeps (if keeps then of_fault text else of_nothing text)
    by true = refl
    by false = refl

kept_of : (plan : PlanText) (o : Option TouchText) (v : Given) → given_of plan o ≡ Some v → IsKeptBy plan.keep_faults v
kept_of plan None v is = absurd (cc is)
kept_of plan (Some touch) v is = let same : given_by plan.keep_faults touch.acts touch.text ≡ v = cc is in subst (IsKeptBy plan.keep_faults) same (given_is_kept plan.keep_faults touch.acts touch.text)

kept : (plan : PlanText) (node context : ℕ) (key : KeyValue) (v : Given) → given_in plan node context key ≡ Some v → IsKeptBy plan.keep_faults v
unfolding given_in
kept plan node context key v is = kept_of plan (find (is_open_at plan node context key) (touches_made plan)) v is

computes : (plan : PlanText) → IsReadPlan plan → SharesValues plan → (node : ℕ) (path : List ℕ) (call : Call) (step : StepText) (key : StepKeyText) (up : ℕ) (v : Given)
    → IsPathOf (ids_of_nodes plan.nodes) node path → Contains (calls_of plan node) call → Contains (steps_of_call plan call) step → changed_by step ≡ Some (key, up)
    → given_in plan node (start_of (drop up path)) (key_of_step plan.keys key) ≡ Some v → ComputesOpen plan.keys path (given_in plan node) step ⊎ FailsOpen plan.keys path (given_in plan node) step
computes plan read shares node path call step key up v is among there changed e =
    let less = has_context (ids_of_nodes plan.nodes) read.runnable.tree node path is in
    let along = made_path plan read node path is in
    let given = subst (λ p. given_in plan node (start_of (drop up p)) (key_of_step plan.keys key) ≡ Some v) along e in
    subst (λ p. ComputesOpen plan.keys p (given_in plan node) step ⊎ FailsOpen plan.keys p (given_in plan node) step) (sym along) (computes_there plan read shares node call less among step there (given_in plan node) key up v changed given given)

-- a call of a node behind others, where none of the places that it shares is open whose value those compute
fits : (plan : PlanText) (run : RunView) → IsReadPlan plan → SharesValues plan → run.store.tree ≡ ids_of_nodes plan.nodes → (node : ℕ) (path : List ℕ) (call : Call)
    → IsPathOf (ids_of_nodes plan.nodes) node path → Contains (calls_of plan node) call → (earlier : List StepText) → IsMadeBehind plan node call earlier → (open_at : Open)
    → ((context : ℕ) (key : KeyValue) (v : Given) → open_at context key ≡ Some v → given_in plan node context key ≡ Some v) → NoneOpenAbove plan (drop 1 path) open_at → NoneOpen plan.keys path open_at earlier
    → CallFitsOpen run plan path (unshared (touched_in plan node) open_at) open_at call
fits plan run read shares tree node path call is among earlier behind open_at open_is above none =
    let less = has_context (ids_of_nodes plan.nodes) read.runnable.tree node path is in
    let along = made_path plan read node path is in
    subst (λ p. CallFitsOpen run plan p (unshared (touched_in plan node) open_at) open_at call) (sym along)
    (call_fits_open plan read shares run tree node call less among earlier behind open_at open_is (subst (λ p. NoneOpenAbove plan (drop 1 p) open_at) along above)
    (subst (λ p. NoneOpen plan.keys p open_at earlier) along none))

is_within : (plan : PlanText) → IsReadPlan plan → (node : ℕ) (path : List ℕ) → IsPathOf (ids_of_nodes plan.nodes) node path → node < length plan.nodes
is_within plan read node path is =
    let less = has_context (ids_of_nodes plan.nodes) read.runnable.tree node path is in
    let count = same_count plan in
    omega (arith, less, count)

befores : (plan : PlanText) (run : RunView) → IsReadPlan plan → SharesValues plan → run.store.tree ≡ ids_of_nodes plan.nodes → (node : ℕ) (path : List ℕ) (before : List Call) (call : Call) (more : List Call) (open_at : Open)
    → IsPathOf (ids_of_nodes plan.nodes) node path → calls_before plan node ++ test_call node ∷ [] ≡ before ++ call ∷ more
    → ((context : ℕ) (key : KeyValue) (v : Given) → open_at context key ≡ Some v → given_in plan node context key ≡ Some v) → NoneOpenAbove plan (drop 1 path) open_at
    → NoneOpen plan.keys path open_at (flat_map (steps_of_call plan) before) → CallFitsOpen run plan path (unshared (touched_in plan node) open_at) open_at call
befores plan run read shares tree node path before call more open_at is whole open_is above none =
    let opening = calls_before plan node ++ test_call node ∷ [] in
    let there : Contains opening call = subst (λ (l : List Call). Contains l call) (sym whole) (Contains-append_right before (call ∷ more) call (contains_first call more)) in
    fits plan run read shares tree node path call is (Contains-append_left opening (calls_after plan node) call there) (flat_map (steps_of_call plan) before)
    (behind_befores plan node (is_within plan read node path is) before call more whole) open_at open_is above none

afters : (plan : PlanText) (run : RunView) → IsReadPlan plan → SharesValues plan → run.store.tree ≡ ids_of_nodes plan.nodes → (node : ℕ) (path : List ℕ) (call : Call) (open_at : Open)
    → IsPathOf (ids_of_nodes plan.nodes) node path → Contains (calls_after plan node) call
    → ((context : ℕ) (key : KeyValue) (v : Given) → open_at context key ≡ Some v → given_in plan node context key ≡ Some v) → NoneOpenAbove plan (drop 1 path) open_at
    → CallFitsOpen run plan path (unshared (touched_in plan node) open_at) open_at call
afters plan run read shares tree node path call open_at is there open_is above =
    let opening = calls_before plan node ++ test_call node ∷ [] in
    fits plan run read shares tree node path call is (Contains-append_right opening (calls_after plan node) call there) [] (behind_none plan node (is_within plan read node path is) call there) open_at open_is above
    (record { none = λ step held computes. contains_nothing step held })

pub plans_are_shared : PlansAreShared
plans_are_shared plan run read shares tree = record {
  touched_there = touched_there plan read shares;
  outside = outside plan read shares;
  kept = kept plan;
  above = λ node context key v path e is. laws.above plan read shares node context key v e path is;
  computes = computes plan read shares;
  befores = befores plan run read shares tree;
  afters = afters plan run read shares tree;
  below_changed = below_changed plan read shares;
  below = below plan read shares;
  beside = beside plan read shares;
  same = same plan read shares;
  fails_below = fails_below plan read shares;
  fails_beside = fails_beside plan read shares;
}
