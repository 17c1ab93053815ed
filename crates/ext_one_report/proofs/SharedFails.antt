-- Values whose closes fail at places that nodes share: a step of each node that changes such a place may leave the value there, and so may one of a node beside it.
use Rattle.std.proofs.Common.{◌≡◌, ◌≢◌, ℕ, Bool, true, false, true≢false, List, drop, Contains, Some, refl, ap, sym, ◌∙◌, inl, inr}
use Rattle.std.specs.Prelude.{◌&&◌, codes, if◌then◌else◌}
use Rattle.std.proofs.lemmas.Bool.{and_from}
use Rattle.ext_tree.specs.Keys.{KeyValue}
use Rattle.ext_tree.specs.Trees.{IsParentOf}
use Rattle.ext_plan.specs.Plans.{PlanText}
use Rattle.ext_plan.specs.PlanCalls.{concurrent_of}
use Rattle.ext_plan.specs.ReadPlans.{IsReadPlan, ids_of_nodes}
use Rattle.ext_plan.specs.StepWords.{gives_value, leaves_closeable}
use Rattle.ext_plan.specs.Values.{ValueText, begins_with}
use Rattle.ext_plan.specs.declared.word.Word.{Word}
use Rattle.ext_races.specs.Beside.{IsBeside}
use Rattle.ext_races.specs.Clashes.{may_fail}
use Rattle.ext_races.specs.MadeSteps.{plan_path}
use Rattle.ext_races.specs.OneReports.{SharesValues}
use Rattle.ext_races.specs.Touches.{TouchText, touches_made}
use Rattle.ext_one_report.specs.Within.{is_within}
use Rattle.ext_one_report.proofs.ComputedAbove.{IsStoredIn}
use Rattle.ext_one_report.proofs.Covered.{changed_in}
use Rattle.ext_one_report.proofs.CoveredPlans.{changed_cases}
use Rattle.ext_one_report.proofs.OfPlan.{IsLeftBeside, IsLeftWithin}
use Rattle.ext_one_report.proofs.Open.{given_by, of_fault, of_nothing, of_value}
use Rattle.ext_one_report.proofs.Orders.{Fails}
use Rattle.ext_one_report.proofs.Shared.{given_in}
use Rattle.ext_one_report.proofs.SharedBeside.{also_below, are_beside}
use Rattle.ext_one_report.proofs.SharedFound.{changed_beside, changing_gives, own_word, shares_found, touch_gives}
use Rattle.ext_one_report.proofs.SharedNodes.{outside}

value_is : (x y : ValueText) → of_value x ≡ of_value y → x ≡ y
value_is x y e = cc e

-- a factory that gives a value gives the one of its word and its text
value_of_compute : (keep : Bool) (word : Word) (text : List ℕ) (v : ValueText) → given_by keep word text ≡ of_value v → ◌≡◌ {A = ValueText} (record { text = text; closeable = leaves_closeable word }) v
value_of_compute keep word text v e = by (gives_value word) keep e
  where
    by : (gives kept : Bool) → (if gives then of_value (record { text = text; closeable = leaves_closeable word }) else if kept then of_fault text else of_nothing text) ≡ of_value v
        → ◌≡◌ {A = ValueText} (record { text = text; closeable = leaves_closeable word }) v
    by true kept is = value_is (record { text = text; closeable = leaves_closeable word }) v is
    by false true is = absurd (cc is)
    by false false is = absurd (cc is)

-- a touch that changes a place and gives such a value may leave it
touch_fails : (plan : PlanText) → IsReadPlan plan → (t : TouchText) (v : ValueText) → Contains (touches_made plan) t → t.changes ≡ true → touch_gives plan t ≡ of_value v → Fails v → (may_fail t ≡ true) × (t.text ≡ v.text)
touch_fails plan read t v made changing gives fails =
    let value = value_of_compute plan.keep_faults t.acts t.text v gives in
    let text_is : t.text ≡ v.text = ap (λ (x : ValueText). x.text) value in
    let leaves : leaves_closeable t.word ≡ true = ap leaves_closeable (sym (own_word plan read t made changing)) ∙ (ap (λ (x : ValueText). x.closeable) value ∙ fails.closes) in (
      and_from (t.changes && leaves_closeable t.word) (begins_with (codes "bad") t.text) (and_from t.changes (leaves_closeable t.word) changing leaves) (ap (begins_with (codes "bad")) text_is ∙ fails.bad),
      text_is,
    )

module _ (plan : PlanText) (read : IsReadPlan plan) (shares : SharesValues plan) where
  pub fails_below : (node context : ℕ) (key : KeyValue) (v : ValueText) → given_in plan node context key ≡ Some (of_value v) → changed_in plan node context key ≡ true → Fails v → IsLeftWithin plan node context v.text
  fails_below node context key v e changed fails = elim (changed_cases plan node context key changed) [
    | inl own ↦ absurd (true≢false (sym own.below ∙ outside plan read shares node context key (of_value v) e))
    | inr one ↦
        let is = shares_found plan read node context key (of_value v) e in
        let gives = changing_gives plan read shares node context key (of_value v) is true one (one.changes refl) in
        let left = touch_fails plan read one.touch v one.made (one.changes refl) gives.value fails in
        record {
          left = record { touch = one.touch; made = one.made; fails = left.0; context_is = one.context_is; text_is = left.1 };
          within = one.below;
        }
  ]

  pub fails_beside : (node context : ℕ) (key : KeyValue) (v : ValueText) → given_in plan node context key ≡ Some (of_value v) → ¬ IsStoredIn plan (drop 1 (plan_path plan node)) context key → Fails v
      → IsLeftBeside plan node context v.text
  fails_beside node context key v e none fails =
      let is = shares_found plan read node context key (of_value v) e in
      let other = changed_beside plan read shares node context key (of_value v) is none in
      let left = touch_fails plan read other.two.touch v other.two.made other.changes other.value fails in
      record {
        left = record { touch = other.two.touch; made = other.two.made; fails = left.0; context_is = other.two.context_is; text_is = left.1 };
        beside = λ below within. are_beside plan read below other.two.touch.node (also_below plan read node other.two.touch.node below other.two.beside within);
      }

-- nodes below two different concurrent children of a container may run beside one another
pub children_beside : (plan : PlanText) → IsReadPlan plan → (parent child other n m : ℕ) → IsParentOf (ids_of_nodes plan.nodes) parent child → IsParentOf (ids_of_nodes plan.nodes) parent other → child ≢ other
    → concurrent_of plan child ≡ true → concurrent_of plan other ≡ true → is_within plan child n ≡ true → is_within plan other m ≡ true → IsBeside plan n m
children_beside plan read parent child other n m up up' differ concurrent concurrent' below below' = are_beside plan read n m (record {
  container = parent;
  child = child;
  other = other;
  child_is = up;
  other_is = up';
  below = below;
  other_below = below';
  differ = differ;
  concurrent = concurrent;
  other_concurrent = concurrent';
})
