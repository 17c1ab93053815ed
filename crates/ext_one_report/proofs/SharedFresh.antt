-- Contexts in which nothing stands in the plain run: those of nodes that have not begun.
use Rattle.std.proofs.Common.{◌≡◌, ◌≢◌, ◌<◌, ℕ, Bool, true, false, List, [], length, Contains, None, sym, ◌∙◌}
use Rattle.ext_tree.specs.Keys.{KeyValue, global_namespace, key_of}
use Rattle.ext_tree.specs.Trees.{IsParentOf}
use Rattle.ext_plan.specs.Plans.{PlanText}
use Rattle.ext_plan.specs.ReadPlans.{ids_of_nodes}
use Rattle.ext_plan_plain.specs.ValueStates.{ValueState}
use Rattle.ext_one_report.specs.Within.{is_within}
use Rattle.ext_one_report.proofs.Covers.{AreCovered}
use Rattle.ext_one_report.proofs.MatchingWords.{Places, plain_slot}
use Rattle.ext_one_report.proofs.NodePlaces.{any_none, any_of, never, within_any, within_none}
use Rattle.ext_one_report.proofs.PlainFrames.{IsOpen, LeavesElse}

-- nothing stands in the context
pub record IsFresh (context : ℕ) (s : ValueState) : Type 0 where
  pub clear : IsOpen context s
  pub none : (key : KeyValue) → plain_slot s context key ≡ None

pub fresh_left : (changes : Places) (closes : ℕ → Bool) (s t : ValueState) (context : ℕ) → LeavesElse changes closes s t → closes context ≡ false → ((key : KeyValue) → changes context key ≡ false) → IsFresh context s → IsFresh context t
fresh_left changes closes s t context leaves still off fresh = record {
  clear = leaves.stays_open context still fresh.clear;
  none = λ key. leaves.slots context key (off key) still fresh.clear ∙ fresh.none key;
}

some_key : KeyValue
some_key = key_of global_namespace []

module _ (plan : PlanText) (touched changes : ℕ → Places) (covered : AreCovered plan touched changes) (parent other context : ℕ) (other_is : IsParentOf (ids_of_nodes plan.nodes) parent other) (less : context < length plan.nodes)
    (within : is_within plan other context ≡ true) where
  -- no sibling changes a place in the context,
  none_changes : (child : ℕ) (key : KeyValue) → IsParentOf (ids_of_nodes plan.nodes) parent child → child ≢ other → changes child context key ≡ true → ⊥
  none_changes child key child_is differ ch = covered.siblings parent other child context key other_is child_is (λ same. differ (sym same)) within (covered.touches child context key ch)

  -- nor has it the context below it
  none_below : (child : ℕ) → IsParentOf (ids_of_nodes plan.nodes) parent child → child ≢ other → is_within plan child context ≡ true → ⊥
  none_below child child_is differ below = none_changes child some_key child_is differ (covered.own_below child context some_key less below)

  -- so it stays fresh while siblings run
  pub fresh_beside : (children : List ℕ) (s t : ValueState) → ((child : ℕ) → Contains children child → IsParentOf (ids_of_nodes plan.nodes) parent child × (child ≢ other)) → LeavesElse (any_of changes children) (within_any plan children) s t
      → IsFresh context s → IsFresh context t
  fresh_beside children s t each leaves fresh =
      fresh_left (any_of changes children) (within_any plan children) s t context leaves (within_none plan children context (λ child there below. none_below child (each child there).0 (each child there).1 below))
      (λ key. any_none changes children context key (λ child there ch. none_changes child key (each child there).0 (each child there).1 ch)) fresh

  pub fresh_behind : (child : ℕ) (s t : ValueState) → IsParentOf (ids_of_nodes plan.nodes) parent child → child ≢ other → LeavesElse (changes child) (is_within plan child) s t → IsFresh context s → IsFresh context t
  fresh_behind child s t child_is differ leaves fresh =
      fresh_left (changes child) (is_within plan child) s t context leaves (never (is_within plan child context) (none_below child child_is differ)) (λ key. never (changes child context key) (none_changes child key child_is differ)) fresh
