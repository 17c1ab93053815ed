-- What the nodes of a plan share: they touch it, it lies above them, they only look at the places above it, and nodes beside one another share the same.
use Rattle.std.proofs.Common.{◌≡◌, ◌≢◌, ◌<◌, ◌⊎◌, ℕ, Bool, true, false, List, [], ◌∷◌, length, Contains, All, Option, Some, None, drop, refl, ap, sym, subst, ◌∙◌, arith, inl, inr}
use Rattle.std.proofs.lemmas.Bool.{cases_Bool, cases_eq}
use Rattle.ext_tree.specs.Keys.{KeyValue}
use Rattle.ext_tree.specs.Trees.{Id, IsParentOf, IsPathOf, IsWalk}
use Rattle.ext_tree.proofs.Walks.{one_path}
use Rattle.ext_plan.specs.Plans.{PlanText}
use Rattle.ext_plan.specs.PlanCalls.{concurrent_of}
use Rattle.ext_plan.specs.ReadPlans.{IsReadPlan, ids_of_nodes}
use Rattle.ext_plan.specs.StepWords.{computes}
use Rattle.ext_plan.specs.declared.word.Word.TheVariants as words
use Rattle.ext_races.specs.MadeSteps.{plan_path}
use Rattle.ext_races.specs.Touches.{TouchText, touches_made}
use Rattle.ext_races.proofs.Lists.{all_contained, contains_later, contains_nothing}
use Rattle.ext_one_report.proofs.Covered.{changed_in, touched_in}
use Rattle.ext_one_report.specs.Within.{is_within}
use Rattle.ext_one_report.proofs.CoveredPaths.{has_context, path_there}
use Rattle.ext_one_report.proofs.CoveredPlans.{IsTouchedBelow, changed_cases, changed_touched, siblings, touched_by, touched_cases, within_itself, within_parent, within_told}
use Rattle.ext_one_report.proofs.CoveredTouches.{touch_on_path}
use Rattle.ext_races.specs.OneReports.{SharesValues}
use Rattle.ext_one_report.proofs.Open.{Given, some_or_none}
use Rattle.ext_one_report.proofs.Shared.{given_in, unshared}
use Rattle.ext_one_report.proofs.ComputedAbove.{IsStoredIn}
use Rattle.ext_one_report.proofs.SharedBeside.{AreBelow, IsBelowOther, also_below, beside_cases, not_below, turned, within_through}
use Rattle.ext_one_report.proofs.SharedFound.{EitherChanges, IsShared, IsTouchedAt, IsTouchedBeside, above_near, below_at, beside_at, both_give, changed_beside, changing_gives, first_gives, give_one, same_count, second_gives, shares_found, shares_told, touch_gives}
use Rattle.ext_one_report.proofs.SharedTouches.{IsLooked, compute_looks}

-- what is touched and not shared
pub unshared_is : (plan : PlanText) (node context : ℕ) (key : KeyValue) → touched_in plan node context key ≡ true → given_in plan node context key ≡ None
    → unshared (touched_in plan node) (given_in plan node) context key ≡ true
unshared_is plan node context key touched none = rw none touched

-- what it may change it touches
weaker : (plan : PlanText) (node context : ℕ) (key : KeyValue) (told : Bool) → IsTouchedBelow plan node context key told → IsTouchedBelow plan node context key false
weaker plan node context key told is = record { touch = is.touch; made = is.made; below = is.below; context_is = is.context_is; key_is = is.key_is; changes = λ false_told. absurd cc }

-- what only looks computes nothing
looks_only : (t : TouchText) → t.acts ≡ words.Want → computes t.acts ≡ true → ⊥
looks_only t only gives = let no : false ≡ true = sym (ap computes only) ∙ gives in absurd (cc no)

module _ (plan : PlanText) (read : IsReadPlan plan) (shares : SharesValues plan) where
  abbrev ids : List Id
  ids = ids_of_nodes plan.nodes

  itself : (node : ℕ) → node < length ids → is_within plan node node ≡ true
  itself node less = let count = same_count plan in within_itself plan read node (omega (arith, less, count))

  module _ (node context : ℕ) (key : KeyValue) (v : Given) (e : given_in plan node context key ≡ Some v) where
    found : IsShared plan node context key v
    found = shares_found plan read node context key v e

    pub touched_there : touched_in plan node context key ≡ true
    touched_there = touched_by plan node context key found.first

    not_within : is_within plan node context ≡ true → ⊥
    not_within below =
        let u = found.second in
        let on : is_within plan context u.touch.node ≡ true = within_told plan context u.touch.node (subst (Contains (plan_path plan u.touch.node)) u.context_is (touch_on_path plan u.touch u.made)) in
        let less = above_near plan read node found.first.touch found.first.made found.first.below in
        not_below plan read node u.touch.node u.beside (within_through plan read node context u.touch.node less below on)

    pub outside : is_within plan node context ≡ false
    outside = elim (cases_Bool (is_within plan node context)) [ inl below ↦ absurd (not_within below) | inr out ↦ out ]

    -- ---- the places above a shared one

    module _ (walk : List ℕ) (is : IsPathOf ids context (context ∷ walk)) (c : ℕ) (there : Contains walk c) where
      looks_from : (t : TouchText) → Contains (touches_made plan) t → t.context ≡ context → computes t.acts ≡ true → IsLooked plan t.node c t.key
      looks_from t made at gives = compute_looks plan read t gives walk (subst (λ x. IsWalk ids x walk) (sym at) is.1) c there made

      -- the node looks at them
      record LooksBelow : Type 0 where
        one : IsTouchedBelow plan node c key false
        only : one.touch.acts ≡ words.Want

      looked : LooksBelow
      looked =
          let first = found.first in
          let look = looks_from first.touch first.made first.context_is (first_gives plan read shares node context key v found).acts in
          record {
            one = record {
              touch = look.touch;
              made = look.made;
              below = subst (λ n. is_within plan node n ≡ true) (sym look.node_is) first.below;
              context_is = look.context_is;
              key_is = look.key_is ∙ first.key_is;
              changes = λ told. absurd cc;
            };
            only = look.only;
          }

      -- and so does the one beside it
      record LooksBeside : Type 0 where
        one : IsTouchedBeside plan node c key
        only : one.touch.acts ≡ words.Want

      looked_beside : LooksBeside
      looked_beside =
          let second = found.second in
          let look = looks_from second.touch second.made second.context_is (second_gives plan read shares node context key v found).acts in
          record {
            one = record {
              touch = look.touch;
              made = look.made;
              beside = subst (AreBelow plan node) (sym look.node_is) second.beside;
              context_is = look.context_is;
              key_is = look.key_is ∙ second.key_is;
            };
            only = look.only;
          }

      context_below : is_within plan c context ≡ true
      context_below =
          let less = has_context ids read.runnable.tree context (context ∷ walk) is in
          within_told plan c context (subst (λ p. Contains p c) (one_path ids read.runnable.tree context (context ∷ walk) (plan_path plan context) is (path_there ids read.runnable.tree context less)) (contains_later context c walk there))

      -- what changes them at or below the node would meet the look-up beside it
      never_changed : (one : IsTouchedBelow plan node c key true) → ⊥
      never_changed one =
          let two = looked_beside in
          looks_only two.one.touch two.only (both_give plan read shares node c key true one two.one (inl (one.changes refl))).second

      not_changed : changed_in plan node c key ≡ true → ⊥
      not_changed changed = elim (changed_cases plan node c key changed) [
        | inl own ↦
            let less = above_near plan read node found.first.touch found.first.made found.first.below in
            not_within (within_through plan read node c context less own.below context_below)
        | inr one ↦ never_changed one
      ]

      -- and what changes them beside it the node's own
      not_shared : (w : Given) → given_in plan node c key ≡ Some w → ⊥
      not_shared w f =
          let is = shares_found plan read node c key w f in
          elim is.one [
            | inl changing ↦
                never_changed (record {
                  touch = is.first.touch;
                  made = is.first.made;
                  below = is.first.below;
                  context_is = is.first.context_is;
                  key_is = is.first.key_is;
                  changes = λ told. changing;
                })
            | inr changing ↦ looks_only looked.one.touch looked.only (both_give plan read shares node c key false looked.one is.second (inr changing)).first
          ]

      above_at : (touched_in plan node c key ≡ true) × (given_in plan node c key ≡ None) × (changed_in plan node c key ≡ false)
      above_at = (
        touched_by plan node c key looked.one,
        elim (some_or_none (given_in plan node c key)) [ inl none ↦ none | inr some ↦ absurd (not_shared some.0 some.1) ],
        elim (cases_Bool (changed_in plan node c key)) [ inl changed ↦ absurd (not_changed changed) | inr not ↦ not ],
      )

    pub above : (walk : List ℕ) → IsPathOf ids context (context ∷ walk) → All (λ c. (touched_in plan node c key ≡ true) × (given_in plan node c key ≡ None) × (changed_in plan node c key ≡ false)) walk
    above walk is = all_contained (λ c. (touched_in plan node c key ≡ true) × (given_in plan node c key ≡ None) × (changed_in plan node c key ≡ false)) walk (above_at walk is)

  -- ---- children

  abbrev beside_of : (node other context : ℕ) (key : KeyValue) → (is : IsTouchedBeside plan node context key) → AreBelow plan other is.touch.node → IsTouchedBeside plan other context key
  beside_of node other context key is beside = record { touch = is.touch; made = is.made; beside = beside; context_is = is.context_is; key_is = is.key_is }

  -- what is touched beside a parent is so beside its child,
  abbrev to_child : (parent child context : ℕ) (key : KeyValue) → IsParentOf ids parent child → IsTouchedBeside plan parent context key → IsTouchedBeside plan child context key
  to_child parent child context key up two =
      beside_of parent child context key two (also_below plan read parent two.touch.node child two.beside (within_parent plan read parent child child up (itself child up.child_within)))

  -- and what is touched below the child, below the parent
  abbrev to_parent : (parent child context : ℕ) (key : KeyValue) (told : Bool) → IsParentOf ids parent child → IsTouchedBelow plan child context key told → IsTouchedBelow plan parent context key told
  to_parent parent child context key told up one = record {
    touch = one.touch;
    made = one.made;
    below = within_parent plan read parent child one.touch.node up one.below;
    context_is = one.context_is;
    key_is = one.key_is;
    changes = one.changes;
  }

  pub below_changed : (parent child context : ℕ) (key : KeyValue) (v : Given) → IsParentOf ids parent child → given_in plan parent context key ≡ Some v → changed_in plan child context key ≡ true
      → given_in plan child context key ≡ Some v
  below_changed parent child context key v up e changed =
      let is = shares_found plan read parent context key v e in
      elim (changed_cases plan child context key changed) [
        | inl own ↦ absurd (not_within parent context key v e (within_parent plan read parent child context up own.below))
        | inr one ↦
            shares_told plan read shares child context key true one (to_child parent child context key up is.second) (inl (one.changes refl))
            ∙ ap (λ w. Some w) (changing_gives plan read shares parent context key v is true (to_parent parent child context key true up one) (one.changes refl)).value
      ]

  pub below : (parent child context : ℕ) (key : KeyValue) (v : Given) → IsParentOf ids parent child → given_in plan parent context key ≡ Some v → touched_in plan child context key ≡ true
      → ¬ IsStoredIn plan (plan_path plan parent) context key → given_in plan child context key ≡ Some v
  below parent child context key v up e touched none =
      let is = shares_found plan read parent context key v e in
      elim (touched_cases plan child context key touched) [
        | inl own ↦ absurd (not_within parent context key v e (within_parent plan read parent child context up own.below))
        | inr one ↦
            let other = changed_beside plan read shares parent context key v is (λ computed. none (from_above parent context key computed)) in
            let two = to_child parent child context key up other.two in
            shares_told plan read shares child context key false one two (inr other.changes)
            ∙ ap (λ w. Some w) ((both_give plan read shares child context key false one two (inr other.changes)).value ∙ other.value)
      ]
    where
      rest : (path : List ℕ) (x : ℕ) → Contains (drop 1 path) x → Contains path x
      rest [] x there = contains_nothing x there
      rest (first ∷ more) x there = contains_later first x more there

      from_above : (parent context : ℕ) (key : KeyValue) → IsStoredIn plan (drop 1 (plan_path plan parent)) context key → IsStoredIn plan (plan_path plan parent) context key
      from_above parent context key is = record { node = is.node; among = rest (plan_path plan parent) is.node is.among; step = is.step; held = is.held; computes = is.computes; kept = is.kept }

  -- what a node below another concurrent child touches is touched beside the child
  abbrev beside_child : (parent child other context : ℕ) (key : KeyValue) (told : Bool) → IsParentOf ids parent child → IsParentOf ids parent other → child ≢ other → concurrent_of plan child ≡ true → concurrent_of plan other ≡ true
      → IsTouchedBelow plan other context key told → IsTouchedBeside plan child context key
  beside_child parent child other context key told up up' differ concurrent concurrent' one = record {
    touch = one.touch;
    made = one.made;
    beside = record {
      container = parent;
      child = child;
      other = other;
      child_is = up;
      other_is = up';
      below = itself child up.child_within;
      other_below = one.below;
      differ = differ;
      concurrent = concurrent;
      other_concurrent = concurrent';
    };
    context_is = one.context_is;
    key_is = one.key_is;
  }

  pub beside : (parent child other context : ℕ) (key : KeyValue) → IsParentOf ids parent child → IsParentOf ids parent other → child ≢ other → concurrent_of plan child ≡ true → concurrent_of plan other ≡ true
      → changed_in plan child context key ≡ true → touched_in plan other context key ≡ true → (v : Given) × (given_in plan child context key ≡ Some v) × (given_in plan other context key ≡ Some v)
  beside parent child other context key up up' differ concurrent concurrent' changed touched = elim (changed_cases plan child context key changed) [
    | inl own ↦ absurd (siblings plan read parent child other context key up up' differ own.below touched)
    | inr one ↦ elim (touched_cases plan other context key touched) [
      | inl own' ↦ absurd (siblings plan read parent other child context key up' up (λ same. differ (sym same)) own'.below (changed_touched plan child context key changed))
      | inr two ↦
          let second = beside_child parent child other context key false up up' differ concurrent concurrent' two in
          let first = beside_child parent other child context key true up' up (λ same. differ (sym same)) concurrent' concurrent one in (
            touch_gives plan one.touch,
            shares_told plan read shares child context key true one second (inl (one.changes refl)),
            shares_told plan read shares other context key false two first (inr (one.changes refl))
                ∙ ap (λ w. Some w) (sym (both_give plan read shares child context key true one second (inl (one.changes refl))).value),
          )
    ]
  ]

  -- ---- the same for all children

  one_value : (v w : Given) (o : Option Given) → o ≡ Some v → o ≡ Some w → v ≡ w
  one_value v w o e f = let same : Some v ≡ Some w = sym e ∙ f in cc same

  -- where two touches compute one thing if either of them changes the place
  abbrev OneIf : TouchText → TouchText → Type 0
  OneIf t u = EitherChanges t u → touch_gives plan t ≡ touch_gives plan u

  -- Of two pairs of touches each computes one thing. The first ones of both compute one, if the second of the first pair may be compared with the first of the other, and one of the first pair with its second
  by_second : (t u t' u' : TouchText) → EitherChanges t u → EitherChanges t' u' → touch_gives plan t ≡ touch_gives plan u → touch_gives plan t' ≡ touch_gives plan u' → OneIf u t' → OneIf u u' ⊎ OneIf t u' → touch_gives plan t ≡ touch_gives plan t'
  by_second t u t' u' (inr second) either' pair pair' across to = pair ∙ across (inl second)
  by_second t u t' u' (inl first) (inl first') pair pair' across to = pair ∙ across (inr first')
  by_second t u t' u' (inl first) (inr second') pair pair' across (inl both) = pair ∙ (both (inr second') ∙ sym pair')
  by_second t u t' u' (inl first) (inr second') pair pair' across (inr over) = over (inl first) ∙ sym pair'

  -- or if both first ones may be compared, and both second ones
  by_both : (t u t' u' : TouchText) → EitherChanges t u → EitherChanges t' u' → touch_gives plan t ≡ touch_gives plan u → touch_gives plan t' ≡ touch_gives plan u' → OneIf t t' → OneIf u u' → touch_gives plan t ≡ touch_gives plan t'
  by_both t u t' u' (inl first) either' pair pair' firsts seconds = firsts (inl first)
  by_both t u t' u' (inr second) (inl first') pair pair' firsts seconds = firsts (inr first')
  by_both t u t' u' (inr second) (inr second') pair pair' firsts seconds = pair ∙ (seconds (inl second) ∙ sym pair')

  module _ (parent context : ℕ) (key : KeyValue) where
    -- what is below a parent may be compared with what is beside it,
    with_high : (low : ℕ) (one : IsTouchedBelow plan low context key false) → is_within plan parent one.touch.node ≡ true → (node : ℕ) (two : IsTouchedBeside plan node context key) → AreBelow plan parent two.touch.node
        → OneIf one.touch two.touch
    with_high low one below node two high either =
        (give_one plan read shares context key (below_at plan low context key false one) (beside_at plan node context key two) (also_below plan read parent two.touch.node one.touch.node high below) either).value

    turned_if : (t u : TouchText) → OneIf t u → OneIf u t
    turned_if t u one (inl first) = sym (one (inr first))
    turned_if t u one (inr second) = sym (one (inl second))

    -- and what is below two of its concurrent children
    module _ (child other : ℕ) (up : IsParentOf ids parent child) (up' : IsParentOf ids parent other) (differ : child ≢ other) (concurrent : concurrent_of plan child ≡ true) (concurrent' : concurrent_of plan other ≡ true) where
      across : (t u : IsTouchedAt plan context key) → is_within plan child t.touch.node ≡ true → is_within plan other u.touch.node ≡ true → OneIf t.touch u.touch
      across t u below below' either =
          (give_one plan read shares context key t u (record {
            container = parent;
            child = child;
            other = other;
            child_is = up;
            other_is = up';
            below = below;
            other_below = below';
            differ = differ;
            concurrent = concurrent;
            other_concurrent = concurrent';
          }) either).value

    -- a child that shares with what is beside the parent
    module _ (child other : ℕ) (v w : Given) (up : IsParentOf ids parent child) (up' : IsParentOf ids parent other) (one : IsShared plan child context key v) (two : IsShared plan other context key w) where
      abbrev t : TouchText
      t = one.first.touch

      abbrev u : TouchText
      u = one.second.touch

      abbrev t' : TouchText
      t' = two.first.touch

      abbrev u' : TouchText
      u' = two.second.touch

      below_one : is_within plan parent t.node ≡ true
      below_one = within_parent plan read parent child t.node up one.first.below

      below_two : is_within plan parent t'.node ≡ true
      below_two = within_parent plan read parent other t'.node up' two.first.below

      pair : touch_gives plan t ≡ touch_gives plan u
      pair = (both_give plan read shares child context key false one.first one.second one.one).value

      pair' : touch_gives plan t' ≡ touch_gives plan u'
      pair' = (both_give plan read shares other context key false two.first two.second two.one).value

      with_same : touch_gives plan t ≡ touch_gives plan t' → v ≡ w
      with_same same = sym one.gives ∙ (same ∙ two.gives)

      from_high : AreBelow plan parent u.node → v ≡ w
      from_high high =
          let to : OneIf u u' ⊎ OneIf t u' = elim (beside_cases plan read parent other u'.node up' two.second.beside) [
            | inl high' ↦ inr (with_high child one.first below_one other two.second high')
            | inr low ↦
                let below = within_parent plan read parent low.other u'.node low.other_is low.below in
                inl (λ either. (give_one plan read shares context key (beside_at plan child context key one.second) (beside_at plan other context key two.second)
                (turned plan read u'.node u.node (also_below plan read parent u.node u'.node high below)) either).value)
          ] in
          with_same (by_second t u t' u' one.one two.one pair pair' (turned_if t' u (with_high other two.first below_two child one.second high)) to)

      -- both share with what is below another concurrent child of the parent
      from_low : child ≢ other → IsBelowOther plan read parent child u.node → IsBelowOther plan read parent other u'.node → v ≡ w
      from_low differ low low' =
          let first = below_at plan child context key false one.first in
          let first' = below_at plan other context key false two.first in
          let second = beside_at plan child context key one.second in
          let second' = beside_at plan other context key two.second in
          elim (cases_eq low.other low'.other) [
            | inl same ↦
                let apart : other ≢ low.other = λ is. low'.differ (is ∙ same) in
                let also : child ≢ low'.other = λ is. low.differ (is ∙ sym same) in
                with_same (by_second t u t' u' one.one two.one pair pair'
                (across low.other other low.other_is up' (λ is. apart (sym is)) low.other_concurrent low'.concurrent second first' low.below two.first.below)
                (inr (across child low'.other up low'.other_is also low.concurrent low'.other_concurrent first second' one.first.below low'.below)))
            | inr others ↦
                with_same (by_both t u t' u' one.one two.one pair pair' (across child other up up' differ low.concurrent low'.concurrent first first' one.first.below two.first.below)
                (across low.other low'.other low.other_is low'.other_is others low.other_concurrent low'.other_concurrent second second' low.below low'.below))
          ]

  pub same : (parent child other context : ℕ) (key : KeyValue) (v w : Given) → IsParentOf ids parent child → IsParentOf ids parent other
      → given_in plan child context key ≡ Some v → given_in plan other context key ≡ Some w → v ≡ w
  same parent child other context key v w up up' e f =
      let one = shares_found plan read child context key v e in
      let two = shares_found plan read other context key w f in
      elim (beside_cases plan read parent child one.second.touch.node up one.second.beside) [
        | inl high ↦ from_high parent context key child other v w up up' one two high
        | inr low ↦ elim (beside_cases plan read parent other two.second.touch.node up' two.second.beside) [
          | inl high ↦ sym (from_high parent context key other child w v up' up two one high)
          | inr low' ↦ elim (cases_eq child other) [
            | inl is ↦ one_value v w (given_in plan child context key) e (subst (λ n. given_in plan n context key ≡ Some w) (sym is) f)
            | inr differ ↦ from_low parent context key child other v w up up' one two differ low low'
          ]
        ]
      ]
