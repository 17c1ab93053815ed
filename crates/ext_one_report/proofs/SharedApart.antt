-- Which values the nodes of a plan share, of all that they compute beside one another; and nodes that keep apart share none.
use Rattle.std.proofs.Common.{◌≡◌, ℕ, Bool, true, false, true≢false, List, Option, Some, None, refl, ap, sym, ◌∙◌, inl, inr}
use Rattle.std.specs.Prelude.{Contains, ◌&&◌, find, if◌then◌else◌}
use Rattle.std.specs.List.{list_any}
use Rattle.std.proofs.lemmas.Bool.{and_from, and_parts, false_from_ne_true}
use Rattle.std.proofs.lemmas.List.Folds.{Any-from_list_any, list_any-from_Any}
use Rattle.ext_tree.specs.Keys.{KeyValue}
use Rattle.ext_plan.specs.Plans.{PlanText}
use Rattle.ext_plan.specs.ReadPlans.{IsReadPlan}
use Rattle.ext_plan.specs.StepWords.{gives_value, leaves_closeable}
use Rattle.ext_plan.specs.Values.{ValueText}
use Rattle.ext_plan.specs.declared.word.Word.{Word}
use Rattle.ext_races.specs.Touches.{TouchText, touches_made}
use Rattle.ext_one_report.specs.Shares.{is_at, is_beside_at, is_shared_at, shares_in, value_given, value_if}
use Rattle.ext_one_report.proofs.CoveredPlans.{IsTouchedBelow}
use Rattle.ext_one_report.proofs.Open.{given_by, of_fault, of_nothing, of_value}
use Rattle.ext_one_report.proofs.SharedPlansWords.{ApartSharesNothing, ApartSharesValues, ValuesAreAbove}
use Rattle.ext_one_report.proofs.SharedBeside.{also_below, are_beside}
use Rattle.ext_one_report.proofs.SharedFound.{IsTouchedBeside, above_near, below_found, below_told, beside_found, beside_told, changed_below, changed_or_above, changing_gives, find_is, find_some, own_word, shares_found}

-- ---- values

-- a factory that gives a value does so by its word
gives_by : (keep : Bool) (word : Word) (text : List ℕ) (v : ValueText) → given_by keep word text ≡ of_value v → gives_value word ≡ true
gives_by keep word text v e = by (gives_value word) keep refl e
  where
    by : (gives kept : Bool) → gives_value word ≡ gives → (if gives then of_value (record { text = text; closeable = leaves_closeable word }) else if kept then of_fault text else of_nothing text) ≡ of_value v → gives_value word ≡ true
    by true kept is e = is
    by false true is e = absurd (cc e)
    by false false is e = absurd (cc e)

value_some : (o : Option TouchText) (t : TouchText) → o ≡ Some t → gives_value t.acts ≡ true → value_if o ≡ Some (value_given t)
value_some o t is gives = ap value_if is ∙ ap (λ (b : Bool). if b then Some (value_given t) else None) gives

module _ (plan : PlanText) (read : IsReadPlan plan) (node context : ℕ) (key : KeyValue) where
  abbrev beside_changes : TouchText → Bool
  beside_changes u = u.changes && is_beside_at plan node context key u

  -- two touches that change the place, one of a node beside it
  shared_told : (one : IsTouchedBelow plan node context key true) (two : IsTouchedBeside plan node context key) → two.touch.changes ≡ true → is_shared_at plan node context key one.touch ≡ true
  shared_told one two changes =
      let less = above_near plan read node one.touch one.made one.below in
      and_from (one.touch.changes && is_at plan node context key one.touch) (list_any beside_changes (touches_made plan))
      (and_from one.touch.changes (is_at plan node context key one.touch) (one.changes refl) (below_told plan read node context key true one))
      (list_any-from_Any beside_changes (touches_made plan)
      (two.made.0, two.touch, two.made.1, two.made.2, and_from two.touch.changes (is_beside_at plan node context key two.touch) changes (beside_told plan read node context key two less)))

  -- and back
  pub record IsSharedBy (t : TouchText) : Type 0 where
    pub one : IsTouchedBelow plan node context key true
    pub one_is : one.touch ≡ t
    pub two : IsTouchedBeside plan node context key
    pub changes : two.touch.changes ≡ true

  shared_found : (t : TouchText) → Contains (touches_made plan) t → is_shared_at plan node context key t ≡ true → IsSharedBy t
  unfolding below_found beside_found
  shared_found t made is =
      let parts = and_parts (t.changes && is_at plan node context key t) (list_any beside_changes (touches_made plan)) is in
      let own = and_parts t.changes (is_at plan node context key t) parts.0 in
      let first = below_found plan read node context key t made own.1 in
      let some = Any-from_list_any beside_changes (touches_made plan) parts.1 in
      let other = and_parts some.1.changes (is_beside_at plan node context key some.1) some.4 in
      record {
        one = record { touch = t; made = made; below = first.below; context_is = first.context_is; key_is = first.key_is; changes = λ told. own.0 };
        one_is = refl;
        two = beside_found plan read node context key some.1 (some.0, some.2, some.3) (above_near plan read node t made first.below) other.1;
        changes = other.0;
      }

-- ---- what is shared with no value of its own

-- where two nodes beside one another compute a value, it is told
pub values_are_above : ValuesAreAbove
unfolding shares_in
values_are_above plan read shares node nothing context key v e =
    let is = shares_found plan read node context key (of_value v) e in
    elim (changed_below plan read shares node context key (of_value v) is) [
      | inr above ↦ above
      | inl one ↦ elim (changed_or_above plan read shares node context key (of_value v) is) [
        | inr above ↦ above
        | inl other ↦
            let p = is_shared_at plan node context key in
            let told : list_any p (touches_made plan) ≡ true =
            list_any-from_Any p (touches_made plan) (one.made.0, one.touch, one.made.1, one.made.2, shared_told plan read node context key one other.two other.changes) in
            let first = find_some p (touches_made plan) told in
            let there = find_is p (touches_made plan) first.0 first.1 in
            let its = shared_found plan read node context key first.0 there.0 there.1 in
            let gives = changing_gives plan read shares node context key (of_value v) is true its.one (its.one.changes refl) in
            let value : gives_value its.one.touch.acts ≡ true = gives_by plan.keep_faults its.one.touch.acts its.one.touch.text v gives.value in
            let some : Some (value_given first.0) ≡ None = sym (value_some (find p (touches_made plan)) first.0 first.1 (ap (λ (t : TouchText). gives_value t.acts) (sym its.one_is) ∙ value)) ∙ nothing context key in
            absurd (cc some)
      ]
    ]

-- ---- nodes that keep apart

pub apart_shares_values : ApartSharesValues
apart_shares_values plan apart = record { alike = λ first second one two beside changing at named. (apart.apart first second one two beside changing at named).0 }

-- Where a node at or below this one may change a place, and a node beside it, both have a factory that fails
pub apart_shares_nothing : ApartSharesNothing
unfolding shares_in
apart_shares_nothing plan read apart node context key = by (find p (touches_made plan)) refl
  where
    p : TouchText → Bool
    p = is_shared_at plan node context key

    by : (o : Option TouchText) → find p (touches_made plan) ≡ o → value_if o ≡ None
    by None is = refl
    by (Some t) is =
        let there = find_is p (touches_made plan) t is in
        let its = shared_found plan read node context key t there.0 there.1 in
        let one = its.one in
        let two = its.two in
        let below = also_below plan read node two.touch.node one.touch.node two.beside one.below in
        let fail = (apart.apart one.touch two.touch one.made two.made (are_beside plan read one.touch.node two.touch.node below) (one.changes refl) (one.context_is ∙ sym two.context_is) (one.key_is ∙ sym two.key_is)).1 in
        let none : gives_value t.acts ≡ false = false_from_ne_true (gives_value t.acts) (λ gives.
        let word : gives_value one.touch.word ≡ true = ap gives_value (sym (own_word plan read one.touch one.made (one.changes refl)) ∙ ap (λ (u : TouchText). u.acts) its.one_is) ∙ gives in
        true≢false (sym (and_from (gives_value one.touch.word) two.touch.changes word its.changes) ∙ fail)) in
        ap (λ (b : Bool). if b then Some (value_given t) else None) none
