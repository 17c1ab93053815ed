-- The nodes of a plan without races share values, and keep apart where they share none.
use Rattle.std.proofs.Common.{◌≡◌, Bool, true, false, refl, ap, ◌∙◌, eq-eqb, inl, inr, ◌⊎◌}
use Rattle.std.specs.Prelude.{◌==◌, ◌&&◌, codes, not, if◌then◌else◌}
use Rattle.std.specs.Str.{bytes_eq}
use Rattle.std.specs.Cmp.Lexicographic.{bytes_decides}
use Rattle.std.proofs.lemmas.Bool.{and_from, both_ways, cases_Bool, false_from_ne_true}
use Rattle.ext_plan.specs.Values.{begins_with}
use Rattle.ext_plan.specs.StepWords.{computes, gives_value, leaves_closeable, word_eq}
use Rattle.ext_races.specs.Clashes.{agree, clashes, closes_differ, may_fail}
use Rattle.ext_races.specs.OneReports.{FreeKeepsApart, RaceFreeClosesAgree, RaceFreeSharesValues}
use Rattle.ext_races.specs.Races.{race_of}
use Rattle.ext_races.specs.Touches.{TouchText}
use Rattle.ext_races.proofs.Equalities.{both}

-- two touches of one place clash, where the first may change it and they don't agree
clash : (t u : TouchText) → t.changes ≡ true → t.context ≡ u.context → t.key ≡ u.key → agree t u ≡ false → clashes t u ≡ true
clash t u changing at named none =
    let meets = and_from t.changes (t.context == u.context) changing (eq-eqb t.context u.context at) in
    let differ : (if t.key == u.key then not (agree t u) else closes_differ t u) ≡ true =
    ap (λ (b : Bool). if b then not (agree t u) else closes_differ t u) (eq-eqb t.key u.key named) ∙ ap not none in
    and_from (t.changes && (t.context == u.context)) (if t.key == u.key then not (agree t u) else closes_differ t u) meets differ

pub race_free_shares_values : RaceFreeSharesValues
race_free_shares_values plan free = record {
  alike = λ first second one two beside changing at named. elim (cases_Bool (agree first second)) [
    | inl alike ↦ alike
    | inr other ↦ absurd (free (race_of first second) (record {
      first = first;
      second = second;
      first_made = one;
      second_made = two;
      beside = beside;
      clash = clash first second changing at named other;
      is = refl;
    }))
  ];
}

pub free_keeps_apart : FreeKeepsApart
free_keeps_apart plan free none = record {
  apart = λ first second one two beside changing at named.
      let agrees = (race_free_shares_values plan free).alike first second one two beside changing at named in (
        agrees,
        elim (cases_Bool second.changes) [
          | inl both_change ↦ ap (λ b. b && second.changes) (none.none first second one two beside changing both_change at named agrees)
          | inr looks ↦ ap (λ b. gives_value first.word && b) looks ∙ never (gives_value first.word)
        ],
      );
}
  where
    never : (b : Bool) → (b && false) ≡ false
    never true = refl
    never false = refl

-- closes that may fail with two texts clash under two keys, and touches under one key that agree have one text
pub race_free_closes_agree : RaceFreeClosesAgree
race_free_closes_agree plan free = record {
  one = λ first second one two beside fails fails_too at.
      let changing = (both first.changes (leaves_closeable first.word) (both (first.changes && leaves_closeable first.word) (begins_with (codes "bad") first.text) fails).0).0 in
      elim (cases_Bool (bytes_eq first.text second.text)) [
        | inl same ↦ (bytes_decides first.text second.text).0 same
        | inr other ↦ absurd (free (race_of first second) (record {
          first = first;
          second = second;
          first_made = one;
          second_made = two;
          beside = beside;
          clash = clash_of first second changing at fails fails_too other;
          is = refl;
        }))
      ];
}
  where
    clash_of : (t u : TouchText) → t.changes ≡ true → t.context ≡ u.context → may_fail t ≡ true → may_fail u ≡ true → bytes_eq t.text u.text ≡ false → clashes t u ≡ true
    clash_of t u changing at fails fails_too other =
        let meets = and_from t.changes (t.context == u.context) changing (eq-eqb t.context u.context at) in
        and_from (t.changes && (t.context == u.context)) (if t.key == u.key then not (agree t u) else closes_differ t u) meets (differ (cases_Bool (t.key == u.key)))
      where
        closes : closes_differ t u ≡ true
        closes = and_from (may_fail t && may_fail u) (not (bytes_eq t.text u.text)) (and_from (may_fail t) (may_fail u) fails fails_too) (ap not other)

        no_agree : agree t u ≡ false
        no_agree = false_from_ne_true (agree t u) (λ agrees. both_ways (bytes_eq t.text u.text) other (both (computes t.acts && word_eq t.acts u.acts) (bytes_eq t.text u.text) agrees).1)

        differ : (t.key == u.key ≡ true) ⊎ (t.key == u.key ≡ false) → (if t.key == u.key then not (agree t u) else closes_differ t u) ≡ true
        differ (inl named) = ap (λ (b : Bool). if b then not (agree t u) else closes_differ t u) named ∙ ap not no_agree
        differ (inr others) = ap (λ (b : Bool). if b then not (agree t u) else closes_differ t u) others ∙ closes
