-- The worked plan whose nodes share a value.
use Rattle.std.proofs.Common.{◌≡◌, ℕ, Bool, true, false, not, ◌&&◌, ◌||◌, ◌==◌, List, [], ◌∷◌, map, Contains, refl, ap, sym, subst, ◌∙◌, eq-eqb}
use Rattle.std.specs.List.{list_all}
use Rattle.std.proofs.lemmas.Bool.{and_from, and_parts, eqb-true, true≢false}
use Rattle.std.specs.Cmp.Lexicographic.{bytes_decides}
use Rattle.std.specs.Str.{bytes_eq}
use Rattle.ext_plan.specs.Plans.{PlanText, keyed}
use Rattle.ext_plan.specs.declared.word.Word.TheVariants as words
use Rattle.ext_races.specs.declared.race.Race.{Race}
use Rattle.ext_races.specs.Beside.{nodes_beside}
use Rattle.ext_races.specs.Races.{IsRace}
use Rattle.ext_races.specs.MadeSteps.{path_from}
use Rattle.ext_races.specs.Touches.{TouchText, text_if, touches_made}
use Rattle.ext_plan.specs.StepWords.{computes, word_eq}
use Rattle.ext_one_report.specs.WorkedPlans.{a, computing, computing_above, computing_each, ClassSharesNone, ComputesShareValues, FirstShares, LooksAfterDoNot, LooksBehindShareValues, LooksBelowShareValues, RemovedDoNot, RemovedElsewhereShareValues, SecondShares, two_tests}
use Rattle.ext_one_report.proofs.WorkedPlans.{computes_are_no_race, meet, no_pair, no_race, none_such, passes, same_text}
use Rattle.ext_one_report.specs.Shares.{shares_in}
use Rattle.ext_races.specs.OneReports.{SharesValues}
use Rattle.ext_races.proofs.Free.{race_free_shares_values}
use Rattle.ext_races.proofs.Equalities.{word_is}
use Rattle.ext_races.proofs.Lists.{contains-map_back}
use Rattle.ext_races.proofs.Sides.{nodes_found, nodes_tested}
use Rattle.ext_races.proofs.TouchNodes.{touch_within}

pub computes_share_values : ComputesShareValues
computes_share_values text = race_free_shares_values (computing text) (computes_are_no_race text)

-- ---- look-ups behind a compute of a callback before

abbrev behind : List ℕ → List ℕ → PlanText
behind text wanted = computing_each text (keyed words.Want a wanted 0 ∷ []) []

behind_no_race : (text wanted : List ℕ) (race : Race) → ¬ IsRace (behind text wanted) race
unfolding path_from
behind_no_race text wanted race = no_race (behind text wanted) race (rw (same_text text) refl)

pub looks_behind_share_values : LooksBehindShareValues
looks_behind_share_values text wanted = race_free_shares_values (behind text wanted) (behind_no_race text wanted)

-- the touches are of one place that the first may change, by nodes that may run beside one another, and do not both count as the same compute
abbrev unlike : PlanText → TouchText → TouchText → Bool
unlike plan t u = meet plan t u && not (computes t.acts && word_eq t.acts u.acts)

all_like : (plan : PlanText) → SharesValues plan → no_pair plan (unlike plan) ≡ true
all_like plan shares = none_such plan (unlike plan) (λ t u one two such.
    let parts = and_parts (meet plan t u) (not (computes t.acts && word_eq t.acts u.acts)) such in
    let key = and_parts (nodes_beside plan t.node u.node && t.changes && (t.context == u.context)) (t.key == u.key) parts.0 in
    let context = and_parts (nodes_beside plan t.node u.node && t.changes) (t.context == u.context) key.0 in
    let changing = and_parts (nodes_beside plan t.node u.node) t.changes context.0 in
    let alike = shares.alike t u one two (nodes_found plan t.node u.node changing.0) changing.1 (eqb-true t.context u.context context.1) (eqb-true t.key u.key key.1) in
    true≢false (sym parts.1 ∙ ap not (and_parts (computes t.acts && word_eq t.acts u.acts) (bytes_eq t.text u.text) alike).0))

after_unlike : (text wanted : List ℕ) → no_pair (computing_each text [] (keyed words.Want a wanted 0 ∷ [])) (unlike (computing_each text [] (keyed words.Want a wanted 0 ∷ []))) ≡ false
unfolding path_from
after_unlike text wanted = refl

pub looks_after_do_not : LooksAfterDoNot
looks_after_do_not text wanted shares = true≢false (sym (all_like (computing_each text [] (keyed words.Want a wanted 0 ∷ [])) shares) ∙ after_unlike text wanted)

-- ---- plans in which all compute one text

-- the touch with this text, if it counts as a compute
abbrev with_text : List ℕ → TouchText → TouchText
with_text text t = record t { text = text_if (computes t.acts) text }

-- where the first may change the place that the second touches, beside it, both count as the same compute
abbrev fit : PlanText → TouchText → TouchText → Bool
fit plan t u = not (meet plan t u) || (computes t.acts && word_eq t.acts u.acts)

module _ (plan : PlanText) (text : List ℕ) (same : touches_made plan ≡ map (with_text text) (touches_made plan)) where
  text_is : (t : TouchText) → Contains (touches_made plan) t → computes t.acts ≡ true → t.text ≡ text
  text_is t made counts =
      let one = contains-map_back (with_text text) (touches_made plan) t (subst (λ ts. Contains ts t) same made) in
      sym (ap (λ u. u.text) one.2) ∙ ap (λ b. text_if b text) (ap (λ u. computes u.acts) one.2 ∙ counts)

  all_fit : list_all (λ t. list_all (fit plan t) (touches_made plan)) (touches_made plan) ≡ true → SharesValues plan
  all_fit all = record {
    alike = λ t u one two beside changing at named.
        let fits = passes (fit plan t) (touches_made plan) u (passes (λ t. list_all (fit plan t) (touches_made plan)) (touches_made plan) t all one) two in
        let near = nodes_tested plan t.node u.node (touch_within plan t one) (touch_within plan u two) beside in
        let they_meet : meet plan t u ≡ true = and_from (nodes_beside plan t.node u.node && t.changes && (t.context == u.context)) (t.key == u.key)
        (and_from (nodes_beside plan t.node u.node && t.changes) (t.context == u.context) (and_from (nodes_beside plan t.node u.node) t.changes near changing) (eq-eqb t.context u.context at)) (eq-eqb t.key u.key named) in
        let both : (computes t.acts && word_eq t.acts u.acts) ≡ true = ap (λ (b : Bool). not b || (computes t.acts && word_eq t.acts u.acts)) (sym they_meet) ∙ fits in
        let word = and_parts (computes t.acts) (word_eq t.acts u.acts) both in
        let other = ap computes (sym (word_is t.acts u.acts word.1)) ∙ word.0 in
        and_from (computes t.acts && word_eq t.acts u.acts) (bytes_eq t.text u.text) both ((bytes_decides t.text u.text).1 (text_is t one word.0 ∙ sym (text_is u two other)));
  }

-- ---- look-ups below computes of callbacks before all children

abbrev below : List ℕ → List ℕ → PlanText
below text wanted = computing_above text (keyed words.Want a wanted 0 ∷ [])

below_same : (text wanted : List ℕ) → touches_made (below text wanted) ≡ map (with_text text) (touches_made (below text wanted))
unfolding path_from
below_same text wanted = refl

below_fit : (text wanted : List ℕ) → list_all (λ t. list_all (fit (below text wanted) t) (touches_made (below text wanted))) (touches_made (below text wanted)) ≡ true
unfolding path_from
below_fit text wanted = refl

pub looks_below_share_values : LooksBelowShareValues
looks_below_share_values text wanted = all_fit (below text wanted) text (below_same text wanted) (below_fit text wanted)

abbrev removing_own : List ℕ → List ℕ → PlanText
removing_own text wanted = computing_above text (keyed words.Want a wanted 0 ∷ keyed words.Remove a [] 0 ∷ [])

own_same : (text wanted : List ℕ) → touches_made (removing_own text wanted) ≡ map (with_text text) (touches_made (removing_own text wanted))
unfolding path_from
own_same text wanted = refl

own_fit : (text wanted : List ℕ) → list_all (λ t. list_all (fit (removing_own text wanted) t) (touches_made (removing_own text wanted))) (touches_made (removing_own text wanted)) ≡ true
unfolding path_from
own_fit text wanted = refl

pub removed_elsewhere_share_values : RemovedElsewhereShareValues
removed_elsewhere_share_values text wanted = all_fit (removing_own text wanted) text (own_same text wanted) (own_fit text wanted)

abbrev removing : List ℕ → List ℕ → PlanText
removing text wanted = two_tests (keyed words.Compute a text 0 ∷ keyed words.Remove a [] 0 ∷ []) (keyed words.Compute a text 1 ∷ []) (keyed words.Want a wanted 0 ∷ [])

removed_unlike : (text wanted : List ℕ) → no_pair (removing text wanted) (unlike (removing text wanted)) ≡ false
unfolding path_from
removed_unlike text wanted = refl

pub removed_do_not : RemovedDoNot
removed_do_not text wanted shares = true≢false (sym (all_like (removing text wanted) shares) ∙ removed_unlike text wanted)

-- ---- who shares

pub first_shares : FirstShares
unfolding path_from shares_in
first_shares text = refl

pub second_shares : SecondShares
unfolding path_from shares_in
second_shares text = refl

pub class_shares_none : ClassSharesNone
unfolding path_from shares_in
class_shares_none text = refl
