-- The test for nodes that may run beside one another tells just those.
use Rattle.std.proofs.Common.{◌≡◌, ◌≢◌, ℕ, ◌<◌, Bool, true, List, [], ◌∷◌, length, refl, sym, ap, subst, ◌∙◌, arith, inl, inr}
use Rattle.std.specs.Prelude.{◌==◌, ◌&&◌, not, nat_lt}
use Rattle.std.specs.List.{list_any}
use Rattle.std.proofs.lemmas.Bool.{cases_Bool, true≢false}
use Rattle.std.proofs.lemmas.Bool.Decides.{Decides-eqb}
use Rattle.ext_plan.specs.Plans.{PlanText}
use Rattle.ext_plan.specs.PlanCalls.{concurrent_of}
use Rattle.ext_races.specs.Beside.{AreBeside, IsBeside, PassesBy, are_beside, comes_by_other, nodes_beside, turns}
use Rattle.ext_races.specs.MadeSteps.{plan_path}
use Rattle.ext_races.proofs.Equalities.{both, both_true, equal}

-- ---- a test at a turn of a path

module _ (p : ℕ × ℕ → Bool) where
  turn_found : (path : List ℕ) → list_any p (turns path) ≡ true → (child : ℕ) × (container : ℕ) × PassesBy path child container × (p (child, container) ≡ true)
  turn_found [] h = absurd cc
  turn_found (first ∷ []) h = absurd cc
  turn_found (first ∷ next ∷ above) h = elim (cases_Bool (p (first, next))) [
    | inl here ↦ (first, next, inl (refl, refl), here)
    | inr not_here ↦ let rest = turn_found (next ∷ above) (rw not_here at h) in (rest.0, rest.1, inr rest.2, rest.3)
  ]

  pub turn_tested : (path : List ℕ) (child container : ℕ) → PassesBy path child container → p (child, container) ≡ true → list_any p (turns path) ≡ true
  turn_tested [] child container by h = absurd by
  turn_tested (first ∷ []) child container by h = absurd by
  turn_tested (first ∷ next ∷ above) child container (inl (one, two)) h = rw (ap (λ a. p (a, next)) one ∙ ap (λ b. p (child, b)) two ∙ h) refl
  turn_tested (first ∷ next ∷ above) child container (inr later) h = elim (cases_Bool (p (first, next))) [
    | inl here ↦ rw here refl
    | inr not_here ↦ rw not_here (turn_tested (next ∷ above) child container later h)
  ]

-- ---- beside

not_equal : (a b : ℕ) → not (a == b) ≡ true → b ≢ a
not_equal a b h = λ same. true≢false (sym h ∙ ap not ((Decides-eqb a b).1 (sym same)))

is_other : (a b : ℕ) → b ≢ a → not (a == b) ≡ true
is_other a b differ = elim (cases_Bool (a == b)) [
  | inl same ↦ absurd (differ (sym (equal a b same)))
  | inr other ↦ ap not other
]

module _ (plan : PlanText) where
  beside_found : (path other : List ℕ) → are_beside plan path other ≡ true → AreBeside plan path other
  beside_found path other h =
      let one = turn_found (λ turn. concurrent_of plan turn.0 && comes_by_other plan turn.0 turn.1 other) path h in
      let parts = both (concurrent_of plan one.0) (comes_by_other plan one.0 one.1 other) one.3 in
      let two = turn_found (λ turn. (turn.1 == one.1) && not (turn.0 == one.0) && concurrent_of plan turn.0) other parts.1 in
      let rest = both _ _ two.3 in
      let more = both _ _ rest.0 in
      record {
        container = one.1;
        child = one.0;
        other = two.0;
        below = one.2;
        other_below = subst (λ c. PassesBy other two.0 c) (equal two.1 one.1 more.0) two.2;
        differ = not_equal two.0 one.0 more.1;
        concurrent = parts.0;
        other_concurrent = rest.1;
      }

  beside_tested : (path other : List ℕ) → AreBeside plan path other → are_beside plan path other ≡ true
  beside_tested path other are =
      turn_tested (λ turn. concurrent_of plan turn.0 && comes_by_other plan turn.0 turn.1 other) path are.child are.container are.below
      (both_true _ _ are.concurrent
      (turn_tested (λ turn. (turn.1 == are.container) && not (turn.0 == are.child) && concurrent_of plan turn.0) other are.other are.container are.other_below
      (both_true _ _ (both_true _ _ ((Decides-eqb are.container are.container).1 refl) (is_other are.other are.child are.differ)) are.other_concurrent)))

  pub nodes_found : (first second : ℕ) → nodes_beside plan first second ≡ true → IsBeside plan first second
  nodes_found first second h = beside_found (plan_path plan first) (plan_path plan second) (both _ _ h).1

  pub nodes_tested : (first second : ℕ) → first < length plan.nodes → second < length plan.nodes → IsBeside plan first second → nodes_beside plan first second ≡ true
  nodes_tested first second one two are =
      both_true _ _ (both_true _ _ (let e : nat_lt first (length plan.nodes) ≡ true = grind (arith, one) in e) (let e : nat_lt second (length plan.nodes) ≡ true = grind (arith, two) in e))
      (beside_tested (plan_path plan first) (plan_path plan second) are)
