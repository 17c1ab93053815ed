-- The results of a run on several lanes and of a plain run, place by place.
use Rattle.std.proofs.Common.{◌≡◌, inl, inr, ◌⊎◌, ℕ, zero, suc, ◌+◌, ◌<◌, ◌≢◌, true, List, [], ◌∷◌, length, Some, Contains, refl, ap, sym, subst, ◌∙◌, arith}
use Rattle.std.specs.Prelude.{is_some, slice_get}
use Rattle.std.proofs.lemmas.Bool.{cases_order}
use Rattle.std.proofs.lemmas.List.{length-map}
use Rattle.std.proofs.lemmas.List.FromFn.{length-range_with_len}
use Rattle.ext_history.proofs.Lists.{contains_cons, contains_here, contains_later, contains_none}
use Rattle.ext_model.specs.declared.look.Fault.{Fault}
use Rattle.ext_lifecycle.specs.Results.{ResultOf, skipped_result}
use Rattle.ext_plan.specs.Plans.{NodeText}
use Rattle.ext_plan.specs.PlanCalls.{test_in}
use Rattle.ext_engine.specs.RunLaws.{IsOneEach}
use Rattle.ext_engine.specs.Suites.{SuiteView}
use Rattle.ext_engine.specs.TreeRun.{Ran}
use Rattle.ext_plan_plain.specs.PlainRun.{skipped_from}

-- lists of one length that have the same at each place are one
pub same_by_places : {X : Type 0} → (xs ys : List X) → length xs ≡ length ys → ((k : ℕ) → k < length xs → slice_get xs k ≡ slice_get ys k) → xs ≡ ys
same_by_places [] [] count same = refl
same_by_places [] (y ∷ ys) count same = absurd (omega (arith, count))
same_by_places (x ∷ xs) [] count same = absurd (omega (arith, count))
same_by_places {X} (x ∷ xs) (y ∷ ys) count same =
    let first : Some x ≡ Some y = same zero (omega arith) in
    let one : x ≡ y = cc first in
    let rest : xs ≡ ys = same_by_places xs ys (omega (arith, count)) (λ k within. same (suc k) (omega (arith, within))) in
    ap (λ (z : X). z ∷ xs) one ∙ ap (λ zs. y ∷ zs) rest

-- a number stands in a list, or not
pub stands_or_not : (xs : List ℕ) (k : ℕ) → Contains xs k ⊎ (¬ Contains xs k)
stands_or_not [] k = inr (contains_none k)
stands_or_not (x ∷ xs) k = by_first (cases_order x k) (stands_or_not xs k)
  where
    by_rest : (x ≢ k) → Contains xs k ⊎ (¬ Contains xs k) → Contains (x ∷ xs) k ⊎ (¬ Contains (x ∷ xs) k)
    by_rest other (inl later) = inl (contains_later x xs k later)
    by_rest other (inr none) = inr (λ there. elim (contains_cons x xs k there) [ inl here ↦ other here | inr later ↦ none later ])

    by_first : (x ≡ k) ⊎ ((x < k) ⊎ (k < x)) → Contains xs k ⊎ (¬ Contains xs k) → Contains (x ∷ xs) k ⊎ (¬ Contains (x ∷ xs) k)
    by_first (inl same) rest = inl (subst (λ y. Contains (x ∷ xs) y) same (contains_here x xs))
    by_first (inr (inl less)) rest = by_rest (λ same. omega (arith, less, same)) rest
    by_first (inr (inr more)) rest = by_rest (λ same. omega (arith, more, same)) rest

-- the node of a plan that did not run
pub skipped_at : (nodes : List NodeText) (from k : ℕ) → k < length nodes → slice_get (skipped_from from nodes) k ≡ Some (skipped_result (from + k) (is_some (test_in (slice_get nodes k))))
skipped_at [] from k within = absurd (omega (arith, within))
skipped_at (node ∷ nodes) from zero within = ap (λ n. Some (skipped_result n (is_some node.test))) (omega arith)
skipped_at (node ∷ nodes) from (suc k) within =
    skipped_at nodes (from + 1) k (omega (arith, within)) ∙ ap (λ n. Some (skipped_result n (is_some (test_in (slice_get nodes k))))) (omega arith)

pub length_skipped : (from : ℕ) (nodes : List NodeText) → length (skipped_from from nodes) ≡ length nodes
length_skipped from [] = refl
length_skipped from (node ∷ nodes) = ap suc (length_skipped (from + 1) nodes)

-- there are as many results as there were before the run
pub length_results : (nodes : List NodeText) (suite : SuiteView) (ran : List Ran) (results : List (ResultOf Fault)) → IsOneEach suite (λ node answer. answer ≡ true) (length nodes) ran results → length results ≡ length (skipped_from 0 nodes)
length_results nodes suite ran results one = sym (length-map results (λ r. r.node)) ∙ ap length one.nodes ∙ length-range_with_len 0 (length nodes) ∙ sym (length_skipped 0 nodes)
