-- Each result of a run is of a node of the tree.
use Rattle.std.proofs.Common.{◌≡◌, ℕ, suc, zero, ◌+◌, ◌<◌, List, [], ◌∷◌, All, length, map, arith, subst, sym, ◌∙◌}
use Rattle.std.specs.Prelude.{slice_set}
use Rattle.std.specs.List.{range_with_len}
use Rattle.std.proofs.lemmas.List.{length-map, length-set}
use Rattle.std.proofs.lemmas.List.FromFn.{length-range_with_len}
use Rattle.std.proofs.lemmas.List.Elements.{All-cons, All-head, All-map, All-nil, All-tail}
use Rattle.ext_model.specs.declared.look.Fault.{Fault}
use Rattle.ext_lifecycle.specs.declared.node_result.NodeResult.{NodeResult}
use Rattle.ext_lifecycle.specs.Results.{ResultOf, skipped_result, as_result}
use Rattle.ext_engine.specs.Suites.{SuiteView}
use Rattle.ext_engine.specs.TreeRun.{Ran, all_results, all_skipped, with_results}

set_within : {X : Type 0} (P : X → Type 0) (xs : List X) (i : ℕ) (x : X) → (i < length xs → P x) → All P xs → All P (slice_set xs i x)
set_within P [] i x own all = all
set_within P (y ∷ xs) zero x own all = All-cons P x xs (own (omega arith)) (All-tail P y xs all)
set_within P (y ∷ xs) (suc i) x own all = All-cons P y (slice_set xs i x) (All-head P y xs all) (set_within P xs i x (λ less. own (omega (arith, less))) (All-tail P y xs all))

range_within : (from count limit : ℕ) → from + count < limit + 1 → All (λ k. k < limit) (range_with_len from count)
range_within from zero limit less = All-nil (λ k. k < limit)
range_within from (suc count) limit less = All-cons (λ k. k < limit) from (range_with_len (from + 1) count) (omega (arith, less)) (range_within (from + 1) count limit (omega (arith, less)))

put_within : (count : ℕ) (results : List (ResultOf Fault)) (ran : List Ran) → length results ≡ count → All (λ r. r.node < count) results → All (λ r. r.node < count) (with_results results ran)
put_within count results [] long all = all
put_within count results (r ∷ ran) long all =
    put_within count (slice_set results r.result.node r.result) ran (length-set results r.result.node r.result ∙ long)
    (set_within (λ x. x.node < count) results r.result.node r.result (λ less. omega (arith, less, long)) all)

told_within : (count : ℕ) (results : List NodeResult) → All (λ r. r.node < count) (map as_result results) → All (λ r. r.node < count) results
told_within count [] all = All-nil (λ r. r.node < count)
told_within count (r ∷ results) all =
    All-cons (λ x. x.node < count) r results (All-head (λ x. x.node < count) (as_result r) (map as_result results) all) (told_within count results (All-tail (λ x. x.node < count) (as_result r) (map as_result results) all))

-- the results of a run, as they lie in memory
pub results_within : (suite : SuiteView) (count : ℕ) (ran : List Ran) (results : List NodeResult) → map as_result results ≡ all_results suite count ran → All (λ r. r.node < count) results
results_within suite count ran results are =
    let nodes = range_with_len 0 count in
    let long : length (all_skipped suite count) ≡ count = length-map nodes (λ node. skipped_result node (suite.is_test node)) ∙ length-range_with_len 0 count in
    let first : All (λ r. r.node < count) (all_skipped suite count) = All-map (λ r. r.node < count) (λ node. skipped_result node (suite.is_test node)) nodes (range_within 0 count count (omega arith)) in
    told_within count results (subst (All (λ r. r.node < count)) (sym are) (put_within count (all_skipped suite count) ran long first))
