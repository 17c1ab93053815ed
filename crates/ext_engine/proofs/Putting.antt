-- Results put at the indices of their nodes.
use Rattle.std.proofs.Common.{◌≡◌, ℕ, ◌+◌, ◌<◌, List, [], ◌∷◌, ◌++◌, length, map, ap, ◌∙◌, sym, subst, arith}
use Rattle.std.specs.Prelude.{All, slice_set}
use Rattle.std.proofs.lemmas.List.{map_push, map-set, length-set}
use Rattle.std.proofs.lemmas.List.FromFn.{map-range_with_len_more}
use Rattle.std.proofs.lemmas.List.Elements.{All-head, All-tail}
use Rattle.ext_model.specs.declared.look.Fault.{Fault}
use Rattle.ext_lifecycle.specs.declared.node_result.NodeResult.{NodeResult}
use Rattle.ext_lifecycle.specs.Results.{ResultOf, as_result, skipped_result}
use Rattle.ext_engine.specs.declared.node.results.RanNode.{RanNode}
use Rattle.ext_engine.specs.InnerResults.{ran_view}
use Rattle.ext_engine.specs.Suites.{SuiteView}
use Rattle.ext_engine.specs.NodeRun.{with_results, all_skipped}

-- ---- skipped nodes

-- one more node is skipped
pub skipped-more : (suite : SuiteView) (node : ℕ) (results next : List NodeResult) (result : NodeResult)
    → map as_result results ≡ all_skipped suite node → as_result result ≡ skipped_result node (suite.is_test node) → next ≡ results ++ result ∷ [] → map as_result next ≡ all_skipped suite (node + 1)
skipped-more suite node results next result so_far is pushed =
    ap (map as_result) pushed ∙ (map_push as_result results result ∙ (ap (λ l. l ++ as_result result ∷ []) so_far ∙ (ap (λ r. all_skipped suite node ++ r ∷ []) is
    ∙ sym (map-range_with_len_more (λ n. skipped_result {F = Fault} n (suite.is_test n)) 0 node node (omega arith)))))

-- ---- results put among the others

-- what is still to be put has an index, and put into what there is it gives all
pub record IsPutting (all : List (ResultOf Fault)) (results : List NodeResult) (rest : List RanNode) : Type 0 where
  pub within : All (λ r. r.result.node < length results) rest
  pub with_are : with_results (map as_result results) (map ran_view rest) ≡ all

module _ (all : List (ResultOf Fault)) (results : List NodeResult) (rest more : List RanNode) (ran : RanNode) (is : rest ≡ ran ∷ more) (putting : IsPutting all results rest) where
  within : All (λ r. r.result.node < length results) (ran ∷ more)
  within = subst (λ l. All (λ (r : RanNode). r.result.node < length results) l) is putting.within

  pub has-index : ran.result.node < length results
  has-index = All-head (λ r. r.result.node < length results) ran more within

  pub put-one : (next : List NodeResult) → next ≡ slice_set results ran.result.node ran.result → IsPutting all next more
  put-one next set =
      let node = ran.result.node in
      let long : length next ≡ length results = ap length set ∙ length-set results node ran.result in
      record {
        within = subst (λ n. All (λ (r : RanNode). r.result.node < n) more) (sym long) (All-tail (λ r. r.result.node < length results) ran more within);
        with_are = ap (λ l. with_results l (map ran_view more)) (ap (map as_result) set ∙ map-set as_result results node ran.result)
            ∙ (sym (ap (λ l. with_results (map as_result results) (map ran_view l)) is) ∙ putting.with_are);
      }
