-- The whole tree: its root with all closers, and an index for the result of each node.
use Rattle.std.proofs.Common.{◌≡◌, ℕ, ◌<◌, inl, inr, zero, suc, List, [], ◌∷◌, ◌++◌, length, map, ap, ◌∙◌, sym, refl, subst, arith}
use Rattle.std.specs.Prelude.{All, Contains, slice_index_or}
use Rattle.std.proofs.lemmas.Bool.{cases_order}
use Rattle.std.proofs.lemmas.List.{length-map, map_push}
use Rattle.std.proofs.lemmas.List.Elements.{Contains-append_left, Contains-get_or, Contains-push}
use Rattle.std.proofs.lemmas.List.FromFn.{length-map-range_with_len}
use Rattle.ext_cells.specs.Lanes.{CellsId}
use Rattle.ext_tree.specs.Trees.{id_at, IsTree}
use Rattle.ext_store.specs.Stores.{StoreView, CloserView, closers_below}
use Rattle.ext_store.proofs.Fresh.{closers_own}
use Rattle.ext_lifecycle.specs.declared.node_result.NodeResult.{NodeResult}
use Rattle.ext_lifecycle.specs.Results.{as_result, skipped_result}
use Rattle.ext_engine.specs.declared.node.closers.Item.{Item}
use Rattle.ext_engine.specs.declared.node.results.RanNode.{RanNode}
use Rattle.ext_engine.specs.InnerResults.{ran_view}
use Rattle.ext_engine.specs.InnerClosers.{IsNode, contexts}
use Rattle.ext_engine.specs.Suites.{SuiteView}
use Rattle.ext_engine.specs.TreeRun.{Ran, all_skipped}
use Rattle.ext_history.proofs.Once.{contains-map}

-- ---- the root

has-all : (cells : CellsId) (n k : ℕ) → k < n → Contains (contexts (closers_below cells n)) k
has-all cells zero k l = absurd (omega (arith, l))
has-all cells (suc n) k l =
    let e = map_push (λ (c : CloserView). c.context) (closers_below cells n) (record { cells = cells; context = n }) in
    subst (λ x. Contains x k) (sym e) (elim (cases_order k n) [
      | inl same ↦ subst (λ x. Contains (contexts (closers_below cells n) ++ n ∷ []) x) (sym same) (Contains-push (contexts (closers_below cells n)) n)
      | inr (inl less) ↦ Contains-append_left (contexts (closers_below cells n)) (n ∷ []) k (has-all cells n k less)
      | inr (inr less) ↦ absurd (omega (arith, l, less))
    ])

-- the root, with the closers of all contexts
pub root-item : (store : StoreView) (item : Item) → IsTree store.tree → item.node ≡ 0 → item.closers.items ≡ closers_below store.id.cells (length store.tree) → IsNode store 16 item
root-item store item tree root all =
    let r = tree.first.root in
    record {
      within = (let s = tree.first.some in omega (arith, root, s));
      depth_is = (let e = ap (λ n. length (id_at store.tree n)) root in omega (arith, r, e));
      own = closers_own store item.closers.items (length store.tree) refl all;
      closers = record { each = λ k less within. subst (λ l. Contains (contexts l) k) (sym all) (has-all store.id.cells (length store.tree) k less) };
    }

-- ---- indices of results

-- as many results as contexts
pub skipped-count : (suite : SuiteView) (results : List NodeResult) (count : ℕ) → map as_result results ≡ all_skipped suite count → length results ≡ count
skipped-count suite results count are =
    sym (length-map results as_result) ∙ (ap length are ∙ length-map-range_with_len (λ node. skipped_result node (suite.is_test node)) 0 count)

-- so each node that ran has an index
pub ran-within : (ran : List RanNode) (count places : ℕ) → places ≡ count → ((r : Ran) → Contains (map ran_view ran) r → r.result.node < count) → All (λ r. r.result.node < places) ran
ran-within ran count places same within k d less =
    let one = slice_index_or ran k d in
    let there : one.result.node < count = within (ran_view one) (contains-map ran_view ran one (Contains-get_or ran k d less)) in
    omega (arith, there, same)
