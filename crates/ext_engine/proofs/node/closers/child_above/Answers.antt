use Rattle.std.proofs.Common.{◌≡◌, ℕ, ◌-◌, ◌<◌, length, arith, sym, subst, ◌∙◌, nat_cmp, Option, Some, None}
use Rattle.std.specs.Prelude.{slice_index_or}
use Rattle.std.specs.List.Sorted.{IsBinarySearchResult}
use Rattle.ext_tree.specs.Trees.{children_of}
use Rattle.ext_tree.proofs.TreeLaws.{parents_list_children}
use Rattle.ext_engine.specs.InnerClosers.{IsWithin}
use Rattle.ext_engine.proofs.Items.{finds-index, too-short, passes-child}
use Rattle.ext_engine.proofs.node.closers.child_above.Goals as goal

pub returns-then-path-depth-clause-at : goal.returns-then-path-depth-clause-at
returns-then-path-depth-clause-at g c =
    let node = c.args.node in let context = c.args.context in let ids = c.tree-tree.result.now in
    let less : node < length ids = subst (λ t. node < length t) (sym c.tree-tree.ensures) c.requires.node in
    subst (λ t. (at : ℕ) → at < length (children_of t node) → IsWithin t (slice_index_or (children_of t node) at 0) context → (let none : Option ℕ = None in none ≡ Some at)) c.tree-tree.ensures
    (λ at l within. absurd (too-short ids node at context less l within c.as_slice-path.result.now c.as_slice-depth.result.now c.path-2.result.now c.path.result.now c.as_slice-path.ensures.contexts c.as_slice-depth.ensures.contexts
    c.path-2.ensures.path c.path-2.ensures.depth c.path.ensures.depth c.if-path-depth.true))

pub returns-clause-at : goal.returns-clause-at
returns-clause-at g c =
    let node = c.args.node in let context = c.args.context in let ids = c.tree-tree.result.now in
    let path = c.as_slice-path.result.now in let node_path = c.as_slice-depth.result.now in
    let less : node < length ids = subst (λ t. node < length t) (sym c.tree-tree.ensures) c.requires.node in
    let x = slice_index_or path (length path - length node_path - 1) 0 in
    let found : IsBinarySearchResult (λ y. nat_cmp y x) (children_of ids node) c.binary_search.result = subst (λ xs. IsBinarySearchResult (λ y. nat_cmp y x) xs c.binary_search.result) c.children.ensures c.binary_search.ensures.position in
    subst (λ t. (at : ℕ) → at < length (children_of t node) → IsWithin t (slice_index_or (children_of t node) at 0) context → c.ok.result ≡ Some at) c.tree-tree.ensures
    (λ at l within.
    let passes = passes-child ids node at context less l within path node_path c.path-2.result.now c.path.result.now c.as_slice-path.ensures.contexts c.as_slice-depth.ensures.contexts
    c.path-2.ensures.path c.path-2.ensures.depth c.path.ensures.depth c.len-count.ensures.tree c.path-2.ensures.within (omega (arith, c.if-path-depth.false)) in
    c.ok.ensures.value ∙ finds-index (children_of ids node) (parents_list_children ids node less).order x at c.binary_search.result found l (sym passes))
