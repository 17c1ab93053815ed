-- The children of a node, each with the closers of its subtree.
use Rattle.std.proofs.Common.{◌≡◌, ℕ, ◌-◌, ◌<◌, ◌≤◌, Bool, true, false, zero, suc, List, [], ◌∷◌, ◌++◌, length, map, filter, get_or, set, length-set, get_or-set_same, get_or-set_other, ap, ◌∙◌, sym, refl, subst, arith, inl, inr, Option, Some, None}
use Rattle.std.specs.Prelude.{All, AllPairs, Contains, cond, not, slice_index_or, Result, Ok, Err}
use Rattle.std.specs.Bool.{if◌then◌else◌}
use Rattle.std.specs.Result.{result_ok}
use Rattle.std.specs.Ordering.{nat_cmp}
use Rattle.std.specs.List.Sorted.{IsBinarySearchResult}
use Rattle.std.proofs.lemmas.Bool.{cases_eq, cases_lt, cases_order}
use Rattle.std.proofs.lemmas.List.{length_push, length-map, get_or-map}
use Rattle.std.proofs.lemmas.List.Elements.{All-push, All-same, Contains-get_or}
use Rattle.std.proofs.lemmas.List.Filters.{length-filter_both}
use Rattle.std.proofs.lemmas.List.Sorted.{searched}
use Rattle.ext_ids.specs.Ids.{is_parent}
use Rattle.ext_tree.specs.Trees.{Id, id_at, IsTree, IsParentOf, IsPathOf, children_of, children_below}
use Rattle.ext_tree.proofs.TreeFacts.{longer}
use Rattle.ext_tree.proofs.TreeLaws.{parents_list_children}
use Rattle.ext_store.specs.Stores.{CloserView, StoreView, IsCloserOf}
use Rattle.ext_engine.specs.declared.node.closers.Item.{Item}
use Rattle.ext_engine.specs.InnerClosers.{IsWithin, IsItem, OfStore, HasBelow, HasTaken, contexts}
use Rattle.ext_engine.proofs.Contexts.{keeps-in, keeps-out}
use Rattle.ext_engine.proofs.Within.{shown, at-within, too-deep, below-child}

-- ---- children

few-by : (b : Bool) (xs : List ℕ) (n : ℕ) → length xs ≤ n → length (if b then xs ++ n ∷ [] else xs) ≤ suc n
few-by true xs n l = let e = length_push xs n in omega (arith, l, e)
few-by false xs n l = omega (arith, l)

few-below : (ids : List Id) (node n : ℕ) → length (children_below ids node n) ≤ n
few-below ids node zero = omega arith
few-below ids node (suc n) = few-by (is_parent (id_at ids node) (id_at ids n)) (children_below ids node n) n (few-below ids node n)

-- there are no more of them than contexts
pub few-children : (ids : List Id) (node : ℕ) → length (children_of ids node) ≤ length ids
few-children ids node = few-below ids node (length ids)

-- each is one
pub a-child : (ids : List Id) (node at : ℕ) → node < length ids → at < length (children_of ids node) → IsParentOf ids node (slice_index_or (children_of ids node) at 0)
a-child ids node at less l = (parents_list_children ids node less).child (slice_index_or (children_of ids node) at 0) (Contains-get_or (children_of ids node) at 0 l)

-- ---- where one stands among them

module _ (xs : List ℕ) (order : AllPairs (λ a b. a < b) xs) where
  rises : (i j : ℕ) → i ≤ j → j < length xs → get_or xs i 0 ≤ get_or xs j 0
  rises i j l m = elim (cases_order i j) [
    | inl same ↦ let e = ap (λ n. get_or xs n 0) same in omega (arith, e)
    | inr (inl less) ↦ let e = order i j 0 less m in omega (arith, e)
    | inr (inr more) ↦ absurd (omega (arith, l, more))
  ]

  one-index : (i j : ℕ) → i < length xs → j < length xs → get_or xs i 0 ≡ get_or xs j 0 → i ≡ j
  one-index i j l m is = elim (cases_order i j) [
    | inl same ↦ same
    | inr (inl less) ↦ let e = order i j 0 less m in absurd (omega (arith, e, is))
    | inr (inr more) ↦ let e = order j i 0 more l in absurd (omega (arith, e, is))
  ]

  -- a search finds it there
  pub finds-index : (x at : ℕ) (r : Result ℕ ℕ) → IsBinarySearchResult (λ y. nat_cmp y x) xs r → at < length xs → get_or xs at 0 ≡ x → result_ok r ≡ Some at
  finds-index x at (Ok i) found l is = let f = searched xs x (Ok i) found rises in ap Some (one-index i at f.0 l (f.1 ∙ sym is))
  finds-index x at (Err i) found l is =
      let f = searched xs x (Err i) found rises in
      elim (cases_lt at i) [
        | inl before ↦ let e = f.1 at before in absurd (omega (arith, e, is))
        | inr behind ↦ let e = f.2 at behind l in absurd (omega (arith, e, is))
      ]

module _ (ids : List Id) (node at context : ℕ) (less : node < length ids) (l : at < length (children_of ids node)) (within : IsWithin ids (slice_index_or (children_of ids node) at 0) context)
    (path node_path p q : List ℕ) (e : path ≡ p) (f : node_path ≡ q) (path_is : IsPathOf ids context p) (long : length p ≡ length (id_at ids context)) (deep : length q ≡ length (id_at ids node)) where
  abbrev pub child : ℕ
  child = slice_index_or (children_of ids node) at 0

  -- the path of a context within a child is longer than the node's
  pub too-short : length path ≤ length node_path → ⊥
  too-short short =
      let n = longer (id_at ids node) (id_at ids child) (a-child ids node at less l).ids_are in
      let a = ap length e in let b = ap length f in
      too-deep ids context child (length (id_at ids child)) (length p) long refl (omega (arith, n, a, b, deep, short)) within

  -- and has the child next to the node
  pub passes-child : IsTree ids → All (λ x. x < length ids) p → length node_path < length path → slice_index_or path (length path - length node_path - 1) 0 ≡ child
  passes-child tree inside more =
      let one = a-child ids node at less l in
      let h = shown ids context node child path node_path p q e f path_is long deep one more in
      let n : length path - length node_path - 1 ≡ length path - suc (length node_path) = omega arith in
      ap (λ i. slice_index_or path i 0) n ∙ at-within ids context child (suc (length node_path)) path h tree one.child_within (subst (All (λ x. x < length ids)) (sym e) inside) within

-- ---- an item for each

abbrev nodes_of : List Item → List ℕ
nodes_of items = map (λ i. i.node) items

module _ (ids : List Id) (node : ℕ) (items : List Item) (nodes : map (λ i. i.node) items ≡ children_of ids node) where
  -- an item stands where its node does
  pub node-at : (i : ℕ) (d : Item) → i < length items → slice_index_or (children_of ids node) i 0 ≡ (slice_index_or items i d).node
  node-at i d l = sym (ap (λ xs. slice_index_or xs i 0) nodes) ∙ get_or-map (λ (x : Item). x.node) items i d 0 l

  -- and there are as many
  pub as-many : length (children_of ids node) ≡ length items
  as-many = sym (ap length nodes) ∙ length-map items (λ (x : Item). x.node)

-- ---- the closers that are handed out

module _ (store : StoreView) (seen : List CloserView) (c : CloserView) where
  -- one more of them
  pub taken-in : (item next : Item) → next.node ≡ item.node → next.closers.items ≡ item.closers.items ++ c ∷ [] → IsCloserOf store c → HasTaken store seen item → HasTaken store (seen ++ c ∷ []) next
  taken-in item next named pushed own taken =
      let all = keeps-in (IsWithin store.tree item.node) seen item.closers.items c (record { each = taken.each }) next.closers.items pushed in
      record {
        own = All-same (IsCloserOf store) next.closers.items (item.closers.items ++ c ∷ []) pushed (All-push (IsCloserOf store) item.closers.items c taken.own own);
        each = λ k within h. all.each k (subst (λ n. IsWithin store.tree n k) named within) h;
      }

  -- and one for another item
  pub taken-out : (item : Item) → (IsWithin store.tree item.node c.context → ⊥) → HasTaken store seen item → HasTaken store (seen ++ c ∷ []) item
  taken-out item outside taken = record {
    own = taken.own;
    each = (keeps-out (IsWithin store.tree item.node) seen item.closers.items c (record { each = taken.each }) outside).each;
  }

  module _ (node : ℕ) (items : List Item) (less : node < length store.tree) (nodes : map (λ i. i.node) items ≡ children_of store.tree node) (taken : All (HasTaken store seen) items) where
    -- what is within an item's node is within the child of its place
    at-child : (i : ℕ) (d : Item) (l : i < length items) → IsWithin store.tree (slice_index_or items i d).node c.context → IsWithin store.tree (slice_index_or (children_of store.tree node) i 0) c.context
    at-child i d l = subst (λ n. IsWithin store.tree n c.context) (sym (node-at store.tree node items nodes i d l))

    outside : (place : Option ℕ) → ((i : ℕ) → i < length (children_of store.tree node) → IsWithin store.tree (slice_index_or (children_of store.tree node) i 0) c.context → place ≡ Some i)
        → (i : ℕ) (d : Item) → i < length items → (place ≡ Some i → ⊥) → HasTaken store (seen ++ c ∷ []) (slice_index_or items i d)
    outside place found i d l other =
        let many = as-many store.tree node items nodes in
        taken-out (slice_index_or items i d) (λ within. other (found i (omega (arith, l, many)) (at-child i d l within))) (taken i d l)

    -- it is for none
    pub handed-to-none : ((i : ℕ) → i < length (children_of store.tree node) → IsWithin store.tree (slice_index_or (children_of store.tree node) i 0) c.context → (let none : Option ℕ = None in none ≡ Some i))
        → All (HasTaken store (seen ++ c ∷ [])) items
    handed-to-none found = λ i d l. outside None found i d l (λ e. cc e)

    -- or for the item at this place
    pub handed-to : (at : ℕ) (was next : Item) → at < length items → was ≡ slice_index_or items at was → next.node ≡ was.node → next.closers.items ≡ was.closers.items ++ c ∷ [] → IsCloserOf store c
        → ((i : ℕ) → i < length (children_of store.tree node) → IsWithin store.tree (slice_index_or (children_of store.tree node) i 0) c.context → (let place : Option ℕ = Some at in place ≡ Some i))
        → All (HasTaken store (seen ++ c ∷ [])) (set items at next)
    handed-to at was next inside is named pushed own found = λ i d l.
        let n = length-set items at next in
        elim (cases_eq i at) [
          | inl same ↦
              let there : slice_index_or (set items at next) i d ≡ next = ap (λ k. slice_index_or (set items at next) k d) same ∙ get_or-set_same items at next d inside in
              subst (HasTaken store (seen ++ c ∷ [])) (sym there) (taken-in was next named pushed own (subst (HasTaken store seen) (sym is) (taken at was inside)))
          | inr other ↦ subst (HasTaken store (seen ++ c ∷ [])) (sym (get_or-set_other items at i next d other)) (outside (Some at) found i d (omega (arith, l, n)) (λ e. other (sym (same-index e))))
        ]
      where
        same-index : {i : ℕ} → (let place : Option ℕ = Some at in place ≡ Some i) → at ≡ i
        same-index e = cc e

-- ---- the items of the children

-- with all closers handed out each child has those of its subtree
pub are-items : (store : StoreView) (node : ℕ) (closers : List CloserView) (items : List Item) → node < length store.tree → map (λ i. i.node) items ≡ children_of store.tree node → HasBelow store node closers
    → All (HasTaken store closers) items → All (IsItem store node) items
are-items store node closers items less nodes below taken = λ i d l.
    let item = slice_index_or items i d in
    let many = as-many store.tree node items nodes in
    let child : IsParentOf store.tree node item.node = subst (IsParentOf store.tree node) (node-at store.tree node items nodes i d l) (a-child store.tree node i less (omega (arith, l, many))) in
    let mine = taken i d l in
    record {
      child = child;
      own = mine.own;
      closers = record {
        each = λ k inside within.
            let b = below-child store.tree node item.node k child within in
            mine.each k within (below.each k inside b.0 b.1);
      };
    }

-- those that pass have the nodes that do
pub filtered-nodes : (passes : ℕ → Bool) (items : List Item) → map (λ i. i.node) (filter (λ i. passes i.node) items) ≡ filter passes (map (λ i. i.node) items)
filtered-nodes passes [] = refl
filtered-nodes passes (item ∷ items) = one (passes item.node) ∙ ap (λ xs. cond (passes item.node) (item.node ∷ xs) xs) (filtered-nodes passes items)
  where
    one : (b : Bool) → nodes_of (cond b (item ∷ filter (λ i. passes i.node) items) (filter (λ i. passes i.node) items))
        ≡ cond b (item.node ∷ nodes_of (filter (λ i. passes i.node) items)) (nodes_of (filter (λ i. passes i.node) items))
    one true = refl
    one false = refl

-- and there are no more of them
pub few-pass : (passes : Item → Bool) (items : List Item) → length (filter passes items) ≤ length items
few-pass passes items = let n = length-filter_both passes (λ x. not (passes x)) (λ x. refl) items in omega (arith, n)
