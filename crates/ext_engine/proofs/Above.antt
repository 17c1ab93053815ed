-- Which nodes are at or below which, in a tree.
use Rattle.std.proofs.Common.{◌≡◌, ◌≢◌, ◌≤◌, ◌<◌, inl, inr, ℕ, zero, suc, List, [], ◌∷◌, length, refl, sym, subst, ◌∙◌, arith}
use Rattle.std.specs.Prelude.{Contains}
use Rattle.std.proofs.lemmas.Bool.{cases_lt}
use Rattle.ext_history.proofs.Lists.{contains_none, contains_here, contains_later, contains_cons}
use Rattle.ext_tree.specs.Trees.{Id, IsTree, IsParentOf, IsWalk, IsPathOf}
use Rattle.ext_tree.proofs.TreeLaws.{paths_are_unique}
use Rattle.ext_engine.specs.RunLaws.{IsAtOrBelow}

-- the same, by the walk behind the node
pub record Under (ids : List Id) (top node : ℕ) : Type 0 where
  pub walk : List ℕ
  pub is_walk : IsWalk ids node walk
  pub on_walk : Contains (node ∷ walk) top

under_path : (ids : List Id) (top node : ℕ) (path : List ℕ) → IsPathOf ids node path → Contains path top → Under ids top node
under_path ids top node [] is there = absurd is
under_path ids top node (first ∷ walk) is there = record { walk = walk; is_walk = is.1; on_walk = subst (λ k. Contains (k ∷ walk) top) is.0 there }

pub under : (ids : List Id) (top node : ℕ) → IsAtOrBelow ids top node → Under ids top node
under ids top node at = under_path ids top node at.path at.path_is at.on_path

pub at_or_below : (ids : List Id) (top node : ℕ) → Under ids top node → IsAtOrBelow ids top node
at_or_below ids top node u = record { path = node ∷ u.walk; path_is = (refl, u.is_walk); on_path = u.on_walk }

pub under_itself : (ids : List Id) (node : ℕ) (path : List ℕ) → IsPathOf ids node path → Under ids node node
under_itself ids node [] is = absurd is
under_itself ids node (first ∷ walk) is = record { walk = walk; is_walk = is.1; on_walk = contains_here node walk }

module _ (ids : List Id) (tree : IsTree ids) where
  one_parent : (p q k : ℕ) → IsParentOf ids p k → IsParentOf ids q k → p ≡ q
  one_parent p q k a b = paths_are_unique.one_parent ids p q k tree a b

  pub parent_first : (p k : ℕ) → IsParentOf ids p k → p < k
  parent_first p k a = paths_are_unique.before ids p k tree a

  one_walk : (k : ℕ) (v w : List ℕ) → IsWalk ids k v → IsWalk ids k w → k ∷ v ≡ k ∷ w
  one_walk k v w a b = paths_are_unique.one_path ids k (k ∷ v) (k ∷ w) tree (refl, a) (refl, b)

  -- ---- on one walk

  not_later : (walk : List ℕ) (k c : ℕ) → IsWalk ids k walk → Contains (k ∷ walk) c → c ≤ k
  not_later [] k c w there = elim (contains_cons k [] c there) [ inl is ↦ omega (arith, is) | inr none ↦ absurd (contains_none c none) ]
  not_later (p ∷ rest) k c w there = elim (contains_cons k (p ∷ rest) c there) [
    | inl is ↦ omega (arith, is)
    | inr later ↦ let less = parent_first p k w.0 in let le = not_later rest p c w.1 later in omega (arith, less, le)
  ]

  -- the parent of what is on a walk is on it too
  up_walk : (walk : List ℕ) (k c n : ℕ) → IsWalk ids k walk → Contains (k ∷ walk) c → IsParentOf ids n c → Contains (k ∷ walk) n
  up_walk [] k c n w there is = elim (contains_cons k [] c there) [
    | inl same ↦ let less = parent_first n c is in absurd (omega (arith, same, w, less))
    | inr none ↦ absurd (contains_none c none)
  ]
  up_walk (p ∷ rest) k c n w there is = elim (contains_cons k (p ∷ rest) c there) [
    | inl same ↦ contains_later k (p ∷ rest) n (subst (λ x. Contains (x ∷ rest) n) (sym (one_parent p n k w.0 (subst (λ x. IsParentOf ids n x) (sym same) is))) (contains_here n rest))
    | inr later ↦ contains_later k (p ∷ rest) n (up_walk rest p c n w.1 later is)
  ]

  -- what is above the first node of a walk is above a child of its own on the walk
  down_walk : (walk : List ℕ) (k n : ℕ) → IsWalk ids k walk → Contains walk n → (c : ℕ) × IsParentOf ids n c × Contains (k ∷ walk) c
  down_walk [] k n w there = absurd (contains_none n there)
  down_walk (p ∷ rest) k n w there = elim (contains_cons p rest n there) [
    | inl same ↦ (k, subst (λ x. IsParentOf ids x k) same w.0, contains_here k (p ∷ rest))
    | inr later ↦ let r = down_walk rest p n w.1 later in (r.0, r.1, contains_later k (p ∷ rest) r.0 r.2)
  ]

  -- a walk goes by one child of a node
  one_child : (walk : List ℕ) (k n c d : ℕ) → IsWalk ids k walk → IsParentOf ids n c → IsParentOf ids n d → Contains (k ∷ walk) c → Contains (k ∷ walk) d → c ≡ d
  one_child [] k n c d w pc pd ac ad = elim (contains_cons k [] c ac) [
    | inr none ↦ absurd (contains_none c none)
    | inl kc ↦ elim (contains_cons k [] d ad) [ inr none ↦ absurd (contains_none d none) | inl kd ↦ sym kc ∙ kd ]
  ]
  one_child (p ∷ rest) k n c d w pc pd ac ad = elim (contains_cons k (p ∷ rest) c ac) [
    | inl kc ↦ elim (contains_cons k (p ∷ rest) d ad) [
      | inl kd ↦ sym kc ∙ kd
      | inr ld ↦
          let same = one_parent p n k w.0 (subst (λ x. IsParentOf ids n x) (sym kc) pc) in
          let le = not_later rest p d w.1 ld in
          let less = parent_first n d pd in
          absurd (omega (arith, same, le, less))
    ]
    | inr lc ↦ elim (contains_cons k (p ∷ rest) d ad) [
      | inl kd ↦
          let same = one_parent p n k w.0 (subst (λ x. IsParentOf ids n x) (sym kd) pd) in
          let le = not_later rest p c w.1 lc in
          let less = parent_first n c pc in
          absurd (omega (arith, same, le, less))
      | inr ld ↦ one_child rest p n c d w.1 pc pd lc ld
    ]
  ]

  -- what is above something on a walk is on the walk
  through_walk : (walk : List ℕ) (k a c : ℕ) → IsWalk ids k walk → Contains (k ∷ walk) a → (v : List ℕ) → IsWalk ids a v → Contains (a ∷ v) c → Contains (k ∷ walk) c
  through_walk [] k a c w there v wa above = elim (contains_cons k [] a there) [
    | inl same ↦ subst (λ l. Contains l c) (sym (one_walk k [] v w (subst (λ x. IsWalk ids x v) (sym same) wa))) (subst (λ x. Contains (x ∷ v) c) (sym same) above)
    | inr none ↦ absurd (contains_none a none)
  ]
  through_walk (p ∷ rest) k a c w there v wa above = elim (contains_cons k (p ∷ rest) a there) [
    | inl same ↦ subst (λ l. Contains l c) (sym (one_walk k (p ∷ rest) v w (subst (λ x. IsWalk ids x v) (sym same) wa))) (subst (λ x. Contains (x ∷ v) c) (sym same) above)
    | inr later ↦ contains_later k (p ∷ rest) c (through_walk rest p a c w.1 later v wa above)
  ]

  -- ---- at or below

  pub under_order : (top node : ℕ) → Under ids top node → top ≤ node
  under_order top node u = not_later u.walk node top u.is_walk u.on_walk

  pub under_child : (top child node : ℕ) → IsParentOf ids top child → Under ids child node → Under ids top node
  under_child top child node is u = record { walk = u.walk; is_walk = u.is_walk; on_walk = up_walk u.walk node child top u.is_walk u.on_walk is }

  pub under_under : (top middle node : ℕ) → Under ids top middle → Under ids middle node → Under ids top node
  under_under top middle node a b = record { walk = b.walk; is_walk = b.is_walk; on_walk = through_walk b.walk node middle top b.is_walk b.on_walk a.walk a.is_walk a.on_walk }

  -- a node is at or below one child at most
  pub same_child : (top c d node : ℕ) → IsParentOf ids top c → IsParentOf ids top d → Under ids c node → Under ids d node → c ≡ d
  same_child top c d node pc pd a b =
      one_child a.walk node top c d a.is_walk pc pd a.on_walk (subst (λ l. Contains l d) (one_walk node b.walk a.walk b.is_walk a.is_walk) b.on_walk)

  -- and what is below a node is at or below a child of it
  pub below_child : (top node : ℕ) → Under ids top node → node ≢ top → (c : ℕ) × IsParentOf ids top c × Under ids c node
  below_child top node u differ = elim (contains_cons node u.walk top u.on_walk) [
    | inl same ↦ absurd (differ same)
    | inr later ↦ let r = down_walk u.walk node top u.is_walk later in (r.0, r.1, record { walk = u.walk; is_walk = u.is_walk; on_walk = r.2 })
  ]

pub within_tree : (ids : List Id) (node : ℕ) (path : List ℕ) → IsTree ids → IsPathOf ids node path → node < length ids
within_tree ids node [] tree is = absurd is
within_tree ids node (first ∷ []) tree is = let some = tree.first.some in omega (arith, is.1, some)
within_tree ids node (first ∷ parent ∷ rest) tree is = is.1.0.child_within

-- the root, and every other node, is at or below the root
the_root : (ids : List Id) (node : ℕ) → node ≡ 0 → Under ids 0 node
the_root ids node is = record { walk = []; is_walk = is; on_walk = subst (λ k. Contains (k ∷ []) 0) (sym is) (contains_here 0 []) }

under_root_to : (ids : List Id) → IsTree ids → (bound node : ℕ) → node ≤ bound → node < length ids → Under ids 0 node
under_root_to ids tree zero node few within = the_root ids node (omega (arith, few))
under_root_to ids tree (suc bound) node few within = elim (cases_lt 0 node) [
  | inr least ↦ the_root ids node (omega (arith, least))
  | inl more ↦
      let parent = (tree.later.each node more within).parent in
      let before = parent.1 in
      let up = under_root_to ids tree bound parent.0 (omega (arith, before, few)) (omega (arith, before, within)) in
      let is : IsParentOf ids parent.0 node = record { parent_within = omega (arith, before, within); child_within = within; ids_are = parent.2 } in
      record { walk = parent.0 ∷ up.walk; is_walk = (is, up.is_walk); on_walk = contains_later node (parent.0 ∷ up.walk) 0 up.on_walk }
]

pub under_root : (ids : List Id) → IsTree ids → (node : ℕ) → node < length ids → Under ids 0 node
under_root ids tree node within = under_root_to ids tree node node (omega arith) within
