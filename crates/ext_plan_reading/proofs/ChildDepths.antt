-- The least depth of the tests at or below a node: its own where it is a test, and else the least of those of its children.
use Rattle.std.proofs.Common.{◌≡◌, ◌≢◌, ℕ, zero, suc, ◌<◌, ◌≤◌, ◌-◌, Bool, true, false, ◌&&◌, List, [], ◌∷◌, ◌++◌, length, map, take, get_or, arith, inl, inr, refl, ap, sym, subst, ◌∙◌, append_assoc, append-nil, length-append}
use Rattle.std.specs.Prelude.{fold, is_some, option_map, Option, Some, None, Vec, min, if◌then◌else◌}
use Rattle.std.specs.Borrow.{Bor}
use Rattle.std.specs.declared.alloc.Global.{Global}
use Rattle.std.proofs.Math.Nat.{min-le_left, min-le_right, le-min}
use Rattle.std.proofs.lemmas.Simd.{map-map}
use Rattle.std.proofs.lemmas.Bool.{and_from, and_parts, cases_eq, true≢false}
use Rattle.std.proofs.lemmas.List.{get_or-map, same_from_push, length-map}
use Rattle.std.proofs.lemmas.List.Elements.{Contains-get_or}
use Rattle.ext_ids.specs.Ids.{pair_eq}
use Rattle.ext_ids.proofs.Pairs.{last_of, pair_eq-Decides}
use Rattle.ext_tree.specs.Trees.{Id, id_at, children_of, IsParent, IsParentOf, IsTree}
use Rattle.ext_tree.proofs.TreeFacts.{has_segment, only_root, one_context, parent_first}
use Rattle.ext_tree.proofs.TreeLaws.{parents_list_children}
use Rattle.ext_plan.specs.ReadPlans.{IsAtOrBelow}
use Rattle.ext_plan_reading.specs.declared.nodes.NodeSketch.{NodeSketch}
use Rattle.ext_plan_reading.specs.Depths.{Outline, is_at_or_below, with_depth, least_test_depth}
use Rattle.ext_plan_reading.specs.InnerSketches.{sketch_view, words_view}
use Rattle.ext_plan_reading.specs.NodeReading.{Sketch, ids_of, outlines_of}
use Rattle.ext_plan_reading.proofs.TestDepths.{below_is_true, at_most, least_from, least_is_below}

-- a node's id, and whether it is a test
abbrev outline_of : Sketch → Outline
outline_of sketch = (sketch.id, is_some sketch.test)

-- ---- nodes below others

-- what the test tells
true_is_below : (above id : Id) → is_at_or_below above id ≡ true → IsAtOrBelow above id
true_is_below [] id h = (id, refl)
true_is_below (pair ∷ above) [] h = absurd cc
true_is_below (pair ∷ above) (other ∷ id) h =
    let both = and_parts (pair_eq pair other) (is_at_or_below above id) h in
    let rest = true_is_below above id both.1 in
    (rest.0, ap (λ p. p ∷ id) (sym ((pair_eq-Decides pair other).0 both.0)) ∙ ap (λ xs. pair ∷ xs) rest.1)

below_child : (parent child id : Id) → IsParent parent child → IsAtOrBelow child id → IsAtOrBelow parent id
below_child parent child id is below = (is.0 ∷ below.0, below.1 ∙ ap (λ xs. xs ++ below.0) is.1 ∙ append_assoc parent (is.0 ∷ []) below.0)

below_parent : (above parent child : Id) → IsParent parent child → IsAtOrBelow above parent → IsAtOrBelow above child
below_parent above parent child is below = (below.0 ++ is.0 ∷ [], is.1 ∙ ap (λ xs. xs ++ is.0 ∷ []) below.1 ∙ append_assoc above below.0 (is.0 ∷ []))

module _ (ids : List Id) (tree : IsTree ids) where
  root_below : (k : ℕ) → k < length ids → IsAtOrBelow (id_at ids k) (id_at ids 0) → k ≡ 0
  root_below k less below =
      let some = has_segment ids tree k less in
      let one = tree.first.root in
      let long = ap length below.1 in
      only_root ids tree k less (omega (arith, some, one, long, length-append (id_at ids k) below.0))

  up_to_parent : (k j i : ℕ) (rest : Id) → k < length ids → j < length ids → j ≢ k → IsParent (id_at ids i) (id_at ids j) → id_at ids j ≡ id_at ids k ++ rest → IsAtOrBelow (id_at ids k) (id_at ids i)
  up_to_parent k j i [] k_less j_less apart is e = absurd (apart (one_context ids tree j k j_less k_less (e ∙ append-nil (id_at ids k))))
  up_to_parent k j i (pair ∷ rest) k_less j_less apart is e =
      let l = last_of (pair ∷ rest) (omega arith) in
      let front = take (length (pair ∷ rest) - 1) (pair ∷ rest) in
      let same = same_from_push (id_at ids i) (id_at ids k ++ front) is.0 l.last (sym is.1 ∙ e ∙ ap (λ xs. id_at ids k ++ xs) l.is ∙ sym (append_assoc (id_at ids k) front (l.last ∷ []))) in
      (front, same.0)

  -- a node below another one is at or below a child of it
  child_toward : (n k j : ℕ) → j < n → k < length ids → j < length ids → j ≢ k → IsAtOrBelow (id_at ids k) (id_at ids j) → (c : ℕ) × IsParentOf ids k c × IsAtOrBelow (id_at ids c) (id_at ids j)
  child_toward zero k j less k_less j_less apart below = absurd (omega (arith, less))
  child_toward (suc n) k zero less k_less j_less apart below = absurd (apart (sym (root_below k k_less below)))
  child_toward (suc n) k (suc j) less k_less j_less apart below =
      let p = (tree.later.each (suc j) (omega arith) j_less).parent in
      elim (cases_eq p.0 k) [
        | inl same ↦ (suc j, record { parent_within = k_less; child_within = j_less; ids_are = subst (λ i. IsParent (id_at ids i) (id_at ids (suc j))) same p.2 }, ([], sym (append-nil (id_at ids (suc j)))))
        | inr other ↦
            let before = p.1 in
            let up = up_to_parent k (suc j) p.0 below.0 k_less j_less apart p.2 below.1 in
            let c = child_toward n k p.0 (omega (arith, before, less)) k_less (omega (arith, before, j_less)) other up in
            (c.0, c.1, below_parent (id_at ids c.0) (id_at ids p.0) (id_at ids (suc j)) p.2 c.2)
      ]

-- ---- the least of some depths

kept : (b : Bool) (m least depth : ℕ) → m ≤ least → (b ≡ true → m ≤ depth) → m ≤ (if b then min least depth else least)
kept true m least depth low each = le-min low (each refl)
kept false m least depth low each = low

-- no test at or below is higher
at_least : (above : Id) (m least : ℕ) (nodes : List Outline) → m ≤ least
    → ((k : ℕ) (d : Outline) → k < length nodes → ((get_or nodes k d).1 && is_at_or_below above (get_or nodes k d).0) ≡ true → m ≤ length (get_or nodes k d).0)
    → m ≤ fold (with_depth above) least nodes
at_least above m least [] low each = low
at_least above m least (node ∷ nodes) low each =
    at_least above m (with_depth above least node) nodes (kept (node.1 && is_at_or_below above node.0) m least (length node.0) low (each 0 node (omega arith))) (λ k d less is. each (suc k) d (omega (arith, less)) is)

-- the least so far, or the depth of this child
abbrev pub with_child : (ℕ → ℕ) → ℕ → ℕ → ℕ
with_child depth least child = min least (depth child)

children_low : (depth : ℕ → ℕ) (least : ℕ) (children : List ℕ) → fold (with_child depth) least children ≤ least
children_low depth least [] = omega arith
children_low depth least (child ∷ children) =
    let one = min-le_left least (depth child) in
    let rest = children_low depth (min least (depth child)) children in
    omega (arith, one, rest)

children_each : (depth : ℕ → ℕ) (least : ℕ) (children : List ℕ) (k d : ℕ) → k < length children → fold (with_child depth) least children ≤ depth (get_or children k d)
children_each depth least [] k d less = absurd (omega (arith, less))
children_each depth least (child ∷ children) zero d less =
    let one = min-le_right least (depth child) in
    let rest = children_low depth (min least (depth child)) children in
    omega (arith, one, rest)
children_each depth least (child ∷ children) (suc k) d less = children_each depth (min least (depth child)) children k d (omega (arith, less))

children_least : (depth : ℕ → ℕ) (m least : ℕ) (children : List ℕ) → m ≤ least → ((k d : ℕ) → k < length children → m ≤ depth (get_or children k d)) → m ≤ fold (with_child depth) least children
children_least depth m least [] low each = low
children_least depth m least (child ∷ children) low each =
    children_least depth m (min least (depth child)) children (le-min low (each 0 child (omega arith))) (λ k d less. each (suc k) d (omega (arith, less)))

-- ---- the nodes of a tree

abbrev pub ids_in : List Outline → List Id
ids_in nodes = map (λ node. node.0) nodes

-- the least depth of tests at or below the node at an index
abbrev pub least_at : List Outline → ℕ → ℕ
least_at nodes k = least_test_depth nodes (id_at (ids_in nodes) k)

pub ids_in-sketches : (sketches : List Sketch) → ids_in (outlines_of sketches) ≡ ids_of sketches
ids_in-sketches sketches = map-map (λ (o : Outline). o.0) outline_of sketches

module _ (nodes : List Outline) where
  id_of : (k : ℕ) (d : Outline) → k < length nodes → id_at (ids_in nodes) k ≡ (get_or nodes k d).0
  id_of k d less = get_or-map (λ node. node.0) nodes k d [] less

  counted : length (ids_in nodes) ≡ length nodes
  counted = length-map nodes (λ node. node.0)

  -- a test
  of_test : (k : ℕ) (d : Outline) → k < length nodes → (get_or nodes k d).1 ≡ true → length (id_at (ids_in nodes) k) ≤ 16 → length (id_at (ids_in nodes) k) ≡ least_at nodes k
  of_test k d less test few =
      let id = id_at (ids_in nodes) k in
      let own = ap length (id_of k d less) in
      let low = least_is_below nodes id k d less test ([], sym (id_of k d less) ∙ sym (append-nil id)) in
      let high = at_least id (length id) 16 nodes few (λ j e less h.
      let both = and_parts (get_or nodes j e).1 (is_at_or_below id (get_or nodes j e).0) h in
      let below = true_is_below id (get_or nodes j e).0 both.1 in
      let long = ap length below.1 in
      omega (arith, long, length-append id below.0)) in
      omega (arith, own, low, high)

module _ (nodes : List Outline) (tree : IsTree (ids_in nodes)) where
  of_child : (k c : ℕ) → IsParentOf (ids_in nodes) k c → least_at nodes k ≤ least_at nodes c
  of_child k c is =
      let ids = ids_in nodes in
      at_least (id_at ids c) (least_at nodes k) 16 nodes (at_most (id_at ids k) 16 nodes) (λ j d less h.
      let both = and_parts (get_or nodes j d).1 (is_at_or_below (id_at ids c) (get_or nodes j d).0) h in
      let below = below_child (id_at ids k) (id_at ids c) (get_or nodes j d).0 is.ids_are (true_is_below (id_at ids c) (get_or nodes j d).0 both.1) in
      least_from (id_at ids k) 16 nodes j d less (and_from _ _ both.0 (below_is_true (id_at ids k) (get_or nodes j d).0 below)))

  -- any other node
  of_children : (k : ℕ) → k < length nodes → ((d : Outline) → (get_or nodes k d).1 ≡ false) → fold (with_child (least_at nodes)) 16 (children_of (ids_in nodes) k) ≡ least_at nodes k
  of_children k less no_test =
      let ids = ids_in nodes in
      let children = children_of ids k in
      let k_less : k < length ids = omega (arith, less, counted nodes) in
      let list = parents_list_children ids k k_less in
      let high = children_least (least_at nodes) (least_at nodes k) 16 children (at_most (id_at ids k) 16 nodes) (λ i d inside. of_child k (get_or children i d) (list.child (get_or children i d) (Contains-get_or children i d inside))) in
      let low = at_least (id_at ids k) (fold (with_child (least_at nodes)) 16 children) 16 nodes (children_low (least_at nodes) 16 children) (λ j d inside h.
      let both = and_parts (get_or nodes j d).1 (is_at_or_below (id_at ids k) (get_or nodes j d).0) h in
      let apart : j ≢ k = (λ same. true≢false (sym both.0 ∙ ap (λ i. (get_or nodes i d).1) same ∙ no_test d)) in
      let below = subst (IsAtOrBelow (id_at ids k)) (sym (id_of nodes j d inside)) (true_is_below (id_at ids k) (get_or nodes j d).0 both.1) in
      let c = child_toward ids tree (suc j) k j (omega arith) k_less (omega (arith, inside, counted nodes)) apart below in
      let listed = list.listed c.0 c.1 in
      let child = subst (λ i. fold (with_child (least_at nodes)) 16 children ≤ least_at nodes i) listed.2 (children_each (least_at nodes) 16 children listed.0 c.0 listed.1) in
      let is_below = below_is_true (id_at ids c.0) (get_or nodes j d).0 (subst (IsAtOrBelow (id_at ids c.0)) (id_of nodes j d inside) c.2) in
      let test = least_from (id_at ids c.0) 16 nodes j d inside (and_from _ _ both.0 is_below) in
      omega (arith, child, test)) in
      omega (arith, high, low)

  -- a child stands behind its parent
  behind : (k i d : ℕ) → k < length nodes → i < length (children_of (ids_in nodes) k) → (k < get_or (children_of (ids_in nodes) k) i d) × (get_or (children_of (ids_in nodes) k) i d < length nodes)
  behind k i d less inside =
      let ids = ids_in nodes in
      let children = children_of ids k in
      let list = parents_list_children ids k (omega (arith, less, counted nodes)) in
      let is = list.child (get_or children i d) (Contains-get_or children i d inside) in
      let within = is.child_within in
      (parent_first ids tree k (get_or children i d) is, omega (arith, within, counted nodes))

-- ---- the nodes of a plan

pub sketch_at : (sketches : List NodeSketch) (k : ℕ) (s : NodeSketch) → k < length sketches → s ≡ get_or sketches k s → sketch_view s ≡ get_or (map sketch_view sketches) k (sketch_view s)
sketch_at sketches k s less is = sym (get_or-map sketch_view sketches k s (sketch_view s) less ∙ ap sketch_view (sym is))

-- the id of the sketch at an index
pub id_here : (sketches : List NodeSketch) (ids : List Id) (k n : ℕ) (s : NodeSketch) → ids ≡ ids_of (map sketch_view sketches) → n ≡ k → k < length sketches → s ≡ get_or sketches k s → id_at ids n ≡ s.id
id_here sketches ids k n s are place less is =
    let inside : n < length (map sketch_view sketches) = omega (arith, place, less, length-map sketches sketch_view) in
    let found = subst (λ i. sketch_view s ≡ get_or (map sketch_view sketches) i (sketch_view s)) (sym place) (sketch_at sketches k s less is) in
    ap (λ i. id_at i n) are ∙ get_or-map (λ t. t.id) (map sketch_view sketches) n (sketch_view s) [] inside ∙ ap (λ t. t.id) (sym found)

pub sketched_test : (test : Option (Vec (Bor (List ℕ)) Global)) (b : Bool) → b ≡ is_some test → is_some (option_map words_view test) ≡ b
sketched_test None b e = sym e
sketched_test (Some steps) b e = sym e

module _ (all : List Sketch) (ids : List Id) (are : ids ≡ ids_of all) where
  same : ids_in (outlines_of all) ≡ ids
  same = ids_in-sketches all ∙ sym are

  within : (k : ℕ) → k < length all → k < length (outlines_of all)
  within k less = omega (arith, less, length-map all outline_of)

  outline_at : (k : ℕ) (s : Sketch) (d : Outline) → k < length all → s ≡ get_or all k s → get_or (outlines_of all) k d ≡ outline_of s
  outline_at k s d less is = get_or-map outline_of all k s d less ∙ ap outline_of (sym is)

  pub test_depth : (k : ℕ) (s : Sketch) → k < length all → s ≡ get_or all k s → is_some s.test ≡ true → length s.id ≤ 16 → length s.id ≡ least_test_depth (outlines_of all) (id_at ids k)
  test_depth k s less is test few =
      let nodes = outlines_of all in
      let at = outline_at k s (outline_of s) less is in
      let own : length s.id ≡ length (id_at (ids_in nodes) k) = sym (ap length (id_of nodes k (outline_of s) (within k less) ∙ ap (λ o. o.0) at)) in
      let low : length (id_at (ids_in nodes) k) ≤ 16 = omega (arith, own, few) in
      own ∙ of_test nodes k (outline_of s) (within k less) (ap (λ o. o.1) at ∙ test) low ∙ ap (λ i. least_test_depth nodes (id_at i k)) same

module _ (all : List Sketch) (ids : List Id) (tree : IsTree ids) (are : ids ≡ ids_of all) where
  nodes_tree : IsTree (ids_in (outlines_of all))
  nodes_tree = subst IsTree (sym (same all ids are)) tree

  pub container_depth : (k : ℕ) (s : Sketch) → k < length all → s ≡ get_or all k s → is_some s.test ≡ false
      → fold (with_child (λ c. least_test_depth (outlines_of all) (id_at ids c))) 16 (children_of ids k) ≡ least_test_depth (outlines_of all) (id_at ids k)
  container_depth k s less is test =
      subst (λ i. fold (with_child (λ c. least_test_depth (outlines_of all) (id_at i c))) 16 (children_of i k) ≡ least_test_depth (outlines_of all) (id_at i k)) (same all ids are)
      (of_children (outlines_of all) nodes_tree k (within all ids are k less) (λ d. ap (λ o. o.1) (outline_at all ids are k s d less is) ∙ test))

  pub child_behind : (k i d : ℕ) → k < length all → i < length (children_of ids k) → (k < get_or (children_of ids k) i d) × (get_or (children_of ids k) i d < length all)
  child_behind k i d less inside =
      let b = subst (λ t. i < length (children_of t k) → (k < get_or (children_of t k) i d) × (get_or (children_of t k) i d < length (outlines_of all))) (same all ids are) (behind (outlines_of all) nodes_tree k i d (within all ids are k less)) inside in
      let before = b.0 in
      let end = b.1 in
      (before, omega (arith, end, length-map all outline_of))
