-- Which contexts are within a node: where a path passes it, and what this says of its parent and of its siblings.
use Rattle.std.proofs.Common.{◌≡◌, ◌≢◌, ℕ, ◌-◌, ◌<◌, ◌≤◌, zero, suc, List, [], ◌∷◌, length, take, ap, ◌∙◌, sym, refl, subst, arith, length-take}
use Rattle.std.specs.Prelude.{All, slice_index_or}
use Rattle.std.proofs.lemmas.List.{take-append-le}
use Rattle.std.proofs.Math.Seq.{take-length}
use Rattle.ext_tree.specs.Trees.{Id, id_at, IsTree, IsWalk, IsPathOf, IsParentOf}
use Rattle.ext_tree.proofs.TreeFacts.{longer, one_context}
use Rattle.ext_engine.specs.InnerClosers.{IsWithin}

-- each context of a walk has the first segments of the id where it begins
walk-ids : (ids : List Id) (context : ℕ) (rest : List ℕ) (i : ℕ) → IsWalk ids context rest → i < length (context ∷ rest) → id_at ids (slice_index_or (context ∷ rest) i 0) ≡ take (length (id_at ids context) - i) (id_at ids context)
walk-ids ids context rest zero w l =
    let x = id_at ids context in
    let e : length x ≡ length x - 0 = omega arith in
    sym (take-length x) ∙ ap (λ n. take n x) e
walk-ids ids context [] (suc i) w l = absurd (omega (arith, l))
walk-ids ids context (parent ∷ rest) (suc i) w l =
    let x = id_at ids context in let y = id_at ids parent in
    let p = w.0.ids_are in
    let n = longer y x p in
    let e : length y - i ≡ length x - suc i = omega (arith, n) in
    walk-ids ids parent rest i w.1 (omega (arith, l)) ∙ (sym (take-append-le (length y - i) y (p.0 ∷ []) (omega arith)) ∙ (ap (λ z. take (length y - i) z) (sym p.1) ∙ ap (λ m. take m x) e))

path-ids : (ids : List Id) (k : ℕ) (path : List ℕ) (i : ℕ) → IsPathOf ids k path → i < length path → id_at ids (slice_index_or path i 0) ≡ take (length (id_at ids k) - i) (id_at ids k)
path-ids ids k [] i h l = absurd h
path-ids ids k (first ∷ walk) i h l =
    let P : ℕ → Type 0 = λ n. id_at ids (slice_index_or (n ∷ walk) i 0) ≡ take (length (id_at ids k) - i) (id_at ids k) in
    subst P (sym h.0) (walk-ids ids k walk i h.1 l)

-- a context k with its path, and the depth of a node c that is not deeper
pub record AtDepth (ids : List Id) (k c depth : ℕ) (path : List ℕ) : Type 0 where
  pub path_is : IsPathOf ids k path
  pub long : length path ≡ length (id_at ids k)
  pub deep : depth ≡ length (id_at ids c)
  pub some_depth : 0 < depth
  pub fits : depth ≤ length path

-- the context of the path at that depth has the first segments of k's id, as many as c's id has
at-depth : (ids : List Id) (k c depth : ℕ) (path : List ℕ) → AtDepth ids k c depth path → id_at ids (slice_index_or path (length path - depth) 0) ≡ take (length (id_at ids c)) (id_at ids k)
at-depth ids k c depth path h =
    let long = h.long in let deep = h.deep in let fits = h.fits in let some_depth = h.some_depth in
    let n : length (id_at ids k) - (length path - depth) ≡ length (id_at ids c) = omega (arith, long, deep, fits) in
    path-ids ids k path (length path - depth) h.path_is (omega (arith, some_depth, fits)) ∙ ap (λ m. take m (id_at ids k)) n

-- and for a context within the node it is the node
pub at-within : (ids : List Id) (k c depth : ℕ) (path : List ℕ) → AtDepth ids k c depth path → IsTree ids → c < length ids → All (λ x. x < length ids) path → IsWithin ids c k → slice_index_or path (length path - depth) 0 ≡ c
at-within ids k c depth path h tree less all within =
    let i = length path - depth in
    let some_depth = h.some_depth in let fits = h.fits in
    one_context ids tree (slice_index_or path i 0) c (all i 0 (omega (arith, some_depth, fits))) less (at-depth ids k c depth path h ∙ within)

-- a path that is shorter than the node is deep is of no context within it
pub too-deep : (ids : List Id) (k c depth n : ℕ) → n ≡ length (id_at ids k) → depth ≡ length (id_at ids c) → n < depth → IsWithin ids c k → ⊥
too-deep ids k c depth n long deep less within =
    let e = ap length within in let f = length-take (length (id_at ids c)) (id_at ids k) in
    omega (arith, long, deep, less, e, f)

pub within-self : (ids : List Id) (c : ℕ) → IsWithin ids c c
within-self ids c = take-length (id_at ids c)

take-less : {X : Type 0} (m n : ℕ) (xs : List X) → m ≤ n → take m (take n xs) ≡ take m xs
take-less zero n xs l = refl
take-less (suc m) zero xs l = absurd (omega (arith, l))
take-less (suc m) (suc n) [] l = refl
take-less (suc m) (suc n) (x ∷ xs) l = ap (λ zs. x ∷ zs) (take-less m n xs (omega (arith, l)))

-- what is within a child is within its parent, and isn't the parent
pub below-child : (ids : List Id) (node child k : ℕ) → IsParentOf ids node child → IsWithin ids child k → IsWithin ids node k × (k ≢ node)
below-child ids node child k parent within =
    let x = id_at ids node in let y = id_at ids child in
    let p = parent.ids_are in
    let n = longer x y p in
    let a : take (length x) y ≡ x = ap (λ z. take (length x) z) p.1 ∙ (take-append-le (length x) x (p.0 ∷ []) (omega arith) ∙ take-length x) in
    let b : take (length x) (take (length y) (id_at ids k)) ≡ take (length x) (id_at ids k) = take-less (length x) (length y) (id_at ids k) (omega (arith, n)) in (
      sym b ∙ (ap (λ z. take (length x) z) within ∙ a),
      (λ same. too-deep ids k child (length y) (length (id_at ids k)) refl refl (let g = ap (λ z. length (id_at ids z)) same in omega (arith, n, g)) within),
    )

-- as slices show the paths of a context and of a node, for a child of the node
pub shown : (ids : List Id) (k node c : ℕ) (path node_path p q : List ℕ) → path ≡ p → node_path ≡ q → IsPathOf ids k p → length p ≡ length (id_at ids k) → length q ≡ length (id_at ids node) → IsParentOf ids node c → length node_path < length path
    → AtDepth ids k c (suc (length node_path)) path
shown ids k node c path node_path p q e f path_is long deep parent fits = record {
  path_is = subst (λ l. IsPathOf ids k l) (sym e) path_is;
  long = ap length e ∙ long;
  deep = (let n = ap length f in let m = longer (id_at ids node) (id_at ids c) parent.ids_are in omega (arith, n, deep, m));
  some_depth = omega arith;
  fits = omega (arith, fits);
}
