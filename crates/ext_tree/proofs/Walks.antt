-- Paths to the root: how long they are, that they go down in number, and that there is one.
use Rattle.std.proofs.Common.{◌≡◌, ◌<◌, ◌+◌, ℕ, zero, suc, List, [], ◌∷◌, ◌++◌, length, get_or, slice_index, set, take, refl, ap, sym, subst, ◌∙◌, arith, append_assoc}
use Rattle.std.proofs.lemmas.List.{take_more_set, append-nil}
use Rattle.ext_tree.specs.Trees.{Id, id_at, IsTree, IsParentOf, IsWalk, IsPathOf}
use Rattle.ext_tree.specs.InnerBuilding.{Follows, AreParents}
use Rattle.ext_tree.proofs.TreeFacts.{longer, only_root, one_parent, parent_first, parent_of, child_not_root}

module _ (ids : List Id) (tree : IsTree ids) where
  pub walk_length : (context : ℕ) (walk : List ℕ) → IsWalk ids context walk → length (id_at ids context) ≡ length walk + 1
  walk_length context [] root = ap (λ k. length (id_at ids k)) root ∙ tree.first.root ∙ (let one : 1 ≡ length (let e : List ℕ = [] in e) + 1 = omega arith in one)
  walk_length context (p ∷ rest) (is, walk) =
      let long = longer (id_at ids p) (id_at ids context) is.ids_are in
      let more = walk_length p rest walk in omega (arith, long, more)

  pub walk_below : (context : ℕ) (walk : List ℕ) → IsWalk ids context walk → (i d : ℕ) → i < length walk → get_or walk i d < context
  walk_below context [] root i d less = absurd (omega (arith, less))
  walk_below context (p ∷ rest) (is, walk) zero d less = parent_first ids tree p context is
  walk_below context (p ∷ rest) (is, walk) (suc i) d less =
      let below = walk_below p rest walk i d (omega (arith, less)) in
      let first = parent_first ids tree p context is in omega (arith, below, first)

  pub path_length : (context : ℕ) (path : List ℕ) → IsPathOf ids context path → length path ≡ length (id_at ids context)
  path_length context [] h = absurd h
  path_length context (first ∷ walk) (e, h) = let long = walk_length context walk h in omega (arith, long)

  pub path_within : (context : ℕ) (path : List ℕ) → context < length ids → IsPathOf ids context path → (i d : ℕ) → i < length path → get_or path i d < length ids
  path_within context [] less h i d inside = absurd h
  path_within context (first ∷ walk) less (e, h) zero d inside = omega (arith, e, less)
  path_within context (first ∷ walk) less (e, h) (suc i) d inside = let below = walk_below context walk h i d (omega (arith, inside)) in omega (arith, below, less)

  pub path_falls : (context : ℕ) (path : List ℕ) → IsPathOf ids context path → (i j d : ℕ) → i < j → j < length path → get_or path j d < get_or path i d
  path_falls context [] h i j d less inside = absurd h
  path_falls context (first ∷ walk) h i zero d less inside = absurd (omega (arith, less))
  path_falls context (first ∷ walk) h zero (suc j) d less inside = let below = walk_below context walk h.1 j d (omega (arith, inside)) in omega (arith, below, h.0)
  path_falls context (first ∷ []) h (suc i) (suc j) d less inside = absurd (omega (arith, inside))
  path_falls context (first ∷ p ∷ rest) h (suc i) (suc j) d less inside = path_falls p (p ∷ rest) (refl, h.1.1) i j d (omega (arith, less)) (omega (arith, inside))

  pub one_walk : (context : ℕ) (v w : List ℕ) → IsWalk ids context v → IsWalk ids context w → v ≡ w
  one_walk context [] [] root root' = refl
  one_walk context [] (q ∷ w) root (is, walk) = absurd (let some = child_not_root ids tree q context is in omega (arith, some, root))
  one_walk context (p ∷ v) [] (is, walk) root = absurd (let some = child_not_root ids tree p context is in omega (arith, some, root))
  one_walk context (p ∷ v) (q ∷ w) (is, walk) (other, walk') =
      let same = one_parent ids tree p q context is other in
      λ i. same i ∷ one_walk p v w walk (subst (λ n. IsWalk ids n w) (sym same) walk') i

  pub one_path : (context : ℕ) (v w : List ℕ) → IsPathOf ids context v → IsPathOf ids context w → v ≡ w
  one_path context [] w h g = absurd h
  one_path context (f ∷ v) [] h g = absurd g
  one_path context (f ∷ v) (g ∷ w) (e, h) (d, k) = λ i. (e ∙ sym d) i ∷ one_walk context v w h k i

-- one step of the walk
pub record Stepped (ids : List Id) (k p i depth : ℕ) : Type 0 where
  pub is : IsParentOf ids p k
  pub deeper : length (id_at ids p) + (i + 1) ≡ depth + 1

pub stepped : (ids : List Id) (parents : List ℕ) (k p i depth : ℕ) → IsTree ids → AreParents ids (length ids) parents → k < length ids → p ≡ slice_index parents k
    → length (id_at ids k) + i ≡ depth + 1 → i < depth → Stepped ids k p i depth
stepped ids parents k p i depth tree are less read deep below =
    let some : 0 < k = not_root k (λ e. let one = tree.first.root in let here : length (id_at ids k) ≡ 1 = ap (λ n. length (id_at ids n)) e ∙ one in omega (arith, here, deep, below)) in
    let is = parent_of ids tree k p less (subst (Follows ids k) (sym read) (are.each k some less)) in
    let long = longer (id_at ids p) (id_at ids k) is.ids_are in
    record { is = is; deeper = omega (arith, long, deep) }
  where
    not_root : (k : ℕ) → (k ≡ 0 → ⊥) → 0 < k
    not_root zero h = absurd (h refl)
    not_root (suc k) h = omega arith

pub walked : (ids : List Id) (context k p i : ℕ) (contexts : List ℕ) → i < length contexts → IsParentOf ids p k
    → ((rest : List ℕ) → IsWalk ids k rest → IsPathOf ids context (take i contexts ++ rest))
    → (rest : List ℕ) → IsWalk ids p rest → IsPathOf ids context (take (i + 1) (set contexts i p) ++ rest)
walked ids context k p i contexts inside is walks rest walk =
    let same : take (i + 1) (set contexts i p) ++ rest ≡ take i contexts ++ (p ∷ rest) = ap (λ xs. xs ++ rest) (take_more_set contexts i p inside) ∙ append_assoc (take i contexts) (p ∷ []) rest in
    subst (IsPathOf ids context) (sym same) (walks (p ∷ rest) (is, walk))

pub arrived : (ids : List Id) (context k i depth : ℕ) (contexts path : List ℕ) → IsTree ids → k < length ids → length (id_at ids k) + i ≡ depth + 1 → i ≡ depth
    → ((rest : List ℕ) → IsWalk ids k rest → IsPathOf ids context (take i contexts ++ rest)) → path ≡ take depth contexts → IsPathOf ids context path
arrived ids context k i depth contexts path tree less deep all walks is =
    let root : k ≡ 0 = only_root ids tree k less (omega (arith, deep, all)) in
    subst (IsPathOf ids context) (append-nil (take i contexts) ∙ ap (λ n. take n contexts) all ∙ sym is) (walks [] root)
