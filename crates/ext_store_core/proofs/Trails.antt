-- The contexts of a path are rows of the store's cells, and a key is a column.
use Rattle.std.proofs.Common.{◌≡◌, ◌≢◌, ◌↔◌, ℕ, suc, ◌+◌, ◌*◌, ◌<◌, Bool, true, false, List, [], ◌∷◌, map, get_or, length, sym, refl, ap, subst, ◌∙◌, arith, nat_eq, IsTrue, AllPairs, not, true≢false}
use Rattle.std.proofs.Math.Nat.{mul-le-mul_right}
use Rattle.std.specs.Prelude.{All}
use Rattle.std.specs.List.{IsDistinct, list_any}
use Rattle.std.proofs.lemmas.List.{get_or_default}
use Rattle.std.proofs.lemmas.List.Folds.{Any-from_list_any, list_any-from_Any}
use Rattle.std.proofs.lemmas.List.Kept.{AllPairs-cons}
use Rattle.std.proofs.lemmas.List.Elements.{All-map}
use Rattle.std.proofs.lemmas.Bool.Decides.{Decides-eqb}
use Rattle.std.proofs.lemmas.Map.Made.{IsDistinct-from_AllPairs}
use Rattle.ext_cells.specs.CellCalls.{cell_at, cells_in}
use Rattle.ext_store_core.specs.ContextCalls.{ContextCells, IsTrail, cell_in}

-- a row has as many columns as there are places of keys
pub trail_cells : (store : ContextCells) (width key : ℕ) (path : List ℕ) → length store.keys ≡ width → cells_in path width key ≡ map (cell_in store key) path
trail_cells store width key path places = ap (λ keys. map (λ context. context * keys + key) path) (sym places)

pub trail_within : (store : ContextCells) (width key limit : ℕ) (path : List ℕ) → length store.keys ≡ width → key < length store.keys → limit ≡ length store.tree * length store.keys → IsTrail store path → All (λ cell. cell < limit) (cells_in path width key)
trail_within store width key limit path places k is trail =
    let all : limit ≡ length store.tree * width = is ∙ ap (λ keys. length store.tree * keys) places in
    All-map (λ cell. cell < limit) (cell_at width key) path (λ i d within.
    let less : get_or path i d < length store.tree = trail.within i d within in
    let rows = mul-le-mul_right {m = get_or path i d + 1} {n = length store.tree} width (omega (arith, less)) in
    omega (arith, all, places, k, rows))

pub trail_different : (store : ContextCells) (path : List ℕ) → IsTrail store path → IsDistinct nat_eq path
trail_different store path trail = IsDistinct-from_AllPairs Decides-eqb path trail.different

-- ---- the test whether they are different

-- the first is none of the others
first_differs : (x : ℕ) (rest : List ℕ) → list_any (λ y. nat_eq y x) rest ≡ false → AllPairs (λ a b. a ≢ b) rest → AllPairs (λ a b. a ≢ b) (x ∷ rest)
first_differs x rest none different = AllPairs-cons (λ a b. a ≢ b) x rest
    (λ i d within same.
    let met : list_any (λ y. nat_eq y x) rest ≡ true =
    list_any-from_Any (λ y. nat_eq y x) rest (i, get_or rest i d, within, get_or_default rest i (get_or rest i d) d within, (Decides-eqb (get_or rest i d) x).1 (sym same)) in
    true≢false (sym met ∙ none)) different

-- or it is one of them
first_stands : (x : ℕ) (rest : List ℕ) → list_any (λ y. nat_eq y x) rest ≡ true → AllPairs (λ a b. a ≢ b) (x ∷ rest) → ⊥
first_stands x rest met different =
    let at = Any-from_list_any (λ y. nat_eq y x) rest met in
    let within = at.2 in
    different 0 (suc at.0) at.1 (omega arith) (omega (arith, within)) (sym (at.3 ∙ (Decides-eqb at.1 x).0 at.4))

module _ (x : ℕ) (rest path : List ℕ) (whole : path ≡ x ∷ rest) (stands : Bool) (is : stands ≡ list_any (λ y. nat_eq y x) rest) where
  -- so the others decide,
  pub others_decide : (rest_differ : Bool) → stands ≡ false → (IsTrue rest_differ ↔ AllPairs (λ a b. a ≢ b) rest) → (IsTrue rest_differ ↔ AllPairs (λ a b. a ≢ b) path)
  others_decide rest_differ none others = (
    λ differ. subst (AllPairs (λ a b. a ≢ b)) (sym whole) (first_differs x rest (sym is ∙ none) (others.0 differ)),
    λ different.
        let all : AllPairs (λ a b. a ≢ b) (x ∷ rest) = subst (AllPairs (λ a b. a ≢ b)) whole different in
        others.1 (λ i j d less within. all (suc i) (suc j) d (omega (arith, less)) (omega (arith, within))),
  )

  -- or no more is needed
  pub first_decides : stands ≡ true → (IsTrue (not stands) ↔ AllPairs (λ a b. a ≢ b) path)
  first_decides met = (
    λ none. absurd (true≢false (sym none ∙ ap not met)),
    λ different. absurd (first_stands x rest (sym is ∙ met) (subst (AllPairs (λ a b. a ≢ b)) whole different)),
  )
