-- The cells that rows have in one column, and what a look-up along them read.
use Rattle.std.proofs.Common.{◌≡◌, ◌≢◌, ◌+◌, ◌-◌, ◌*◌, ◌/◌, ◌^◌, ◌<◌, ◌≤◌, ℕ, List, [], ◌∷◌, ◌++◌, take, drop, get_or, length, sym, ap, ◌∙◌, subst, arith, nat_eq, Option, Some}
use Rattle.std.proofs.Math.Nat.{mul-div_cancel}
use Rattle.std.specs.Prelude.{All, IfNone, IfSome, sum_by}
use Rattle.std.specs.List.{IsDistinct}
use Rattle.std.proofs.lemmas.List.{drop-map, get_or-map, length-drop, length-map, take-map, take_all}
use Rattle.std.proofs.lemmas.List.Elements.{All-drop, All-take}
use Rattle.std.proofs.lemmas.List.Sums.{sum_by-append, sum_by-cons}
use Rattle.std.proofs.lemmas.Bool.Decides.{Decides-eqb}
use Rattle.std.proofs.lemmas.Map.Made.{AllPairs-from_IsDistinct, IsDistinct-from_AllPairs}
use Rattle.ext_model.specs.History.{History, Limits}
use Rattle.ext_history.specs.Histories.{call_fronts, moved}
use Rattle.ext_model.specs.CallActs.{LaneView}
use Rattle.ext_cells.specs.declared.nearest.EmptyCells.{EmptyCells}
use Rattle.ext_cells.specs.declared.nearest.Nearest.{Nearest}
use Rattle.ext_cells.specs.Lanes.{CellsId, Lane}
use Rattle.ext_cells.specs.WordChanges.{IsEmptyWord, version_in}
use Rattle.ext_cells.specs.CellCalls.{cell_at, cells_in, StoodNearest}
use Rattle.ext_cells.specs.InnerPasses.{FirstPass, ReadPass, Says}
use Rattle.ext_cells.specs.InnerSteps.{Finds}
use Rattle.ext_cells.proofs.Collecting.{known_at, pass_more, take_next, Passes}
use Rattle.ext_cells.proofs.Readings.{begun_here, still_nearest, within_two}

pub cells_length : (rows : List ℕ) (width column : ℕ) → length (cells_in rows width column) ≡ length rows
cells_length rows width column = length-map rows (cell_at width column)

cell_is : (rows : List ℕ) (width column i d : ℕ) → i < length rows → get_or (cells_in rows width column) i d ≡ cell_at width column (get_or rows i 0)
cell_is rows width column i d within = get_or-map (cell_at width column) rows i 0 d within

pub row_known : (n : ℕ) (rows : List ℕ) (width column i : ℕ) → All (λ cell. cell < n) (cells_in rows width column) → i < length rows → cell_at width column (get_or rows i 0) < n
row_known n rows width column i known within =
    let long = cells_length rows width column in
    subst (λ cell. cell < n) (cell_is rows width column i 0 within) (known_at n (cells_in rows width column) i known (omega (arith, long, within)))

-- the cells of different rows differ
pub cells_apart : (rows : List ℕ) (width column : ℕ) → 1 ≤ width → IsDistinct nat_eq rows → IsDistinct nat_eq (cells_in rows width column)
cells_apart rows width column some apart =
    IsDistinct-from_AllPairs Decides-eqb (cells_in rows width column) (λ i j d less within same.
    let long = cells_length rows width column in
    let first = cell_is rows width column i d (omega (arith, less, within, long)) in
    let second = cell_is rows width column j d (omega (arith, within, long)) in
    let products : get_or rows i 0 * width ≡ get_or rows j 0 * width = omega (arith, first, second, same) in
    let rows_same : get_or rows i 0 ≡ get_or rows j 0 = sym (mul-div_cancel (get_or rows i 0) some) ∙ (ap (λ n. n / width) products ∙ mul-div_cancel (get_or rows j 0) some) in
    AllPairs-from_IsDistinct Decides-eqb rows apart i j 0 less (omega (arith, within, long)) rows_same)

-- the cell of one row more is read
pub row_more : (limits : Limits) (before now next : LaneView) (rows words : List ℕ) (width column i w : ℕ) (h : History) → All (λ cell. cell < limits.cells) (cells_in rows width column) → i < length rows
    → ReadPass limits before now (take i (cells_in rows width column)) words → Finds limits now (cell_at width column (get_or rows i 0)) w h → next ≡ moved now (h ∷ [])
    → ReadPass limits before next (take (i + 1) (cells_in rows width column)) (words ++ w ∷ [])
row_more limits before now next rows words width column i w h known within pass finds is =
    let long = cells_length rows width column in
    let inside : i < length (cells_in rows width column) = omega (arith, long, within) in
    let found : Finds limits now (get_or (cells_in rows width column) i 0) w h = subst (λ cell. Finds limits now cell w h) (sym (cell_is rows width column i 0 within)) finds in
    subst (λ cells. ReadPass limits before next cells (words ++ w ∷ [])) (sym (take_next (cells_in rows width column) i inside))
    (pass_more limits before now next (take i (cells_in rows width column)) words (get_or (cells_in rows width column) i 0) w h pass (known_at limits.cells (cells_in rows width column) i known inside) found is)

-- its version is added, and a fresh cell has none
pub version_added : (words : List ℕ) (word versions more : ℕ) → versions ≡ sum_by version_in words → more ≡ version_in word → versions + more ≡ sum_by version_in (words ++ word ∷ [])
version_added words word versions more was is = omega (arith, sum_by-append version_in words (word ∷ []), sum_by-cons version_in word [], was, is)

pub none_added : (words : List ℕ) (word versions : ℕ) → versions ≡ sum_by version_in words → word ≡ 0 → versions ≡ sum_by version_in (words ++ word ∷ [])
none_added words word versions was fresh = let none : version_in word ≡ 0 = ap version_in fresh in omega (arith, version_added words word versions 0 was (sym none))

-- ---- slices of the rows

take_in : (rows : List ℕ) (width column count : ℕ) → cells_in (take count rows) width column ≡ take count (cells_in rows width column)
take_in rows width column count = sym (take-map (cell_at width column) count rows)

-- the rows behind so many, as a slice has them
rest_in : (rows : List ℕ) (width column count : ℕ) → cells_in (take (length rows - count) (drop count rows)) width column ≡ drop count (cells_in rows width column)
rest_in rows width column count =
    let left = length-drop count rows in
    let all : take (length rows - count) (drop count rows) ≡ drop count rows = take_all (length rows - count) (drop count rows) (omega (arith, left)) in
    ap (λ rest. cells_in rest width column) all ∙ sym (drop-map (cell_at width column) count rows)

pub take_known : (n : ℕ) (rows : List ℕ) (width column count : ℕ) → All (λ cell. cell < n) (cells_in rows width column) → All (λ cell. cell < n) (cells_in (take count rows) width column)
take_known n rows width column count known = subst (All (λ cell. cell < n)) (sym (take_in rows width column count)) (All-take (λ cell. cell < n) count (cells_in rows width column) known)

pub rest_known : (n : ℕ) (rows : List ℕ) (width column count : ℕ) → All (λ cell. cell < n) (cells_in rows width column) → All (λ cell. cell < n) (cells_in (take (length rows - count) (drop count rows)) width column)
rest_known n rows width column count known = subst (All (λ cell. cell < n)) (sym (rest_in rows width column count)) (All-drop (λ cell. cell < n) count (cells_in rows width column) known)

-- ---- the first pass, and the one over its empty cells

-- a pass over these cells with this lane, and the sum of the versions in its words
abbrev pub ReadsOn : Lane → Lane → List ℕ → ℕ → Type 0
ReadsOn before after cells versions = (words : List ℕ) × ReadPass before.cells.limits before.view after.view cells words × (versions ≡ sum_by version_in words)

module _ (id : CellsId) (x mid y : Lane) (rows : List ℕ) (width column : ℕ) (empty : EmptyCells) (again : ℕ) (own : x.cells ≡ id) (few : id.limits.numbers < 2 ^ 20) (known : All (λ cell. cell < id.limits.cells) (cells_in rows width column))
    (first_own : mid.cells ≡ x.cells) (first : FirstPass x.cells.limits x.view mid.view (cells_in rows width column) empty) (more : ReadsOn mid y (cells_in (take empty.count rows) width column) again) where
  few_own : x.cells.limits.numbers < 2 ^ 20
  few_own = subst (λ z. z.limits.numbers < 2 ^ 20) (sym own) few

  known_own : All (λ cell. cell < x.cells.limits.cells) (cells_in rows width column)
  known_own = subst (λ z. All (λ cell. cell < z.limits.cells) (cells_in rows width column)) (sym own) known

  on : ReadPass x.cells.limits mid.view y.view (take empty.count (cells_in rows width column)) more.0
  on = subst (λ z. ReadPass z.limits mid.view y.view (take empty.count (cells_in rows width column)) more.0) first_own (subst (λ cells. ReadPass mid.cells.limits mid.view y.view cells more.0) (take_in rows width column empty.count) more.1)

  -- these cells had no event: what stands behind them is the nearest, if anything does,
  pub rows_nearest : again ≡ empty.versions → (nearest : Option Nearest) → IfNone nearest (IsEmptyWord empty.behind) → IfSome nearest (λ n. (n.index ≡ empty.count) × Says empty.behind (Some n.standing))
      → StoodNearest x y (cells_in rows width column) nearest × ((tries : ℕ) → 1 ≤ tries → length (call_fronts x.view y.view) ≤ length rows * (tries + 1))
  rows_nearest e nearest none some =
      let still = still_nearest x y mid.view (cells_in rows width column) empty again few_own known_own first more.0 on more.2 e nearest none some in
      let steps = still.1 in
      let long = cells_length rows width column in
      (still.0, λ tries least. within_two (length rows) tries _ least (omega (arith, steps, long)))

  -- or they had one: a pass over all cells has begun, and went on behind them
  pub rows_begun : (last : Lane) (rest : ℕ) → again ≢ empty.versions → y.cells ≡ mid.cells → ReadsOn y last (cells_in (take (length rows - empty.count) (drop empty.count rows)) width column) rest
      → (words : List ℕ) × (again + rest ≡ sum_by version_in words) × Passes x.cells.limits x.view last.view (cells_in rows width column) words 1
  rows_begun last rest differs same behind =
      let added = sum_by-append version_in more.0 behind.0 in
      let one = more.2 in
      let two = behind.2 in
      let slice = subst (λ cells. ReadPass y.cells.limits y.view last.view cells behind.0) (rest_in rows width column empty.count) behind.1 in
      let four = subst (λ z. ReadPass z.limits y.view last.view (drop empty.count (cells_in rows width column)) behind.0) (same ∙ first_own) slice in (
        more.0 ++ behind.0,
        omega (arith, added, one, two),
        begun_here x y mid.view (cells_in rows width column) empty again few_own known_own first more.0 on more.2 last.view behind.0 differs four,
      )
