-- The blocks of a context's keys are those of its cells.
use Rattle.std.proofs.Common.{◌≡◌, ◌≤◌, ◌<◌, ◌/◌, ◌%◌, ◌+◌, ◌*◌, ◌-◌, ℕ, List, [], ◌∷◌, length, map, refl, ap, sym, subst, ◌∙◌, arith, Contains}
use Rattle.std.specs.Int.{bit_at}
use Rattle.std.proofs.Math.Nat.{mul-le-mul_right, mul_assoc}
use Rattle.ext_history.specs.Histories.{seen_by}
use Rattle.ext_history.proofs.Lists.{contains_here, contains_later}
use Rattle.ext_history.proofs.Once.{Once, contains-from_map, distinct_from_once, once_from_distinct}
use Rattle.ext_model.specs.declared.event.Act.TheVariants.{Seal}
use Rattle.ext_model.specs.Closing.{IsSealedUnused}
use Rattle.ext_model.specs.CallActs.{Calls}
use Rattle.ext_cells.specs.Lanes.{Lane}
use Rattle.ext_cells.specs.CellCalls.{EndsBlock, IsUnmarked}
use Rattle.ext_store_core.specs.ContextCalls.{ContextCells, SealsUnused, cell_in, seals_of}

-- a context's cells
pub cells_fit : (store : ContextCells) (context limit : ℕ) → limit ≡ length store.tree * length store.keys → context < length store.tree → context * length store.keys + length store.keys ≤ limit
cells_fit store context limit is inside =
    let most = mul-le-mul_right {m = context + 1} {n = length store.tree} (length store.keys) (omega (arith, inside)) in
    omega (arith, is, most)

module _ (store : ContextCells) (context width block : ℕ) (all : length store.keys ≡ width * 32) where
  -- the first block of the context
  abbrev first : ℕ
  first = context * width

  -- the key of a cell of the block
  abbrev key_of : ℕ → ℕ
  key_of cell = cell - first * 32

  base_is : context * length store.keys ≡ first * 32
  base_is = ap (λ n. context * n) all ∙ sym (mul_assoc context width 32)

  pub block_fits : (limit : ℕ) → block * 32 < length store.keys → context * length store.keys + length store.keys ≤ limit → (first + block) * 32 < limit
  block_fits limit less fits = let base = base_is in omega (arith, less, fits, base)

  cell_is : (key : ℕ) → cell_in store key context ≡ first * 32 + key
  cell_is key = ap (λ n. n + key) base_is

  cell_of : (cell : ℕ) → cell / 32 ≡ first + block → cell ≡ cell_in store (key_of cell) context
  cell_of cell here = let e : cell ≡ first * 32 + (cell - first * 32) = omega (arith, here) in e ∙ sym (cell_is (key_of cell))

  same_acts : (cells : List ℕ) → ((cell : ℕ) → Contains cells cell → cell / 32 ≡ first + block) → map Seal cells ≡ seals_of store context (map key_of cells)
  same_acts [] blocks = refl
  same_acts (cell ∷ cells) blocks =
      let here = cell_of cell (blocks cell (contains_here cell cells)) in
      let later = same_acts cells (λ other there. blocks other (contains_later cell cells other there)) in
      λ i. Seal (here i) ∷ later i

  unmarked_key : (marks cell : ℕ) → IsUnmarked (first + block) marks cell → IsUnmarked block marks (key_of cell)
  unmarked_key marks cell none =
      let here = none.block_is in
      let same : cell % 32 ≡ (cell - first * 32) % 32 = omega (arith, here) in
      record { block_is = omega (arith, here); mark = subst (λ k. bit_at marks k ≡ 0) same none.mark }

  unmarked_cell : (marks key : ℕ) → IsUnmarked block marks key → IsUnmarked (first + block) marks (first * 32 + key)
  unmarked_cell marks key none =
      let here = none.block_is in
      let same : key % 32 ≡ (first * 32 + key) % 32 = omega arith in
      record { block_is = omega (arith, here); mark = subst (λ k. bit_at marks k ≡ 0) same none.mark }

  once_keys : (cells : List ℕ) → ((cell : ℕ) → Contains cells cell → cell / 32 ≡ first + block) → Once cells → Once (map key_of cells)
  once_keys [] blocks once = tt
  once_keys (cell ∷ cells) blocks once = (
    (λ there.
        let r = contains-from_map key_of cells (key_of cell) there in
        let here = blocks cell (contains_here cell cells) in
        let other = blocks r.0 (contains_later cell cells r.0 r.1) in
        let images = r.2 in
        let same : r.0 ≡ cell = omega (arith, here, other, images) in
        once.0 (subst (Contains cells) same r.1)),
    once_keys cells (λ other there. blocks other (contains_later cell cells other there)) once.1,
  )

  module _ (marks : ℕ) (before after : Lane) (ends : EndsBlock before after (first + block) marks) (below : block < width) (within : context * length store.keys + length store.keys ≤ before.cells.limits.cells) where
    blocks_are : (cell : ℕ) → Contains ends.cells cell → cell / 32 ≡ first + block
    blocks_are cell there = (ends.within cell there).block_is

    pub seals_unused : SealsUnused store context block marks before after
    seals_unused = record {
      sealed = map key_of ends.cells;
      once = distinct_from_once (map key_of ends.cells) (once_keys ends.cells blocks_are (once_from_distinct ends.cells ends.may.distinct));
      calls = subst (λ acts. Calls before.cells.limits before.view after.view acts) (same_acts ends.cells blocks_are) ends.calls;
      unmarked = λ key there.
          let r = contains-from_map key_of ends.cells key there in
          subst (IsUnmarked block marks) r.2 (unmarked_key marks r.0 (ends.within r.0 r.1));
      unused = λ key none.
          let here = none.block_is in
          let base = base_is in
          subst (IsSealedUnused (seen_by after.view)) (sym (cell_is key))
          (ends.sealed (first * 32 + key) (omega (arith, here, below, within, all, base)) (unmarked_cell marks key none));
    }
