-- Marks are a layout.
use Rattle.std.proofs.Common.{◌≡◌, ◌≢◌, ℕ, ◌^◌, ◌<◌, ◌≤◌, ◌⊎◌, inl, inr, Bool, true, false, List, length, get_or, set, get_or-set_same, get_or-set_other, refl, ap, sym, subst, ◌∙◌, arith, nat_eq, eq-eqb, Option, Some, None}
use Rattle.std.specs.Prelude.{if◌then◌else◌, nat_lt, replicate}
use Rattle.std.proofs.lemmas.Nat.{le_or_l}
use Rattle.std.proofs.lemmas.Nat.Bits.{bit_at-zero}
use Rattle.std.proofs.lemmas.Bool.Decides.{eqb_tells}
use Rattle.ext_history.proofs.Lists.{at_zeros}
use Rattle.ext_model.specs.History.{Limits}
use Rattle.ext_cells.specs.Standings.{Standing, At, Open}
use Rattle.ext_cells.specs.InnerLayouts.{IsLayout, IsMarking, IsEnding}
use Rattle.ext_cells.specs.InnerTableSteps.{OnlyAt}
use Rattle.ext_cells.specs.InnerMarks.{block_index, is_ended, end_of, mark_of, has_mark, with_mark, standing_by, standing_in, stands, all_below, is_bare, marks}
use Rattle.ext_cells.proofs.Passing.{not_both, not_behind, behind, in_front, to_all, from_all, if_true, passing, from_passing, to_passing, passing_distinct}
use Rattle.ext_cells.proofs.MarkedBlocks.{own_index, when_open, marked_stands, mark_is_set, mark_leaves, mark_leaves_others, end_leaves, is_open, open_is, after_end, ended_in, marks_differ, bare_by, bare_if_marked, bare_if_zero, bare_word}

-- ---- the words after one block's word has changed

module _ (cells : ℕ) (words : List ℕ) (index next : ℕ) (past : cells < index) (fits : index < length words) where
  abbrev later : List ℕ
  later = set words index next

  block_here : (cell : ℕ) → block_index cells cell ≡ index → get_or later (block_index cells cell) 0 ≡ next
  block_here cell same = ap (λ n. get_or later n 0) same ∙ get_or-set_same words index next 0 fits

  block_off : (cell : ℕ) → block_index cells cell ≢ index → get_or later (block_index cells cell) 0 ≡ get_or words (block_index cells cell) 0
  block_off cell ne = get_or-set_other words index (block_index cells cell) next 0 ne

  cell_off : (cell : ℕ) → cell < cells → get_or later cell 0 ≡ get_or words cell 0
  cell_off cell less = get_or-set_other words index cell next 0 (λ e. absurd (omega (arith, less, past, e)))

  stands_here : (cell : ℕ) → block_index cells cell ≡ index → stands cells later cell ≡ standing_in next cell
  stands_here cell same = ap (λ n. standing_in n cell) (block_here cell same)

  stands_off : (cell : ℕ) → block_index cells cell ≢ index → stands cells later cell ≡ stands cells words cell
  stands_off cell ne = ap (λ n. standing_in n cell) (block_off cell ne)

  -- a cell that was bare is bare where its mark is as it was, or set
  stays_bare : (cell : ℕ) → cell < cells → is_bare cells words cell ≡ true
      → (block_index cells cell ≡ index → (has_mark next cell ≡ true) ⊎ (has_mark next cell ≡ has_mark (get_or words index 0) cell)) → is_bare cells later cell ≡ true
  stays_bare cell less was mark = elim (eqb_tells (block_index cells cell) index) [
    | inl t ↦ elim (mark t.1) [
      | inl set_now ↦ bare_if_marked (has_mark (get_or later (block_index cells cell) 0) cell) (get_or later cell 0) (ap (λ n. has_mark n cell) (block_here cell t.1) ∙ set_now)
      | inr same ↦
          let m : has_mark (get_or later (block_index cells cell) 0) cell ≡ has_mark (get_or words (block_index cells cell) 0) cell =
          ap (λ n. has_mark n cell) (block_here cell t.1) ∙ same ∙ ap (λ n. has_mark (get_or words n 0) cell) (sym t.1) in
          (λ i. bare_by (m i) (cell_off cell less i)) ∙ was
    ]
    | inr t ↦ (λ i. bare_by (has_mark (block_off cell t.1 i) cell) (cell_off cell less i)) ∙ was
  ]

-- ---- the layout

module _ (limits : Limits) where
  abbrev cells : ℕ
  cells = limits.cells

  abbrev told_by : Bool → ℕ → ℕ → Option Standing
  told_by here block cell = if here then Some (standing_in block cell) else None

  said : (here : Bool) (block cell : ℕ) (standing : Standing) → told_by here block cell ≡ Some standing → (here ≡ true) × (standing_in block cell ≡ standing)
  said true block cell standing is = (refl, one_standing is)
    where
      one_standing : {a b : Standing} → Some a ≡ Some b → a ≡ b
      one_standing e = cc e
  said false block cell standing is = absurd (cc is)

  same_index : (a b : ℕ) → nat_eq a b ≡ true → a ≡ b
  same_index a b is = elim (eqb_tells a b) [
    | inl t ↦ t.1
    | inr t ↦ absurd (not_both t.0 is)
  ]

  -- what a block's word says of a cell
  pub tells_of : (index block cell : ℕ) (standing : Standing) → told_by (nat_eq (block_index cells cell) index) block cell ≡ Some standing → (block_index cells cell ≡ index) × (standing_in block cell ≡ standing)
  tells_of index block cell standing is =
      let t = said (nat_eq (block_index cells cell) index) block cell standing is in (same_index (block_index cells cell) index t.0, t.1)

  pub tells_so : (index block cell : ℕ) (standing : Standing) → block_index cells cell ≡ index → standing_in block cell ≡ standing → told_by (nat_eq (block_index cells cell) index) block cell ≡ Some standing
  tells_so index block cell standing here is = ap (λ b. told_by b block cell) (eq-eqb (block_index cells cell) index here) ∙ ap Some is

  bare : (words : List ℕ) (cell : ℕ) → all_below (is_bare cells words) cells ≡ true → cell < cells → is_bare cells words cell ≡ true
  bare words cell sound less = from_all (is_bare cells words) cells cell sound less

  -- a word that is no block's changes: blocks are as they were
  block_stays : (words : List ℕ) (at next cell : ℕ) → nat_lt cells at ≡ false → get_or (set words at next) (block_index cells cell) 0 ≡ get_or words (block_index cells cell) 0
  block_stays words at next cell off = let front = in_front cells at off in get_or-set_other words at (block_index cells cell) next 0 (λ e. absurd (omega (arith, front, e)))

  bare_after : (words : List ℕ) (at next cell : ℕ) → nat_lt cells at ≡ false → is_bare cells words cell ≡ true
      → (cell ≡ at → has_mark (get_or words (block_index cells cell) 0) cell ≡ true) → is_bare cells (set words at next) cell ≡ true
  bare_after words at next cell off was marked = elim (eqb_tells cell at) [
    | inl t ↦ bare_if_marked (has_mark (get_or (set words at next) (block_index cells cell) 0) cell) (get_or (set words at next) cell 0)
        (ap (λ n. has_mark n cell) (block_stays words at next cell off) ∙ marked t.1)
    | inr t ↦ (λ i. bare_by (has_mark (block_stays words at next cell off i) cell) (get_or-set_other words at cell next 0 t.1 i)) ∙ was
  ]

  changes : (words : List ℕ) (cell at next : ℕ) → all_below (is_bare cells words) cells ≡ true → cell < cells → stands cells words cell ≡ At at → all_below (is_bare cells (set words at next)) cells ≡ true
  changes words cell at next sound less is =
      let own = own_index cells words cell at is in let here = own.0 in
      to_all (is_bare cells (set words at next)) cells
      (λ other fewer. bare_after words at next other (not_behind cells at (omega (arith, here, less))) (bare words other sound fewer)
      (λ same. subst (λ c. has_mark (get_or words (block_index cells c) 0) c ≡ true) (sym (same ∙ here)) own.1))

  draws : (words : List ℕ) (next : ℕ) → all_below (is_bare cells words) cells ≡ true → all_below (is_bare cells (set words cells next)) cells ≡ true
  draws words next sound =
      to_all (is_bare cells (set words cells next)) cells
      (λ other fewer. bare_after words cells next other (not_behind cells cells (omega arith)) (bare words other sound fewer) (λ same. absurd (omega (arith, fewer, same))))

  -- an open cell gets its mark
  marking : (words : List ℕ) (index cell : ℕ) → all_below (is_bare cells words) cells ≡ true → length words ≡ (marks cells).width → index < (marks cells).width → nat_lt cells index ≡ true → cell < cells
      → told_by (nat_eq (block_index cells cell) index) (get_or words index 0) cell ≡ Some Open
      → IsMarking limits (marks cells) words index cell (set words index (with_mark (get_or words index 0) cell))
  marking words index cell sound wide inside block less told =
      let n = get_or words index 0 in
      let next = with_mark n cell in
      let past : cells < index = behind cells index block in
      let fits : index < length words = omega (arith, wide, inside) in
      let t = tells_of index n cell Open told in
      let here : block_index cells cell ≡ index = t.0 in
      let clear : has_mark n cell ≡ false = (when_open (has_mark n cell) (is_ended n) cell t.1).0 in
      let now : get_or (set words index next) index 0 ≡ next = get_or-set_same words index next 0 fits in
      let grown : n ≤ next = le_or_l n (2 ^ mark_of cell) in record {
        index_is = cell;
        stands = stands_here cells words index next past fits cell here ∙ marked_stands next cell (mark_is_set n cell);
        told = ap (λ m. told_by (nat_eq (block_index cells cell) index) m cell) now ∙ tells_so index next cell (At cell) here (marked_stands next cell (mark_is_set n cell));
        empty = bare_word (has_mark (get_or words (block_index cells cell) 0) cell) (get_or words cell 0) (bare words cell sound less) (ap (λ m. has_mark (get_or words m 0) cell) here ∙ clear);
        free = λ other fewer is.
            let own = own_index cells words other cell is in
            not_both (ap (λ m. has_mark (get_or words m 0) cell) here ∙ clear) (subst (λ c. has_mark (get_or words (block_index cells c) 0) c ≡ true) (sym own.0) own.1);
        others = λ other fewer. elim (eqb_tells other cell) [
          | inl same ↦ inl same.1
          | inr differ ↦ inr (elim (eqb_tells (block_index cells other) index) [
            | inl beside ↦
                stands_here cells words index next past fits other beside.1
                ∙ mark_leaves_others n cell other (marks_differ cells cell other (beside.1 ∙ sym here) differ.1)
                ∙ ap (λ m. standing_in (get_or words m 0) other) (sym beside.1)
            | inr away ↦ stands_off cells words index next past fits other away.1
          ])
        ];
        within = (omega (arith, less), not_behind cells cell (omega (arith, less)));
        grows = subst (λ m. n ≤ m) (sym now) grown;
        sound = to_all (is_bare cells (set words index next)) cells (λ other fewer. stays_bare cells words index next past fits other fewer (bare words other sound fewer) (λ beside. elim (eqb_tells other cell) [
          | inl same ↦ inl (ap (has_mark next) same.1 ∙ mark_is_set n cell)
          | inr differ ↦ inr (mark_leaves n cell other (marks_differ cells cell other (beside ∙ sym here) differ.1))
        ]));
      }

  -- a block ends
  abbrev opened : ℕ → ℕ → ℕ → Bool
  opened index block cell = if nat_eq (block_index cells cell) index then is_open (standing_in block cell) else false

  ending : (words : List ℕ) (index : ℕ) → all_below (is_bare cells words) cells ≡ true → length words ≡ (marks cells).width → index < (marks cells).width → nat_lt cells index ≡ true
      → IsEnding limits (marks cells) words index (set words index (end_of (get_or words index 0)))
  ending words index sound wide inside block =
      let n = get_or words index 0 in
      let next = end_of n in
      let past : cells < index = behind cells index block in
      let fits : index < length words = omega (arith, wide, inside) in
      let now : get_or (set words index next) index 0 ≡ next = get_or-set_same words index next 0 fits in
      let grown : n ≤ next = le_or_l n 1 in record {
        cells = passing (opened index n) cells;
        distinct = passing_distinct (opened index n) cells;
        within = λ cell there. (from_passing (opened index n) cells cell there).below;
        told = λ cell there.
            let p = if_true (nat_eq (block_index cells cell) index) (is_open (standing_in n cell)) (from_passing (opened index n) cells cell there).passes in
            tells_so index n cell Open (same_index (block_index cells cell) index p.0) (open_is (standing_in n cell) p.1);
        all = λ cell less told.
            let t = tells_of index n cell Open told in
            to_passing (opened index n) cells cell less (ap (λ b. if b then is_open (standing_in n cell) else false) (eq-eqb (block_index cells cell) index t.0) ∙ ap is_open t.1);
        each = λ cell less. elim (eqb_tells (block_index cells cell) index) [
          | inl here ↦
              let is : stands cells (set words index next) cell ≡ standing_by (has_mark n cell) true cell = stands_here cells words index next past fits cell here.1 ∙ ended_in n cell in
              let was : stands cells words cell ≡ standing_in n cell = ap (λ m. standing_in (get_or words m 0) cell) here.1 in
              let tests : opened index n cell ≡ is_open (standing_in n cell) = ap (λ b. if b then is_open (standing_in n cell) else false) here.0 in
              elim (after_end (has_mark n cell) (is_ended n) cell) [
                | inl p ↦ inl (to_passing (opened index n) cells cell less (tests ∙ p.0), is ∙ p.1)
                | inr p ↦ inr ((λ there. not_both (tests ∙ p.0) (from_passing (opened index n) cells cell there).passes), is ∙ p.1 ∙ sym was)
              ]
          | inr away ↦ inr (
            (λ there. not_both (ap (λ b. if b then is_open (standing_in n cell) else false) away.0) (from_passing (opened index n) cells cell there).passes),
            stands_off cells words index next past fits cell away.1,
          )
        ];
        grows = subst (λ m. n ≤ m) (sym now) grown;
        sound = to_all (is_bare cells (set words index next)) cells (λ other fewer. stays_bare cells words index next past fits other fewer (bare words other sound fewer) (λ beside. inr (end_leaves n other)));
      }

  zeros_bare : (cell : ℕ) → is_bare cells (replicate (marks cells).width 0) cell ≡ true
  zeros_bare cell = let zero_block = replicate (marks cells).width 0 in bare_if_zero (has_mark (get_or zero_block (block_index cells cell) 0) cell) (get_or zero_block cell 0) (at_zeros (marks cells).width cell)

  zero_open : (block cell : ℕ) → block ≡ 0 → standing_in block cell ≡ Open
  zero_open block cell is =
      let marked : has_mark block cell ≡ false = ap (λ n. has_mark n cell) is ∙ ap (λ n. nat_eq n 1) (bit_at-zero (mark_of cell)) in
      let ended : is_ended block ≡ false = ap is_ended is ∙ ap (λ n. nat_eq n 1) (bit_at-zero 0) in
      (λ i. standing_by (marked i) (ended i) cell)

  pub is_layout : IsLayout limits (marks limits.cells)
  is_layout = record {
    opening = to_all (is_bare cells (replicate (marks cells).width 0)) cells (λ cell less. zeros_bare cell);
    all_open = λ cell less. zero_open (get_or (replicate (marks cells).width 0) (block_index cells cell) 0) cell (at_zeros (marks cells).width (block_index cells cell));
    count_is = (omega arith, not_behind cells cells (omega arith));
    indices = λ words cell at sound less is. let own = (own_index cells words cell at is).0 in (omega (arith, own, less), not_behind cells at (omega (arith, own, less)), (λ e. absurd (omega (arith, own, less, e))));
    steady = λ words at next cell off. ap (λ n. standing_in n cell) (block_stays words at next cell off);
    told = λ words index cell standing sound less told. let t = tells_of index (get_or words index 0) cell standing told in ap (λ n. standing_in (get_or words n 0) cell) t.0 ∙ t.1;
    changes = changes;
    draws = draws;
    marking = marking;
    ending = ending;
  }

pub only_index : (cells cell : ℕ) → OnlyAt (marks cells) cell cell
only_index cells cell words at sound is = (own_index cells words cell at is).0

pub block_tells : (cells block cell : ℕ) → (marks cells).tells (block_index cells cell) block cell ≡ Some (standing_in block cell)
block_tells cells block cell = ap (λ b. if b then Some (standing_in block cell) else None) (eq-eqb (block_index cells cell) (block_index cells cell) refl)
