-- The end of a block, as the call of a lane.
use Rattle.std.proofs.Common.{◌≡◌, inl, inr, ◌⊎◌, ℕ, suc, ◌+◌, ◌<◌, ◌/◌, ◌%◌, Bool, true, false, List, [], ◌∷◌, ◌++◌, length, map, refl, sym, ap, subst, ◌∙◌, arith}
use Rattle.std.specs.Int.{bit_at}
use Rattle.std.specs.Int.Bits.{bit_and}
use Rattle.std.proofs.lemmas.Nat.Bits.{bit_at-suc, bit_at-lt, bit_at_and, bit_at_ones}
use Rattle.std.proofs.lemmas.Bool.{ne_eqb}
use Rattle.std.proofs.lemmas.Bool.Decides.{eqb_tells}
use base.Growing.{prefix_trans}
use Rattle.atomic_table.specs.Table.{Me}
use Rattle.atomic_table.specs.Seated.{TableId}
use Rattle.ext_history.specs.Histories.{seen, seen_by, moved, call_fronts}
use Rattle.ext_history.proofs.Composed.{calls_moved}
use Rattle.ext_history.proofs.Fronts.{moved_seen, moved_once}
use Rattle.ext_model.specs.declared.event.Act.{Act}
use Rattle.ext_model.specs.declared.event.Act.TheVariants.{Seal}
use Rattle.ext_model.specs.Closing.{IsSealedUnused}
use Rattle.ext_model.specs.History.{History, Limits, lane_of}
use Rattle.ext_model.specs.CallActs.{LaneView, Calls, GoesOn}
use Rattle.ext_cells.specs.declared.view.View.{View}
use Rattle.ext_cells.specs.Standings.{Open, Ended, MayEnd, seals}
use Rattle.ext_cells.specs.InnerViews.{limits_of}
use Rattle.ext_cells.specs.InnerTableSteps.{EndOf}
use Rattle.ext_cells.specs.InnerMarks.{block_index, is_ended, mark_of, has_mark, standing_by, standing_in, marks}
use Rattle.ext_cells.proofs.SealsAtOnce.{end_legal, end_own}
use Rattle.ext_cells.proofs.Marked.{tells_of, tells_so}
use Rattle.ext_cells.proofs.MarkedBlocks.{when_open}
use Rattle.ext_cells.specs.Lanes.{Lane}
use Rattle.ext_cells.specs.CellCalls.{EndsBlock}
use Rattle.ext_cells.proofs.Lanes.{IsLaneView, lane_of as lane_with, stays_lane}

-- ---- marks

bit_of : (found cell : ℕ) → bit_at (found / 2) (cell % 32) ≡ bit_at found (mark_of cell)
bit_of found cell = sym (bit_at-suc found (cell % 32)) ∙ ap (bit_at found) (let e : suc (cell % 32) ≡ cell % 32 + 1 = omega arith in e)

no_mark : (found cell : ℕ) → has_mark found cell ≡ false → bit_at (found / 2) (cell % 32) ≡ 0
no_mark found cell isnt = bit_of found cell ∙ elim (eqb_tells (bit_at found (mark_of cell)) 1) [
  | inl t ↦ absurd (both t.0 isnt)
  | inr t ↦ let ne = t.1 in let few = bit_at-lt found (mark_of cell) in omega (arith, ne, few)
]
  where
    both : {b : Bool} → b ≡ true → b ≡ false → ⊥
    both p q = cc

unmarked : (found cell : ℕ) → bit_at (found / 2) (cell % 32) ≡ 0 → has_mark found cell ≡ false
unmarked found cell zero_is = let bit = bit_of found cell in ne_eqb (bit_at found (mark_of cell)) 1 (λ e. absurd (omega (arith, bit, zero_is, e)))

-- the answer has the first 32 of them
pub low_bits : (found k : ℕ) → k < 32 → bit_at (bit_and (found / 2) 4294967295) k ≡ bit_at (found / 2) k
low_bits found k few =
    let all = bit_at_and (found / 2) 4294967295 k in
    let one : bit_at 4294967295 k ≡ 1 = bit_at_ones 32 k few in
    let most = bit_at-lt (found / 2) k in omega (arith, all, one, most)

block_of : (cells block index cell : ℕ) → index ≡ cells + 16 + block → block_index cells cell ≡ index → cell / 32 ≡ block
block_of cells block index cell at here = omega (arith, at, here)

in_block : (cells block index cell : ℕ) → index ≡ cells + 16 + block → cell / 32 ≡ block → block_index cells cell ≡ index
in_block cells block index cell at here = omega (arith, at, here)

-- a cell without a mark is open, or has ended
left : (ended : Bool) (cell : ℕ) → (standing_by false ended cell ≡ Open) ⊎ (standing_by false ended cell ≡ Ended)
left true cell = inr refl
left false cell = inl refl

stands_left : (found cell : ℕ) → has_mark found cell ≡ false → (standing_in found cell ≡ Open) ⊎ (standing_in found cell ≡ Ended)
stands_left found cell isnt = elim (left (is_ended found) cell) [
  | inl p ↦ inl (ap (λ b. standing_by b (is_ended found) cell) isnt ∙ p)
  | inr p ↦ inr (ap (λ b. standing_by b (is_ended found) cell) isnt ∙ p)
]

-- ---- the call

ended_calls : (limits : Limits) (lane : LaneView) (h : History) (cells : List ℕ) → GoesOn limits lane h → lane.number < limits.lanes → MayEnd limits h cells → Calls limits lane (moved lane ((h ++ seals lane.number cells) ∷ [])) (map Seal cells)
ended_calls limits lane h cells on below may =
    let n = lane.number in let events = seals n cells in
    calls_moved lane_of lane ((h ++ events) ∷ []) events (prefix_trans (seen_by lane) h (h ++ events) on.begins (events, refl), tt) (end_own h n cells ∙ ap (λ z. z ++ events) on.own_same)

module _ (table table' : TableId) (me after : Me (Act ℕ) View) (number block index found marks_are : ℕ) (lane : Lane) (is : lane_with table me.0 number ≡ lane) (inv : IsLaneView me.0 number) (same : table' ≡ table)
    (at : index ≡ me.0.limits.cells + 16 + block) (bits : (k : ℕ) → k < 32 → bit_at marks_are k ≡ bit_at (found / 2) k) (did : EndOf (marks me.0.limits.cells) me after number index found) where
  abbrev limits : Limits
  limits = limits_of me.0.limits

  abbrev old : LaneView
  old = record { number = number; fronts = me.0.fronts }

  abbrev new_history : History
  new_history = did.history ++ seals number did.cells

  moved_is : lane_with table' after.0 number ≡ record { cells = record { table = table; limits = limits }; view = moved old (new_history ∷ []) }
  moved_is = λ i. lane_with (same i) (ap (λ z. z.0) did.after_is i) number

  ends_of : EndsBlock (lane_with table me.0 number) (record { cells = record { table = table; limits = limits }; view = moved old (new_history ∷ []) }) block marks_are
  ends_of = record {
    cells = did.cells;
    calls = ended_calls limits old did.history did.cells (record { legal = did.legal; begins = did.begins; own_same = did.own_is }) did.lane_is did.may;
    past = did.history;
    seals = moved_seen old (new_history ∷ []);
    may = did.may;
    within = λ cell there.
        let t = tells_of limits index found cell Open (did.opened cell there) in
        record { block_is = block_of me.0.limits.cells block index cell at t.0; mark = bits (cell % 32) (omega arith) ∙ no_mark found cell (when_open (has_mark found cell) (is_ended found) cell t.1).0 };
    sealed = λ cell less none.
        let isnt = unmarked found cell (sym (bits (cell % 32) (omega arith)) ∙ none.mark) in
        let here = in_block me.0.limits.cells block index cell at none.block_is in
        let ended : IsSealedUnused new_history cell = did.ended cell less (elim (stands_left found cell isnt) [
          | inl p ↦ inl (tells_so limits index found cell Open here p)
          | inr p ↦ inr (tells_so limits index found cell Ended here p)
        ]) in
        subst (λ (h : History). IsSealedUnused h cell) (sym (moved_seen old (new_history ∷ []))) ended;
  }

  pub ends_block : EndsBlock lane (lane_with table' after.0 number) block marks_are
  ends_block = subst (λ l. EndsBlock l (lane_with table' after.0 number) block marks_are) is (subst (λ l. EndsBlock (lane_with table me.0 number) l block marks_are) (sym moved_is) ends_of)

  pub end_stays : IsLaneView after.0 number
  end_stays = stays_lane me.0 after.0 new_history number inv (end_legal limits did.history number did.cells did.legal did.lane_is did.may) (prefix_trans (seen me.0.fronts) did.history new_history did.begins (seals number did.cells, refl)) (ap (λ z. z.0) did.after_is)

  pub end_cells : (lane_with table' after.0 number).cells ≡ lane.cells
  end_cells = ap (λ (l : Lane). l.cells) moved_is ∙ ap (λ (l : Lane). l.cells) is

  pub end_steps : length (call_fronts lane.view (lane_with table' after.0 number).view) ≡ 1
  end_steps = subst (λ (l : Lane). length (call_fronts l.view (lane_with table' after.0 number).view) ≡ 1) is
      (subst (λ (l : Lane). length (call_fronts old l.view) ≡ 1) (sym moved_is) (moved_once old new_history))
