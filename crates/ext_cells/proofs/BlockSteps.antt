-- Each step of a lane on a block's word keeps the rule, and tells what it found.
use Rattle.std.proofs.Common.{◌≡◌, ⊎_elim, ◌⊎◌, inl, inr, ℕ, ◌<◌, ◌≤◌, eqb, false, List, ◌++◌, get_or, set, arith, refl, sym, ap, ◌∙◌, subst, Some, Contains, true, get_or-set_same, get_or-set_other, length-set}
use mathlib.Core.Option.{some, none}
use mathlib.Core.Logic.{dite}
use native.Mathlib.Decide.{ℕ_discrete}
use base.Growing.{prefix_refl}
use prog.Atomic.{either}
use lib.ListN.{get_elem?}
use Rattle.atomic_table.specs.Table.{State, Me, step, keeps, stepped, Allows, Valid, carried_after, Act as TableAct}
use Rattle.atomic_table.proofs.Lists.{exchanged}
use Rattle.ext_model.specs.declared.event.Act.{Act}
use Rattle.ext_model.specs.Closing.{IsSealedUnused}
use Rattle.ext_model.specs.History.{History, state_after, IsLegal}
use Rattle.ext_cells.specs.declared.limits.CellLimits.{CellLimits}
use Rattle.ext_cells.specs.declared.view.View.{View}
use Rattle.ext_cells.specs.Standings.{Standing, At, Open, Ended, ended_word, IsCellAt, MayEnd, seals}
use Rattle.ext_cells.specs.InnerLayouts.{Layout, IsLayout, IsMarking, IsEnding}
use Rattle.ext_cells.specs.InnerViews.{limits_of, shown, led, sought}
use Rattle.ext_cells.specs.InnerRule.{Fits, Kept}
use Rattle.ext_cells.specs.InnerTableSteps.{Counts, IsWordAt, Shows, LedTo, Led, SoughtBy, Sought, Marked, EndOf, EndedBy}
use Rattle.ext_cells.proofs.SealsAtOnce.{slots_elsewhere, versions_elsewhere, drawn_stays, end_legal, end_seals, end_others}
use Rattle.ext_cells.proofs.Standings as standing
use Rattle.ext_cells.proofs.Known.{word_told, found}
use Rattle.ext_cells.proofs.Passing.{not_both}
use Rattle.ext_cells.proofs.Going.{Keeps, Follows, fits_shown, fits_stays, fits_led, fits_sought, shown_draws, goes_on, looks}
use Rattle.ext_cells.proofs.WordSteps.{one_lane, shows}

-- ---- a block's word

module _ (limits : CellLimits) (l : Layout) (lay : IsLayout (limits_of limits) l) (s : State (Act ℕ) View) (k : Kept limits l s) (slots id : ℕ) (me : Me (Act ℕ) View) (at : get_elem? s.views id ≡ some me.0)
    (cell index lane : ℕ) (mine : me.0.lane ≡ Some lane) (less : cell < limits.cells) where
  abbrev block : ℕ
  block = get_or s.words index 0

  -- the table after a step that only looks
  abbrev Looks : (Me (Act ℕ) View → Type 0) → Type 0
  Looks then = (w : View) × (a : TableAct (Act ℕ)) × Valid s.homes me.1 a × Kept limits l (stepped s index block id me.1 w a) × then (w, carried_after me.1 a)

  -- the block's word tells nothing but how the cell stands
  truly : (is standing : Standing) → l.stands s.words cell ≡ is → l.tells index block cell ≡ Some standing → is ≡ standing
  truly is standing e told = sym e ∙ lay.told s.words index cell standing k.sound less told

  shows_word : (is : Standing) (word : ℕ) → l.stands s.words cell ≡ is → IsWordAt (limits_of limits) k.history cell word → Shows cell word me (shown me.0 k.history, me.1)
  shows_word is word e w = (k.history, found limits l s k id cell word me.0 lane mine at w, refl)

  led_here : (there : ℕ) → l.stands s.words cell ≡ At there → Kept limits l (record { words = set s.words index block; homes = s.homes; views = set s.views id (led me.0 cell there) })
  led_here there is =
      looks limits l s k id me.0 (led me.0 cell there) at refl refl (omega arith) index (fits_led limits l s.words k.history me.0 cell there (k.fits id me.0 at) (record { within = less; stands = is }))

  lead : (is : Standing) → l.stands s.words cell ≡ is → Looks (λ after. (standing : Standing) → l.tells index block cell ≡ Some standing → LedTo cell standing me after)
  lead (At there) e = (
    led me.0 cell there,
    keeps,
    tt,
    led_here there e,
    λ standing told. subst (λ x. LedTo cell x me (led me.0 cell there, me.1)) (truly (At there) standing e told) refl,
  )
  lead Open e = (
    shown me.0 k.history,
    keeps,
    tt,
    shows limits l s k id index me.0 at,
    λ standing told. subst (λ x. LedTo cell x me (shown me.0 k.history, me.1)) (truly Open standing e told)
        (shows_word Open 0 e (word_told (limits_of limits) (l.stands s.words) k.history s.words cell Open k.cells_are less e)),
  )
  lead Ended e = (
    shown me.0 k.history,
    keeps,
    tt,
    shows limits l s k id index me.0 at,
    λ standing told. subst (λ x. LedTo cell x me (shown me.0 k.history, me.1)) (truly Ended standing e told)
        (shows_word Ended ended_word e (word_told (limits_of limits) (l.stands s.words) k.history s.words cell Ended k.cells_are less e)),
  )

  seek : (is : Standing) → l.stands s.words cell ≡ is → Looks (λ after. (standing : Standing) → l.tells index block cell ≡ Some standing → SoughtBy cell standing index block me after)
  seek (At there) e = (
    led me.0 cell there,
    keeps,
    tt,
    led_here there e,
    λ standing told. subst (λ x. SoughtBy cell x index block me (led me.0 cell there, me.1)) (truly (At there) standing e told) refl,
  )
  seek Open e = (
    sought me.0 index block,
    keeps,
    tt,
    looks limits l s k id me.0 (sought me.0 index block) at refl refl (omega arith) index (fits_sought limits l s.words k.history me.0 index (k.fits id me.0 at)),
    λ standing told. subst (λ x. SoughtBy cell x index block me (sought me.0 index block, me.1)) (truly Open standing e told) refl,
  )
  seek Ended e = (
    shown me.0 k.history,
    keeps,
    tt,
    shows limits l s k id index me.0 at,
    λ standing told. subst (λ x. SoughtBy cell x index block me (shown me.0 k.history, me.1)) (truly Ended standing e told)
        (shows_word Ended ended_word e (word_told (limits_of limits) (l.stands s.words) k.history s.words cell Ended k.cells_are less e)),
  )

within_limits : (limits : CellLimits) (l : Layout) (words : List ℕ) (h : History) (v : View) (lane cell : ℕ) → Fits limits l words h v → v.lane ≡ Some lane → cell < v.limits.cells → cell < limits.cells
within_limits limits l words h v lane cell f mine less = subst (λ (x : CellLimits). cell < x.cells) (f.limits_are lane mine) less

pub leads : (limits : CellLimits) (l : Layout) (slots id : ℕ) (me : Me (Act ℕ) View) (cell index lane : ℕ) → IsLayout (limits_of limits) l → me.0.lane ≡ Some lane → cell < me.0.limits.cells
    → Allows (Kept limits l) slots id me index (λ n. n) (Led l cell (step slots index 0 0 none) me)
leads limits l slots id me cell index lane lay mine less s k _ at _ =
    lead limits l lay s k slots id me at cell index lane mine (within_limits limits l s.words k.history me.0 lane cell (k.fits id me.0 at) mine less) (l.stands s.words cell) refl

pub seeks : (limits : CellLimits) (l : Layout) (slots id : ℕ) (me : Me (Act ℕ) View) (cell index lane : ℕ) → IsLayout (limits_of limits) l → me.0.lane ≡ Some lane → cell < me.0.limits.cells
    → Allows (Kept limits l) slots id me index (λ n. n) (Sought l cell (step slots index 0 0 none) me)
seeks limits l slots id me cell index lane lay mine less s k _ at _ =
    seek limits l lay s k slots id me at cell index lane mine (within_limits limits l s.words k.history me.0 lane cell (k.fits id me.0 at) mine less) (l.stands s.words cell) refl

-- ---- a cell gets its mark

no_index : {at : ℕ} → Open ≡ At at → ⊥
no_index e = cc e

module _ (limits : CellLimits) (l : Layout) (lay : IsLayout (limits_of limits) l) (s : State (Act ℕ) View) (k : Kept limits l s) (cell index new : ℕ) (less : cell < limits.cells)
    (block : l.is_block index ≡ true) (fits : index < l.width) (open_is : l.stands s.words cell ≡ Open) (p : IsMarking (limits_of limits) l s.words index cell (set s.words index new)) where
  abbrev marked_words : List ℕ
  marked_words = set s.words index new

  -- a word that is no block's is as it was
  beside : (at : ℕ) → l.is_block at ≡ false → get_or marked_words at 0 ≡ get_or s.words at 0
  beside at off = get_or-set_other s.words index at new 0 (λ e. not_both off (ap l.is_block e ∙ block))

  marking_follows : Follows limits l s.words marked_words
  marking_follows = record {
    stays = λ other at within is. ⊎_elim
        (λ same. absurd (no_index (sym open_is ∙ ap (l.stands s.words) (sym same) ∙ is)))
        (λ old. old ∙ is)
        (p.others other within);
    grows = λ other at. dite (ℕ_discrete other index)
        (λ same. subst (λ n. get_or s.words n 0 ≤ get_or marked_words n 0) (sym same) p.grows)
        (λ (ne : other ≡ index → ⊥). let same = get_or-set_other s.words index other new 0 ne in omega (arith, same));
  }

  marking_keeps : Keeps limits l s.words k.history marked_words
  marking_keeps = record {
    follows = marking_follows;
    wide = length-set s.words index new ∙ k.wide;
    sound = p.sound;
    are = standing.marked (limits_of limits) (l.stands s.words) (l.stands marked_words) k.history s.words marked_words cell p.index_is k.cells_are less open_is p.stands (beside p.index_is p.within.1 ∙ p.empty) p.free p.others
        (λ other at within is. beside at (lay.indices s.words other at k.sound within is).1);
    same = beside l.count lay.count_is.1;
    count = subst (λ n. Counts limits.numbers n (state_after k.history).drawn) (sym (beside l.count lay.count_is.1)) k.count_is;
  }

  marked_here : (id : ℕ) (v : View) → get_elem? s.views id ≡ some v → Kept limits l (record { words = marked_words; homes = s.homes; views = set s.views id (led v cell p.index_is) })
  marked_here id v at = let on = marking_keeps in
      goes_on limits l s k id v (led v cell p.index_is) at refl refl (omega arith) k.history (prefix_refl k.history) k.legal (λ n _. refl) marked_words on
      (fits_led limits l marked_words k.history v cell p.index_is (fits_stays limits l s.words marked_words k.history v on.follows (k.fits id v at)) (record { within = less; stands = p.stands }))

pub sets_mark : (limits : CellLimits) (l : Layout) (slots id : ℕ) (me : Me (Act ℕ) View) (cell index old lane : ℕ) → IsLayout (limits_of limits) l → me.0.lane ≡ Some lane → cell < me.0.limits.cells
    → l.is_block index ≡ true → index < l.width → l.tells index old cell ≡ Some Open
    → Allows (Kept limits l) slots id me index (λ n. either (eqb n old) (l.marking index old cell) n) (Marked l cell (step slots index old (l.marking index old cell) none) me)
sets_mark limits l slots id me cell index old lane lay mine below block fits told s k _ at _ =
    let n = get_or s.words index 0 in let new = l.marking index old cell in let f = k.fits id me.0 at in
    let less = within_limits limits l s.words k.history me.0 lane cell f mine below in
    exchanged n old new (λ m. (w : View) × (a : TableAct (Act ℕ)) × Valid s.homes me.1 a × Kept limits l (stepped s index m id me.1 w a) × Marked l cell (step slots index old new none) me n (w, carried_after me.1 a))
    (λ hit.
    let told_now : l.tells index n cell ≡ Some Open = ap (λ m. l.tells index m cell) hit ∙ told in
    let open_is = lay.told s.words index cell Open k.sound less told_now in
    let p : IsMarking (limits_of limits) l s.words index cell (set s.words index new) =
    subst (λ m. IsMarking (limits_of limits) l s.words index cell (set s.words index (l.marking index m cell))) hit (lay.marking s.words index cell k.sound k.wide fits block less told_now) in (
      led me.0 cell p.index_is,
      keeps,
      tt,
      marked_here limits l lay s k cell index new less block fits open_is p id me.0 at,
      (
        (λ miss. absurd (miss hit)),
        λ _. (
          p.index_is,
          subst (λ m. l.tells index m cell ≡ Some (At p.index_is)) (get_or-set_same s.words index new 0 (let w = k.wide in omega (arith, w, fits))) p.told,
          refl,
        ),
      ),
    ))
    (λ miss. let t = seek limits l lay s k slots id me at cell index lane mine less (l.stands s.words cell) refl in (
      t.0,
      t.1,
      t.2,
      t.3,
      ((λ _. (t.4, λ (same : me.0.block ≡ index). subst (λ m. me.0.least ≤ get_or s.words m 0) same (f.least_is (ap l.is_block same ∙ block)))), λ hit. absurd (miss hit)),
    ))

-- ---- a block ends

module _ (limits : CellLimits) (l : Layout) (lay : IsLayout (limits_of limits) l) (s : State (Act ℕ) View) (k : Kept limits l s) (lane index new : ℕ) (mine : lane < limits.lanes)
    (block : l.is_block index ≡ true) (fits : index < l.width) (p : IsEnding (limits_of limits) l s.words index (set s.words index new)) where
  abbrev ended_words : List ℕ
  ended_words = set s.words index new

  abbrev ended_history : History
  ended_history = k.history ++ seals lane p.cells

  apart_from : (at : ℕ) → l.is_block at ≡ false → get_or ended_words at 0 ≡ get_or s.words at 0
  apart_from at off = get_or-set_other s.words index at new 0 (λ e. not_both off (ap l.is_block e ∙ block))

  was_open : (cell : ℕ) → Contains p.cells cell → l.stands s.words cell ≡ Open
  was_open cell there = lay.told s.words index cell Open k.sound (p.within cell there) (p.told cell there)

  may_end : MayEnd (limits_of limits) k.history p.cells
  may_end = record {
    distinct = p.distinct;
    within = p.within;
    unused = λ cell there. subst (IsCellAt k.history s.words cell) (was_open cell there) (k.cells_are.each cell (p.within cell there));
  }

  ending_keeps : Keeps limits l s.words ended_history ended_words
  ending_keeps = record {
    follows = record {
      stays = λ cell at within is. ⊎_elim (λ t. absurd (no_index (sym (was_open cell t.0) ∙ is))) (λ t. t.1 ∙ is) (p.each cell within);
      grows = λ other at. dite (ℕ_discrete other index)
          (λ same. subst (λ n. get_or s.words n 0 ≤ get_or ended_words n 0) (sym same) p.grows)
          (λ (ne : other ≡ index → ⊥). let same = get_or-set_other s.words index other new 0 ne in omega (arith, same));
    };
    wide = length-set s.words index new ∙ k.wide;
    sound = p.sound;
    are = standing.ended (limits_of limits) (l.stands s.words) (l.stands ended_words) k.history s.words ended_words lane p.cells k.cells_are may_end p.each
        (λ cell at within is. apart_from at (lay.indices s.words cell at k.sound within is).1);
    same = apart_from l.count lay.count_is.1;
    count = subst (λ (t : ℕ × ℕ). Counts limits.numbers t.0 t.1) (λ i. (sym (apart_from l.count lay.count_is.1) i, sym (drawn_stays k.history lane p.cells) i)) k.count_is;
  }

  -- each cell that the block's word told to have no word has ended then
  has_ended : (cell : ℕ) → cell < limits.cells → (l.tells index (get_or s.words index 0) cell ≡ Some Open) ⊎ (l.tells index (get_or s.words index 0) cell ≡ Some Ended) → IsSealedUnused ended_history cell
  has_ended cell less (inl told) = end_seals (limits_of limits) k.history lane p.cells cell may_end (p.all cell less told)
  has_ended cell less (inr told) =
      let is = lay.told s.words index cell Ended k.sound less told in
      let away : Contains p.cells cell → ⊥ = λ there. two_ways (sym is ∙ was_open cell there) in
      let was : IsSealedUnused k.history cell = subst (IsCellAt k.history s.words cell) is (k.cells_are.each cell less) in
      record { version = versions_elsewhere k.history lane p.cells cell away ∙ was.version; slot = slots_elsewhere k.history lane p.cells cell away ∙ was.slot }
    where
      two_ways : Ended ≡ Open → ⊥
      two_ways e = cc e

pub ends : (limits : CellLimits) (l : Layout) (slots id : ℕ) (me : Me (Act ℕ) View) (index operand lane : ℕ) → IsLayout (limits_of limits) l → me.0.lane ≡ Some lane → l.is_block index ≡ true → index < l.width
    → Allows (Kept limits l) slots id me index l.end_of (EndedBy l (step slots index operand 0 none) me)
ends limits l slots id me index operand lane lay mine block fits s k _ at _ =
    let v = me.0 in let f = k.fits id v at in let n = get_or s.words index 0 in let new = l.end_of n in
    let p = lay.ending s.words index k.sound k.wide fits block in
    let below = f.lane_is lane mine in
    let on = ending_keeps limits l lay s k lane index new below block fits p in
    let h = k.history ++ seals lane p.cells in
    let may = may_end limits l lay s k lane index new below block fits p in
    let same = f.limits_are lane mine in (
      shown v h,
      keeps,
      tt,
      goes_on limits l s k id v (shown v h) at refl refl (shown_draws v k.history h f.seen_is (seals lane p.cells, refl)) h (seals lane p.cells, refl) (end_legal (limits_of limits) k.history lane p.cells k.legal below may)
          (λ j other. end_others k.history lane j p.cells (λ is. other (mine ∙ ap Some (sym is))))
          (set s.words index new) on
          (fits_shown limits l s.words (set s.words index new) k.history v on.follows f h),
      λ other is. subst (λ m. EndOf l me (shown v h, me.1) m index n) (one_lane mine is) (record {
        history = k.history;
        cells = p.cells;
        legal = subst (λ (x : CellLimits). IsLegal (limits_of x) k.history) (sym same) k.legal;
        begins = f.seen_is;
        told = f.told_is;
        lane_is = subst (λ (x : CellLimits). lane < x.lanes) (sym same) below;
        own_is = f.own_is lane mine;
        may = subst (λ (x : CellLimits). MayEnd (limits_of x) k.history p.cells) (sym same) may;
        opened = p.told;
        all = subst (λ (x : CellLimits). (cell : ℕ) → cell < x.cells → l.tells index n cell ≡ Some Open → Contains p.cells cell) (sym same) p.all;
        ended = subst (λ (x : CellLimits). (cell : ℕ) → cell < x.cells → (l.tells index n cell ≡ Some Open) ⊎ (l.tells index n cell ≡ Some Ended) → IsSealedUnused h cell) (sym same)
            (has_ended limits l lay s k lane index new below block fits p);
        after_is = refl;
      }),
    )
