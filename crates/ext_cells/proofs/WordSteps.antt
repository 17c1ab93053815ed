-- Each step of a lane on a cell's word keeps the rule, and tells what it found.
use Rattle.std.proofs.Common.{◌≡◌, ℕ, ◌<◌, eqb, false, List, [], ◌∷◌, ◌++◌, length, get_or, set, arith, refl, sym, ap, ◌∙◌, subst, Option, None, Some, get_or-set_other, length-set}
use Rattle.std.specs.Prelude.{unwrap_or}
use mathlib.Core.Option.{some, none, some-injective}
use prog.Atomic.{either}
use base.Growing.{prefix_refl}
use lib.ListN.{get_elem?}
use Rattle.atomic_table.specs.Table.{State, Me, step, keeps, stepped, Allows, Valid, carried_after, Act as TableAct}
use Rattle.atomic_table.proofs.Lists.{exchanged}
use Rattle.ext_model.specs.declared.event.Act.{Act}
use Rattle.ext_model.specs.declared.event.Act.TheVariants.{Keep, Put, Remove, Claim, Fill, Fail, Abandon, Seal}
use Rattle.ext_model.specs.Events.{place_of, drawn_after}
use Rattle.ext_model.specs.History.{History, Limits, by, lane_of, state_after, IsAllowed}
use Rattle.ext_model.proofs.Words.{drawn-push}
use Rattle.ext_history.proofs.Legal.{legal_push}
use Rattle.ext_history.proofs.Lanes.{own_push_other}
use Rattle.ext_cells.specs.declared.limits.CellLimits.{CellLimits}
use Rattle.ext_cells.specs.declared.view.View.{View}
use Rattle.ext_cells.specs.Standings.{Standing, IsCellAt, AreCellsOf}
use Rattle.ext_cells.specs.InnerLayouts.{Layout, IsLayout}
use Rattle.ext_cells.specs.InnerViews.{limits_of, shown}
use Rattle.ext_cells.specs.InnerRule.{StandsAt, Kept}
use Rattle.ext_cells.specs.InnerTableSteps.{Counts, IsWordAt, index_in, FoundBy, IsKnown, Loaded, MayExchange, Exchanged}
use Rattle.ext_cells.proofs.Standings as standing
use Rattle.ext_cells.proofs.Known.{known_index, word_there, found}
use Rattle.ext_cells.proofs.Passing.{not_both}
use Rattle.ext_cells.proofs.Going.{Keeps, Follows, follows_same, fits_shown, shown_draws, goes_on, looks}

-- ---- a word that is read

pub shows : (limits : CellLimits) (l : Layout) (s : State (Act ℕ) View) (k : Kept limits l s) (id index : ℕ) (v : View) → get_elem? s.views id ≡ some v
    → Kept limits l (record { words = set s.words index (get_or s.words index 0); homes = s.homes; views = set s.views id (shown v k.history) })
shows limits l s k id index v at =
    looks limits l s k id v (shown v k.history) at refl refl (shown_draws v k.history k.history (k.fits id v at).seen_is (prefix_refl k.history)) index (fits_shown limits l s.words s.words k.history v (follows_same limits l s.words) (k.fits id v at) k.history)

pub loads : (limits : CellLimits) (l : Layout) (slots id : ℕ) (me : Me (Act ℕ) View) (aim index lane : ℕ) → IsLayout (limits_of limits) l → me.0.lane ≡ Some lane → IsKnown l me.0 aim index
    → Allows (Kept limits l) slots id me index (λ n. n) (Loaded aim (step slots index 0 0 none) me)
loads limits l slots id me aim index lane lay mine knows s k _ at _ = (
  shown me.0 k.history,
  keeps,
  tt,
  shows limits l s k id index me.0 at,
  (
    k.history,
    found limits l s k id aim (get_or s.words index 0) me.0 lane mine at (word_there limits l s k aim index (known_index limits l s.words k.history me.0 lane aim index k.sound k.cells_are (k.fits id me.0 at) mine knows)),
    refl,
  ),
)

-- ---- an event that changes one word

pub one_lane : {a b : ℕ} {o : Option ℕ} → o ≡ Some a → o ≡ Some b → a ≡ b
one_lane p q = cc

no_draw : (act : Act ℕ) (cell drawn : ℕ) → place_of act ≡ Some cell → drawn_after act drawn ≡ drawn
no_draw (Keep number) cell drawn on = absurd (cc on)
no_draw (Put at number) cell drawn on = refl
no_draw (Remove at) cell drawn on = refl
no_draw (Claim at) cell drawn on = refl
no_draw (Fill at number) cell drawn on = refl
no_draw (Fail at number) cell drawn on = refl
no_draw (Abandon at) cell drawn on = refl
no_draw (Seal at) cell drawn on = refl

-- a word that is no block's changes
pub off_blocks : (limits : CellLimits) (l : Layout) (words : List ℕ) (at next : ℕ) → IsLayout (limits_of limits) l → l.is_block at ≡ false → Follows limits l words (set words at next)
off_blocks limits l words at next lay off = record {
  stays = λ cell index less is. lay.steady words at next cell off ∙ is;
  grows = λ index block. let same = get_or-set_other words at index next 0 (λ e. not_both off (ap l.is_block (sym e) ∙ block)) in omega (arith, same);
}

pub restand : (limits : Limits) (stands after : ℕ → Standing) (h : History) (words : List ℕ) → ((cell : ℕ) → after cell ≡ stands cell) → AreCellsOf limits stands h words → AreCellsOf limits after h words
restand limits stands after h words same are = record {
  each = λ cell less. subst (IsCellAt h words cell) (sym (same cell)) (are.each cell less);
  apart = λ cell other index less fewer p q. are.apart cell other index less fewer (sym (same cell) ∙ p) (sym (same other) ∙ q);
}

module _ (limits : CellLimits) (l : Layout) (lay : IsLayout (limits_of limits) l) (s : State (Act ℕ) View) (k : Kept limits l s) (lane : ℕ) (act : Act ℕ) (aim index new : ℕ)
    (allowed : IsAllowed (limits_of limits) k.history (by lane act)) (leaves : IsWordAt (limits_of limits) (k.history ++ by lane act ∷ []) aim new) where
  abbrev after : History
  after = k.history ++ by lane act ∷ []

  abbrev later : List ℕ
  later = set s.words index new

  still : (cell : ℕ) → l.is_block index ≡ false → l.stands later cell ≡ l.stands s.words cell
  still cell off = lay.steady s.words index new cell off

  -- a cell's word, by an act on it
  changes : StandsAt limits l s.words aim index → place_of act ≡ Some aim → Keeps limits l s.words after later
  changes at on =
      let where_is = lay.indices s.words aim index k.sound at.within at.stands in
      let fits : index < length s.words = let w = k.wide in let less = where_is.0 in omega (arith, w, less) in
      let same_count = get_or-set_other s.words index l.count new 0 (λ e. where_is.2 (sym e)) in record {
        follows = off_blocks limits l s.words index new lay where_is.1;
        wide = length-set s.words index new ∙ k.wide;
        sound = lay.changes s.words aim index new k.sound at.within at.stands;
        are = restand (limits_of limits) (l.stands s.words) (l.stands later) after later (λ cell. still cell where_is.1)
            (standing.changed (limits_of limits) (l.stands s.words) k.history s.words lane act aim index new k.cells_are at.within at.stands fits on (leaves.cell at.within));
        same = same_count;
        count = subst (λ (t : ℕ × ℕ). Counts limits.numbers t.0 t.1) (λ i. (sym same_count i, sym (drawn-push k.history (by lane act) ∙ no_draw act aim (state_after k.history).drawn on) i)) k.count_is;
      }

  abbrev Here : Option ℕ → Type 0
  Here o = aim ≡ unwrap_or o limits.cells

  event_on : (o : Option ℕ) → place_of act ≡ o → Here o → StandsAt limits l s.words aim index → Keeps limits l s.words after later
  event_on None on here t = let less = t.within in absurd (omega (arith, less, here))
  event_on (Some at) on here t = changes t (on ∙ ap Some (sym here))

  event_keeps : aim ≡ index_in (limits_of limits) act → StandsAt limits l s.words aim index → Keeps limits l s.words after later
  event_keeps here at = event_on (place_of act) refl here at

-- an exchange
pub exchanges : (limits : CellLimits) (l : Layout) (slots id : ℕ) (me : Me (Act ℕ) View) (aim index old new lane : ℕ) (act : Act ℕ) → IsLayout (limits_of limits) l → MayExchange me.0 lane act aim old new → IsKnown l me.0 aim index
    → Allows (Kept limits l) slots id me index (λ n. either (eqb n old) new n) (Exchanged aim (step slots index old new (some act)) me)
exchanges limits l slots id me aim index old new lane act lay may knows s k _ at _ =
    let v = me.0 in let n = get_or s.words index 0 in let e = by lane act in let f = k.fits id v at in
    let is_at = known_index limits l s.words k.history v lane aim index k.sound k.cells_are f may.lane_is knows in
    let finds : FoundBy v aim n k.history = found limits l s k id aim n v lane may.lane_is at (word_there limits l s k aim index is_at) in
    exchanged n old new (λ m. (w : View) × (a : TableAct (Act ℕ)) × Valid s.homes me.1 a × Kept limits l (stepped s index m id me.1 w a) × Exchanged aim (step slots index old new (some act)) me n (w, carried_after me.1 a))
    (λ hit.
    let at_old : FoundBy v aim old k.history = subst (λ m. FoundBy v aim m k.history) hit finds in
    let same : v.limits ≡ limits = f.limits_are lane may.lane_is in
    let can = may.allowed k.history at_old in
    let allowed : IsAllowed (limits_of limits) k.history e = subst (λ x. IsAllowed (limits_of x) k.history e) same can in
    let leaves : IsWordAt (limits_of limits) (k.history ++ e ∷ []) aim new = subst (λ x. IsWordAt (limits_of x) (k.history ++ e ∷ []) aim new) same (may.leaves k.history at_old) in
    let keeps_it = event_keeps limits l lay s k lane act aim index new allowed leaves (subst (λ x. aim ≡ index_in (limits_of x) act) same may.here) is_at in (
      shown v (k.history ++ e ∷ []),
      keeps,
      tt,
      goes_on limits l s k id v (shown v (k.history ++ e ∷ [])) at refl refl (shown_draws v k.history (k.history ++ e ∷ []) f.seen_is (e ∷ [], refl)) (k.history ++ e ∷ []) (e ∷ [], refl) (legal_push k.history e k.legal allowed)
          (λ j other. own_push_other lane_of j k.history e (λ is. other (may.lane_is ∙ ap Some is)))
          (set s.words index new) keeps_it
          (fits_shown limits l s.words (set s.words index new) k.history v keeps_it.follows f (k.history ++ e ∷ [])),
      (
        (λ miss. absurd (miss hit)),
        λ _ mine said is announced. (
          k.history,
          finds,
          subst (λ (z : ℕ × Act ℕ). IsAllowed (limits_of v.limits) k.history (by z.0 z.1)) (λ t. ((one_lane may.lane_is is) t, (some-injective act said announced) t)) can,
          λ t. (shown v (k.history ++ by ((one_lane may.lane_is is) t) ((some-injective act said announced) t) ∷ []), me.1),
        ),
      ),
    ))
    (λ miss. (
      shown v k.history,
      keeps,
      tt,
      shows limits l s k id index v at,
      ((λ _. (k.history, finds, refl)), λ hit. absurd (miss hit)),
    ))
