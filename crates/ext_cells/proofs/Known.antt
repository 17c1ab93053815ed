-- What a seat knows of the words is so: where a word is, and what it tells.
use Rattle.std.proofs.Common.{◌≡◌, ◌≢◌, ℕ, ◌<◌, List, get_or, sym, ap, subst, ◌∙◌, arith, Some, true}
use mathlib.Core.Option.{some}
use mathlib.Core.List.{IsPrefix}
use lib.ListN.{get_elem?}
use Rattle.atomic_table.specs.Table.{State}
use Rattle.ext_model.specs.declared.event.Act.{Act}
use Rattle.ext_model.specs.History.{History, Limits, IsLegal}
use Rattle.ext_model.specs.CellWords.{word_of}
use Rattle.ext_history.specs.Histories.{seen}
use Rattle.ext_cells.specs.declared.limits.CellLimits.{CellLimits}
use Rattle.ext_cells.specs.declared.view.View.{View}
use Rattle.ext_cells.specs.Standings.{Standing, At, ended_word, AreCellsOf, told_word}
use Rattle.ext_cells.specs.InnerLayouts.{Layout}
use Rattle.ext_cells.specs.InnerViews.{limits_of}
use Rattle.ext_cells.specs.InnerRule.{StandsAt, Fits, Kept}
use Rattle.ext_cells.specs.InnerTableSteps.{IsWordAt, FoundBy, OnlyAt, IsKnown, by_index, by_use}
use Rattle.ext_cells.proofs.Standings as standing

-- a cell that was used stands at its only index
used_index : (limits : CellLimits) (l : Layout) (words : List ℕ) (h : History) (fronts : List History) (aim index : ℕ) → l.sound words ≡ true → AreCellsOf (limits_of limits) (l.stands words) h words
    → IsPrefix (seen fronts) h → OnlyAt l aim index → aim < limits.cells → word_of (seen fronts) aim ≢ 0 → word_of (seen fronts) aim ≢ ended_word → StandsAt limits l words aim index
used_index limits l words h fronts aim index sound are begins only within began more =
    let at = standing.used (limits_of limits) (l.stands words) (seen fronts) begins.0 words aim (subst (λ g. AreCellsOf (limits_of limits) (l.stands words) g words) (sym begins.1) are) within began more in
    record { within = within; stands = at.1 ∙ ap At (only words at.0 sound at.1) }

pub known_index : (limits : CellLimits) (l : Layout) (words : List ℕ) (h : History) (v : View) (lane aim index : ℕ) → l.sound words ≡ true → AreCellsOf (limits_of limits) (l.stands words) h words
    → Fits limits l words h v → v.lane ≡ Some lane → IsKnown l v aim index → StandsAt limits l words aim index
known_index limits l words h v lane aim index sound are fits mine (by_index there) = fits.indexed_are aim index there
known_index limits l words h v lane aim index sound are fits mine (by_use only within began more) =
    used_index limits l words h v.fronts aim index sound are fits.seen_is only (subst (λ (x : CellLimits). aim < x.cells) (fits.limits_are lane mine) within) began more

-- a cell's word, by how it stands
pub word_told : (limits : Limits) (stands : ℕ → Standing) (h : History) (words : List ℕ) (cell : ℕ) (s : Standing) → AreCellsOf limits stands h words → cell < limits.cells → stands cell ≡ s → IsWordAt limits h cell (told_word words s)
word_told limits stands h words cell s are within is = record {
  cell = λ less. ap (told_word words) (sym is) ∙ standing.told limits stands h words cell are within;
  count = λ last. absurd (omega (arith, within, last));
}

pub word_there : (limits : CellLimits) (l : Layout) (s : State (Act ℕ) View) (k : Kept limits l s) (aim index : ℕ) → StandsAt limits l s.words aim index → IsWordAt (limits_of limits) k.history aim (get_or s.words index 0)
word_there limits l s k aim index t = word_told (limits_of limits) (l.stands s.words) k.history s.words aim (At index) k.cells_are t.within t.stands

pub found : (limits : CellLimits) (l : Layout) (s : State (Act ℕ) View) (k : Kept limits l s) (id aim word : ℕ) (v : View) (lane : ℕ) → v.lane ≡ Some lane → get_elem? s.views id ≡ some v
    → IsWordAt (limits_of limits) k.history aim word → FoundBy v aim word k.history
found limits l s k id aim word v lane mine at is = let f = k.fits id v at in let same = sym (f.limits_are lane mine) in record {
  legal = subst (λ x. IsLegal (limits_of x) k.history) same k.legal;
  begins = f.seen_is;
  told = f.told_is;
  word_is = subst (λ x. IsWordAt (limits_of x) k.history aim word) same is;
  lane_is = λ n e. subst (λ (x : CellLimits). n < x.lanes) same (f.lane_is n e);
  own_is = f.own_is;
}
