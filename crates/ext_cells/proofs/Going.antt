-- The rule after one step of one seat, whatever the step was: the words follow those before it, the history goes on by
-- events of the stepping lane alone, and the seat has a view that fits them.
use Rattle.std.proofs.Common.{◌≡◌, ⊎_elim, ℕ, ◌+◌, ◌<◌, ◌≤◌, List, [], ◌∷◌, length, get_or, set, arith, refl, sym, ap, subst, ◌∙◌, Some, true, Contains}
use Rattle.std.proofs.lemmas.List.{set-get_or}
use mathlib.Core.Option.{some}
use mathlib.Core.List.{IsPrefix}
use base.Growing.{prefix_refl, prefix_trans}
use lib.ListN.{get_elem?}
use Rattle.atomic_table.specs.Table.{State}
use Rattle.atomic_table.proofs.Lists.{at_set}
use Rattle.ext_model.specs.declared.event.Act.{Act}
use Rattle.ext_model.specs.History.{History, own, state_after, IsLegal}
use Rattle.ext_history.specs.Histories.{seen}
use Rattle.ext_history.proofs.Fronts.{last_append}
use Rattle.ext_history.proofs.Lists.{contains_cons}
use Rattle.ext_cells.specs.declared.limits.CellLimits.{CellLimits}
use Rattle.ext_cells.specs.declared.view.View.{View}
use Rattle.ext_cells.specs.Standings.{At, AreCellsOf}
use Rattle.ext_cells.specs.InnerLayouts.{Layout}
use Rattle.ext_cells.specs.InnerViews.{limits_of, shown, led, sought}
use Rattle.ext_cells.specs.InnerTableSteps.{Counts}
use Rattle.ext_cells.specs.InnerRule.{StandsAt, Fits, Beyond, Kept}
use Rattle.ext_cells.proofs.Rising.{draws_on}

-- cells stay at their indices, and blocks' words only grow
pub record Follows (limits : CellLimits) (l : Layout) (words later : List ℕ) : Type 0 where
  pub stays : (cell at : ℕ) → cell < limits.cells → l.stands words cell ≡ At at → l.stands later cell ≡ At at
  pub grows : (index : ℕ) → l.is_block index ≡ true → get_or words index 0 ≤ get_or later index 0

-- what a change of words keeps
pub record Keeps (limits : CellLimits) (l : Layout) (words : List ℕ) (h : History) (later : List ℕ) : Type 0 where
  pub follows : Follows limits l words later
  pub wide : length later ≡ l.width
  pub sound : l.sound later ≡ true
  pub are : AreCellsOf (limits_of limits) (l.stands later) h later
  pub same : get_or later l.count 0 ≡ get_or words l.count 0
  pub count : Counts limits.numbers (get_or later l.count 0) (state_after h).drawn

pub follows_same : (limits : CellLimits) (l : Layout) (words : List ℕ) → Follows limits l words words
follows_same limits l words = record { stays = λ cell at less is. is; grows = λ index block. omega arith }

stood : (limits : CellLimits) (l : Layout) (words later : List ℕ) (cell index : ℕ) → Follows limits l words later → StandsAt limits l words cell index → StandsAt limits l later cell index
stood limits l words later cell index on is = record { within = is.within; stands = on.stays cell index is.within is.stands }

pub at_least : (a b c : ℕ) → a ≤ b → b ≤ c → a ≤ c
at_least a b c p q = omega (arith, p, q)

-- ---- what views know

module _ (limits : CellLimits) (l : Layout) (words later : List ℕ) (h : History) (v : View) (on : Follows limits l words later) (f : Fits limits l words h v) where
  pub fits_shown : (g : History) → Fits limits l later g (shown v g)
  fits_shown g = let same = sym (last_append [] v.fronts (g ∷ [])) in record {
    seen_is = subst (λ (z : History). IsPrefix z g) same (prefix_refl g);
    told_is = (g, refl);
    limits_are = f.limits_are;
    lane_is = f.lane_is;
    own_is = λ n e. ap (own n) same;
    indexed_are = λ cell index there. stood limits l words later cell index on (f.indexed_are cell index there);
    least_is = λ block. at_least _ _ _ (f.least_is block) (on.grows v.block block);
  }

  -- a view that saw nothing
  pub fits_stays : Fits limits l later h v
  fits_stays = record {
    seen_is = f.seen_is;
    told_is = f.told_is;
    limits_are = f.limits_are;
    lane_is = f.lane_is;
    own_is = f.own_is;
    indexed_are = λ cell index there. stood limits l words later cell index on (f.indexed_are cell index there);
    least_is = λ block. at_least _ _ _ (f.least_is block) (on.grows v.block block);
  }

pub fits_led : (limits : CellLimits) (l : Layout) (words : List ℕ) (h : History) (v : View) (cell index : ℕ) → Fits limits l words h v → StandsAt limits l words cell index → Fits limits l words h (led v cell index)
fits_led limits l words h v cell index f here = record {
  seen_is = f.seen_is;
  told_is = f.told_is;
  limits_are = f.limits_are;
  lane_is = f.lane_is;
  own_is = f.own_is;
  indexed_are = λ other at there. ⊎_elim (λ same. subst (λ (t : ℕ × ℕ). StandsAt limits l words t.0 t.1) same here) (λ later. f.indexed_are other at later) (contains_cons (cell, index) v.indexed (other, at) there);
  least_is = f.least_is;
}

pub fits_sought : (limits : CellLimits) (l : Layout) (words : List ℕ) (h : History) (v : View) (index : ℕ) → Fits limits l words h v → Fits limits l words h (sought v index (get_or words index 0))
fits_sought limits l words h v index f = record {
  seen_is = f.seen_is;
  told_is = f.told_is;
  limits_are = f.limits_are;
  lane_is = f.lane_is;
  own_is = f.own_is;
  indexed_are = f.indexed_are;
  least_is = λ block. omega arith;
}

-- a view that was shown more has seen no fewer numbers drawn
pub shown_draws : (v : View) (g h : History) → IsPrefix (seen v.fronts) g → IsPrefix g h → (state_after (seen v.fronts)).drawn ≤ (state_after (seen (shown v h).fronts)).drawn
shown_draws v g h begins longer =
    let p = prefix_trans (seen v.fronts) g h begins longer in
    subst (λ (z : History). (state_after (seen v.fronts)).drawn ≤ (state_after z).drawn) (p.1 ∙ sym (last_append [] v.fronts (h ∷ []))) (draws_on (seen v.fronts) p.0)

-- ---- the rule

module _ (limits : CellLimits) (l : Layout) (s : State (Act ℕ) View) (k : Kept limits l s) (id : ℕ) (v w : View) (at : get_elem? s.views id ≡ some v) (lane_stays : v.lane ≡ w.lane) (given_stays : v.given ≡ w.given)
    (draws : (state_after (seen v.fronts)).drawn ≤ (state_after (seen w.fronts)).drawn) where
  -- a view that stands after the step had the same number and count before it, and had seen no more numbers drawn
  pub was : (j : ℕ) (u : View) → get_elem? (set s.views id w) j ≡ some u
      → (x : View) × (get_elem? s.views j ≡ some x) × (x.lane ≡ u.lane) × (x.given ≡ u.given) × ((state_after (seen x.fronts)).drawn ≤ (state_after (seen u.fronts)).drawn)
  was j u there =
      ⊎_elim
      (λ t. (
        v,
        subst (λ n. get_elem? s.views n ≡ some v) (sym t.0) at,
        lane_stays ∙ ap (λ (x : View). x.lane) t.1,
        given_stays ∙ ap (λ (x : View). x.given) t.1,
        subst (λ (x : View). (state_after (seen v.fronts)).drawn ≤ (state_after (seen x.fronts)).drawn) t.1 draws,
      ))
      (λ t. (u, t.1, refl, refl, omega arith))
      (at_set s.views id j w u there)

  -- what lanes beyond the limit saw, and when they were born, stays so
  pub still_saw : (i : ℕ) (x : View) (n : ℕ) → get_elem? (set s.views id w) i ≡ some x → x.lane ≡ Some n → Contains k.beyond.lanes n → limits.numbers ≤ (state_after (seen x.fronts)).drawn
  still_saw i x n ix xn there = let a = was i x ix in at_least _ _ _ (k.beyond.saw i a.0 n a.1 (a.2 ∙ xn) there) a.4

  pub still_born : (i : ℕ) (x : View) (d n : ℕ) → get_elem? (set s.views id w) i ≡ some x → x.given ≡ Some d → Contains k.beyond.lanes n → n < d
  still_born i x d n ix xd there = let a = was i x ix in k.beyond.born i a.0 d n a.1 (a.3 ∙ xd) there

  -- the count is as it was, or below the limit
  pub beyond_stays : (count : ℕ) → count ≤ limits.numbers + length k.beyond.lanes → Beyond limits (set s.views id w) count
  beyond_stays count reach = let b = k.beyond in record {
    lanes = b.lanes;
    once = b.once;
    within = b.within;
    reach = reach;
    saw = still_saw;
    born = still_born;
  }

  -- a step that may change the count
  pub goes_beyond : (h : History) → IsPrefix k.history h → IsLegal (limits_of limits) h → ((n : ℕ) → (v.lane ≡ Some n → ⊥) → own n h ≡ own n k.history)
      → (words : List ℕ) → Follows limits l s.words words → length words ≡ l.width → l.sound words ≡ true → AreCellsOf (limits_of limits) (l.stands words) h words
      → Counts limits.numbers (get_or words l.count 0) (state_after h).drawn → Beyond limits (set s.views id w) (get_or words l.count 0) → Fits limits l words h w
      → Kept limits l (record { words = words; homes = s.homes; views = set s.views id w })
  goes_beyond h longer legal others words on wide sound are count beyond fits = record {
    history = h;
    legal = legal;
    wide = wide;
    sound = sound;
    cells_are = are;
    few = k.few;
    count_is = count;
    beyond = beyond;
    fits = λ j u there. ⊎_elim
        (λ t. subst (Fits limits l words h) t.1 fits)
        (λ t. let f = k.fits j u t.1 in let g = fits_stays limits l s.words words k.history u on f in record {
          seen_is = prefix_trans (seen u.fronts) k.history h f.seen_is longer;
          told_is = prefix_trans u.told k.history h f.told_is longer;
          limits_are = f.limits_are;
          lane_is = f.lane_is;
          own_is = λ n e. others n (λ mine. t.0 (k.apart j id u v n t.1 at e mine)) ∙ f.own_is n e;
          indexed_are = g.indexed_are;
          least_is = g.least_is;
        })
        (at_set s.views id j w u there);
    apart = λ i j x y n ix jy ex ey. let a = was i x ix in let b = was j y jy in k.apart i j a.0 b.0 n a.1 b.1 (a.2 ∙ ex) (b.2 ∙ ey);
    one_giver = λ i j x y d e ix jy ex ey. let a = was i x ix in let b = was j y jy in k.one_giver i j a.0 b.0 d e a.1 b.1 (a.3 ∙ ex) (b.3 ∙ ey);
    most = λ i x d ix ex. let a = was i x ix in k.most i a.0 d a.1 (a.3 ∙ ex);
    below = λ i j x y n d ix jy ex ey. let a = was i x ix in let b = was j y jy in k.below i j a.0 b.0 n d a.1 b.1 (a.2 ∙ ex) (b.3 ∙ ey);
    unborn = λ i x d n ix ex le. let a = was i x ix in
        others n (λ mine. let b = k.below id i v a.0 n d at a.1 mine (a.3 ∙ ex) in absurd (omega arith)) ∙ k.unborn i a.0 d n a.1 (a.3 ∙ ex) le;
  }

  -- any other step
  pub goes_on : (h : History) → IsPrefix k.history h → IsLegal (limits_of limits) h → ((n : ℕ) → (v.lane ≡ Some n → ⊥) → own n h ≡ own n k.history)
      → (words : List ℕ) → Keeps limits l s.words h words → Fits limits l words h w
      → Kept limits l (record { words = words; homes = s.homes; views = set s.views id w })
  goes_on h longer legal others words on fits =
      let reach = k.beyond.reach in let same = on.same in
      goes_beyond h longer legal others words on.follows on.wide on.sound on.are on.count (beyond_stays (get_or words l.count 0) (omega (arith, reach, same))) fits

  -- the step changed nothing but the view
  pub looks : (index : ℕ) → Fits limits l s.words k.history w → Kept limits l (record { words = set s.words index (get_or s.words index 0); homes = s.homes; views = set s.views id w })
  looks index fits =
      subst (λ (words : List ℕ). Kept limits l (record { words = words; homes = s.homes; views = set s.views id w })) (sym (set-get_or s.words index 0))
      (goes_on k.history (prefix_refl k.history) k.legal (λ n _. refl) s.words
      (record { follows = follows_same limits l s.words; wide = k.wide; sound = k.sound; are = k.cells_are; same = refl; count = k.count_is }) fits)
