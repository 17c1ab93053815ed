-- Making the table, splitting off lanes and notes, and taking in a note keep the rule.
use Rattle.std.proofs.Common.{◌≡◌, ◌≢◌, ◌⊎◌, inl, inr, ⊎_elim, ℕ, zero, suc, ◌+◌, ◌<◌, ◌≤◌, List, [], ◌∷◌, ◌++◌, length, get_or, set, true, Contains, arith, refl, sym, ap, ◌∙◌, subst, length-set, Option, Some, None}
use Rattle.std.specs.Prelude.{replicate, ◌^◌, nat_eq}
use Rattle.std.specs.List.{IsDistinct}
use Rattle.std.proofs.lemmas.List.{length-replicate}
use mathlib.Core.Option.{some, some-ne-none, some-injective}
use base.Growing.{prefix_refl}
use lib.ListN.{get_elem?}
use Rattle.atomic_table.specs.Table.{State, opening, Splits, Joins}
use Rattle.atomic_table.proofs.Lists.{at_set}
use Rattle.ext_model.specs.declared.event.Act.{Act}
use Rattle.ext_model.specs.History.{History, state_after, IsAllowed}
use Rattle.ext_history.specs.Histories.{seen}
use Rattle.ext_history.proofs.Lists.{contains_none, at_push, at_zeros}
use Rattle.ext_history.proofs.Legal.{legal_empty}
use Rattle.ext_cells.specs.declared.limits.CellLimits.{CellLimits}
use Rattle.ext_cells.specs.declared.view.View.{View}
use Rattle.ext_cells.specs.Standings.{At, Open, IsCellAt}
use Rattle.ext_cells.specs.InnerLayouts.{Layout, IsLayout}
use Rattle.ext_cells.specs.InnerViews.{limits_of, first_lane, one_more, giving, born, note, noted, spent}
use Rattle.ext_cells.specs.InnerRule.{StandsAt, Fits, Kept}

only_one : (u v : View) (j : ℕ) → get_elem? (u ∷ []) j ≡ some v → (j ≡ 0) × (u ≡ v)
only_one u v zero e = (refl, some-injective u v e)
only_one u v (suc j) e = absurd (some-ne-none v (sym e))

some_is : {m n : ℕ} {o : Option ℕ} → o ≡ Some m → o ≡ Some n → m ≡ n
some_is p q = cc

no_number : {n : ℕ} → None ≡ Some n → ⊥
no_number e = cc

none_distinct : IsDistinct nat_eq []
unfolding IsDistinct
none_distinct = tt

-- ---- making the table

-- a view that knows of no indices fits any words
knows_nothing : (limits : CellLimits) (l : Layout) (words : List ℕ) (cell index : ℕ) → Contains {X = ℕ × ℕ} [] (cell, index) → StandsAt limits l words cell index
knows_nothing limits l words cell index there = absurd (contains_none (cell, index) there)

at_zero : (l : Layout) (words : List ℕ) (block : ℕ) → l.is_block block ≡ true → 0 ≤ get_or words block 0
at_zero l words block is = omega arith

pub opens : (limits : CellLimits) (l : Layout) (words : List ℕ) → IsLayout (limits_of limits) l → 1 ≤ limits.lanes → limits.numbers + limits.lanes < 2 ^ 32 → words ≡ replicate l.width 0 → Kept limits l (opening words [] (first_lane limits))
opens limits l words lay one few are = record {
  history = [];
  legal = legal_empty (IsAllowed (limits_of limits));
  wide = ap length are ∙ length-replicate l.width 0;
  sound = ap l.sound are ∙ lay.opening;
  cells_are = record {
    each = λ cell less. subst (IsCellAt [] words cell) (sym (all_open cell less)) refl;
    apart = λ cell other index less fewer p q. absurd (no_index (sym (all_open cell less) ∙ p));
  };
  few = few;
  count_is = record { left = λ less. sym zero_count; full = λ most. let none = zero_count in omega (arith, none, most) };
  beyond = record {
    lanes = [];
    once = none_distinct;
    within = λ n there. absurd (contains_none n there);
    reach = let none = zero_count in omega (arith, none);
    saw = λ i v n iv vn there. absurd (contains_none n there);
    born = λ i v d n iv vd there. absurd (contains_none n there);
  };
  fits = λ i v at. subst (Fits limits l words []) (only_one (first_lane limits) v i at).1 (record {
    seen_is = prefix_refl [];
    told_is = prefix_refl [];
    limits_are = λ n is. refl;
    lane_is = λ n is. let zero_is : 0 ≡ n = cc is in omega arith;
    own_is = λ n is. refl;
    indexed_are = knows_nothing limits l words;
    least_is = at_zero l words 0;
  });
  apart = λ i j v w n iv jw vn wn. (only_one (first_lane limits) v i iv).0 ∙ sym (only_one (first_lane limits) w j jw).0;
  one_giver = λ i j v w d e iv jw vd we. (only_one (first_lane limits) v i iv).0 ∙ sym (only_one (first_lane limits) w j jw).0;
  most = λ i v d iv vd. let p : Some 1 ≡ Some d = ap (λ (x : View). x.given) (only_one (first_lane limits) v i iv).1 ∙ vd in let first : 1 ≡ d = cc p in omega arith;
  below = λ i j v w n d iv jw vn wd.
      let p : Some 0 ≡ Some n = ap (λ (x : View). x.lane) (only_one (first_lane limits) v i iv).1 ∙ vn in
      let q : Some 1 ≡ Some d = ap (λ (x : View). x.given) (only_one (first_lane limits) w j jw).1 ∙ wd in
      let pn : 0 ≡ n = cc p in let qd : 1 ≡ d = cc q in omega arith;
  unborn = λ i v d n iv vd le. refl;
}
  where
    zero_count : get_or words l.count 0 ≡ 0
    zero_count = ap (λ (z : List ℕ). get_or z l.count 0) are ∙ at_zeros l.width l.count

    all_open : (cell : ℕ) → cell < limits.cells → l.stands words cell ≡ Open
    all_open cell less = ap (λ (z : List ℕ). l.stands z cell) are ∙ lay.all_open cell less

    no_index : {at : ℕ} → Open ≡ At at → ⊥
    no_index e = cc e

-- ---- where a view of a split table stood

data Stood (views : List View) (id : ℕ) (left right : View) (j : ℕ) (u : View) : Type 0 where
  cut : j ≡ id → left ≡ u → Stood views id left right j u
  beside : j ≢ id → get_elem? views j ≡ some u → Stood views id left right j u
  behind : j ≡ length views → right ≡ u → Stood views id left right j u

stood : (views : List View) (id : ℕ) (left right : View) (j : ℕ) (u : View) → get_elem? (set views id left ++ right ∷ []) j ≡ some u → Stood views id left right j u
stood views id left right j u e =
    ⊎_elim (λ old. ⊎_elim (λ t. cut t.0 t.1) (λ t. beside t.0 t.1) (at_set views id j left u old)) (λ t. behind (t.0 ∙ length-set views id left) t.1) (at_push (set views id left) right u j e)

-- ---- a further lane

module _ (limits : CellLimits) (l : Layout) (s : State (Act ℕ) View) (k : Kept limits l s) (id : ℕ) (v : View) (at : get_elem? s.views id ≡ some v) (d first : ℕ) (gives : v.given ≡ Some d) (mine : v.lane ≡ Some first) (few : d < limits.lanes) where
  -- a view with a number is an old one with this number, or the new lane
  abbrev Numbered : ℕ → ℕ → Type 0
  Numbered j n = ((u : View) × (get_elem? s.views j ≡ some u) × (u.lane ≡ Some n)) ⊎ ((j ≡ length s.views) × (n ≡ d))

  numbered : (j : ℕ) (u : View) (n : ℕ) → Stood s.views id (giving v) (born v) j u → u.lane ≡ Some n → Numbered j n
  numbered j u n (cut here is) e = inl (v, subst (λ z. get_elem? s.views z ≡ some v) (sym here) at, ap (λ (x : View). x.lane) is ∙ e)
  numbered j u n (beside other old) e = inl (u, old, e)
  numbered j u n (behind last is) e = inr (last, some_is (ap (λ (x : View). x.lane) is ∙ e) gives)

  -- the view with the count is that of the first lane
  counted : (j : ℕ) (u : View) (c : ℕ) → Stood s.views id (giving v) (born v) j u → u.given ≡ Some c → (j ≡ id) × (c ≡ d + 1)
  counted j u c (cut here is) e = (here, some_is (ap (λ (x : View). x.given) is ∙ e) (ap one_more gives))
  counted j u c (beside other old) e = absurd (other (k.one_giver j id u v c d old at e gives))
  counted j u c (behind last is) e = absurd (no_number (ap (λ (x : View). x.given) is ∙ e))

  split_fits : (j : ℕ) (u : View) → Stood s.views id (giving v) (born v) j u → Fits limits l s.words k.history u
  split_fits j u (cut here is) = let f = k.fits id v at in subst (Fits limits l s.words k.history) is (record { seen_is = f.seen_is; told_is = f.told_is; limits_are = f.limits_are; lane_is = f.lane_is; own_is = f.own_is; indexed_are = f.indexed_are; least_is = f.least_is })
  split_fits j u (beside other old) = k.fits j u old
  split_fits j u (behind last is) = let f = k.fits id v at in subst (Fits limits l s.words k.history) is (record {
    seen_is = (k.history, refl);
    told_is = (k.history, refl);
    limits_are = λ n e. f.limits_are first mine;
    lane_is = λ n e. let same : n ≡ d = some_is e gives in omega arith;
    own_is = λ n e. let same : n ≡ d = some_is e gives in k.unborn id v d n at gives (omega arith);
    indexed_are = knows_nothing limits l s.words;
    least_is = at_zero l s.words 0;
  })

  -- the new lane is none of those that found no number left
  split_saw : (j : ℕ) (u : View) (n : ℕ) → Stood s.views id (giving v) (born v) j u → u.lane ≡ Some n → Contains k.beyond.lanes n → limits.numbers ≤ (state_after (seen u.fronts)).drawn
  split_saw j u n (cut here is) e there =
      subst (λ (x : View). limits.numbers ≤ (state_after (seen x.fronts)).drawn) is (k.beyond.saw id v n at (ap (λ (x : View). x.lane) is ∙ e) there)
  split_saw j u n (beside other old) e there = k.beyond.saw j u n old e there
  split_saw j u n (behind last is) e there =
      let same : n ≡ d = some_is (ap (λ (x : View). x.lane) is ∙ e) gives in let less = k.beyond.born id v d n at gives there in absurd (omega (arith, same, less))

  one_number : (i j n : ℕ) → Numbered i n → Numbered j n → i ≡ j
  one_number i j n (inl p) (inl q) = k.apart i j p.0 q.0 n p.1 q.1 p.2 q.2
  one_number i j n (inl p) (inr q) = let l = k.below i id p.0 v n d p.1 at p.2 gives in let e = q.1 in absurd (omega arith)
  one_number i j n (inr p) (inl q) = let l = k.below j id q.0 v n d q.1 at q.2 gives in let e = p.1 in absurd (omega arith)
  one_number i j n (inr p) (inr q) = p.0 ∙ sym q.0

  below_more : (j n : ℕ) → Numbered j n → n < d + 1
  below_more j n (inl p) = let l = k.below j id p.0 v n d p.1 at p.2 gives in omega arith
  below_more j n (inr p) = let e = p.1 in omega arith

  lane_split : Kept limits l (record { words = s.words; homes = s.homes; views = set s.views id (giving v) ++ born v ∷ [] })
  lane_split = record {
    history = k.history;
    legal = k.legal;
    wide = k.wide;
    sound = k.sound;
    cells_are = k.cells_are;
    few = k.few;
    count_is = k.count_is;
    beyond = let b = k.beyond in record {
      lanes = b.lanes;
      once = b.once;
      within = b.within;
      reach = b.reach;
      saw = λ j u n e un there. split_saw j u n (stood s.views id (giving v) (born v) j u e) un there;
      born = λ j u c n e uc there. let t = (counted j u c (stood s.views id (giving v) (born v) j u e) uc).1 in let less = b.born id v d n at gives there in omega (arith, t, less);
    };
    fits = λ j u e. split_fits j u (stood s.views id (giving v) (born v) j u e);
    apart = λ i j x y n ix jy xn yn. one_number i j n (numbered i x n (stood s.views id (giving v) (born v) i x ix) xn) (numbered j y n (stood s.views id (giving v) (born v) j y jy) yn);
    one_giver = λ i j x y c e ix jy xc ye. (counted i x c (stood s.views id (giving v) (born v) i x ix) xc).0 ∙ sym (counted j y e (stood s.views id (giving v) (born v) j y jy) ye).0;
    most = λ i x c ix xc. let e = (counted i x c (stood s.views id (giving v) (born v) i x ix) xc).1 in omega arith;
    below = λ i j x y n c ix jy xn yc.
        let e = (counted j y c (stood s.views id (giving v) (born v) j y jy) yc).1 in
        let l = below_more i n (numbered i x n (stood s.views id (giving v) (born v) i x ix) xn) in omega arith;
    unborn = λ i x c n ix xc le. let e = (counted i x c (stood s.views id (giving v) (born v) i x ix) xc).1 in k.unborn id v d n at gives (omega arith);
  }

pub splits_lane : (limits : CellLimits) (l : Layout) (id : ℕ) (v : View) (d first : ℕ) → v.given ≡ Some d → v.lane ≡ Some first → d < limits.lanes → Splits (Kept limits l) id v (giving v) (born v)
splits_lane limits l id v d first gives mine few s k at = lane_split limits l s k id v at d first gives mine few

-- ---- notes

-- a view without a number and a count
abbrev IsQuiet : View → Type 0
IsQuiet v = (v.lane ≡ None) × (v.given ≡ None)

-- a view that stands has neither, or the ones that it had
abbrev Came : State (Act ℕ) View → ℕ → View → Type 0
Came s j u = IsQuiet u ⊎ ((x : View) × (get_elem? s.views j ≡ some x) × (x.lane ≡ u.lane) × (x.given ≡ u.given) × (x.fronts ≡ u.fronts))

relabel : (limits : CellLimits) (l : Layout) (s : State (Act ℕ) View) (k : Kept limits l s) (views : List View) → ((j : ℕ) (u : View) → get_elem? views j ≡ some u → Fits limits l s.words k.history u)
    → ((j : ℕ) (u : View) → get_elem? views j ≡ some u → Came s j u) → Kept limits l (record { words = s.words; homes = s.homes; views = views })
relabel limits l s k views fits from = record {
  history = k.history;
  legal = k.legal;
  wide = k.wide;
  sound = k.sound;
  cells_are = k.cells_are;
  few = k.few;
  count_is = k.count_is;
  beyond = let b = k.beyond in record {
    lanes = b.lanes;
    once = b.once;
    within = b.within;
    reach = b.reach;
    saw = λ j u n e un there. let a = lane_of j u n e un in subst (λ (fronts : List History). limits.numbers ≤ (state_after (seen fronts)).drawn) a.3 (b.saw j a.0 n a.1 a.2 there);
    born = λ j u c n e uc there. let a = count_of j u c e uc in b.born j a.0 c n a.1 a.2 there;
  };
  fits = fits;
  apart = λ i j x y n ix jy xn yn. let a = lane_of i x n ix xn in let b = lane_of j y n jy yn in k.apart i j a.0 b.0 n a.1 b.1 a.2 b.2;
  one_giver = λ i j x y c e ix jy xc ye. let a = count_of i x c ix xc in let b = count_of j y e jy ye in k.one_giver i j a.0 b.0 c e a.1 b.1 a.2 b.2;
  most = λ i x c ix xc. let a = count_of i x c ix xc in k.most i a.0 c a.1 a.2;
  below = λ i j x y n c ix jy xn yc. let a = lane_of i x n ix xn in let b = count_of j y c jy yc in k.below i j a.0 b.0 n c a.1 b.1 a.2 b.2;
  unborn = λ i x c n ix xc le. let a = count_of i x c ix xc in k.unborn i a.0 c n a.1 a.2 le;
}
  where
    lane_of : (j : ℕ) (u : View) (n : ℕ) → get_elem? views j ≡ some u → u.lane ≡ Some n → (x : View) × (get_elem? s.views j ≡ some x) × (x.lane ≡ Some n) × (x.fronts ≡ u.fronts)
    lane_of j u n there e = ⊎_elim (λ q. absurd (no_number (sym q.0 ∙ e))) (λ p. (p.0, p.1, p.2 ∙ e, p.4)) (from j u there)

    count_of : (j : ℕ) (u : View) (c : ℕ) → get_elem? views j ≡ some u → u.given ≡ Some c → (x : View) × (get_elem? s.views j ≡ some x) × (x.given ≡ Some c)
    count_of j u c there e = ⊎_elim (λ q. absurd (no_number (sym q.1 ∙ e))) (λ p. (p.0, p.1, p.3 ∙ e)) (from j u there)

note_fits : (limits : CellLimits) (l : Layout) (words : List ℕ) (h : History) (v : View) → Fits limits l words h v → Fits limits l words h (note v)
note_fits limits l words h v f = record {
  seen_is = (h, refl);
  told_is = f.seen_is;
  limits_are = λ n e. absurd (no_number e);
  lane_is = λ n e. absurd (no_number e);
  own_is = λ n e. absurd (no_number e);
  indexed_are = knows_nothing limits l words;
  least_is = at_zero l words 0;
}

note_stays : (limits : CellLimits) (l : Layout) (s : State (Act ℕ) View) (k : Kept limits l s) (id : ℕ) (v : View) → get_elem? s.views id ≡ some v → (j : ℕ) (u : View) → Stood s.views id v (note v) j u → Fits limits l s.words k.history u
note_stays limits l s k id v at j u (cut here is) = subst (Fits limits l s.words k.history) is (k.fits id v at)
note_stays limits l s k id v at j u (beside other old) = k.fits j u old
note_stays limits l s k id v at j u (behind last is) = subst (Fits limits l s.words k.history) is (note_fits limits l s.words k.history v (k.fits id v at))

note_from : (s : State (Act ℕ) View) (id : ℕ) (v : View) → get_elem? s.views id ≡ some v → (j : ℕ) (u : View) → Stood s.views id v (note v) j u → Came s j u
note_from s id v at j u (cut here is) = inr (v, subst (λ z. get_elem? s.views z ≡ some v) (sym here) at, ap (λ (x : View). x.lane) is, ap (λ (x : View). x.given) is, ap (λ (x : View). x.fronts) is)
note_from s id v at j u (beside other old) = inr (u, old, refl, refl, refl)
note_from s id v at j u (behind last is) = inl (sym (ap (λ (x : View). x.lane) is), sym (ap (λ (x : View). x.given) is))

-- a note is split off,
pub splits_note : (limits : CellLimits) (l : Layout) (id : ℕ) (v : View) → Splits (Kept limits l) id v v (note v)
splits_note limits l id v s k at = relabel limits l s k (set s.views id v ++ note v ∷ [])
    (λ j u e. note_stays limits l s k id v at j u (stood s.views id v (note v) j u e))
    (λ j u e. note_from s id v at j u (stood s.views id v (note v) j u e))

noted_fits : (limits : CellLimits) (l : Layout) (words : List ℕ) (h : History) (v w : View) → Fits limits l words h v → Fits limits l words h w → Fits limits l words h (noted v w)
noted_fits limits l words h v w f g = record { seen_is = f.seen_is; told_is = g.told_is; limits_are = f.limits_are; lane_is = f.lane_is; own_is = f.own_is; indexed_are = f.indexed_are; least_is = f.least_is }

spent_fits : (limits : CellLimits) (l : Layout) (words : List ℕ) (h : History) → Fits limits l words h spent
spent_fits limits l words h = record {
  seen_is = (h, refl);
  told_is = (h, refl);
  limits_are = λ n e. absurd (no_number e);
  lane_is = λ n e. absurd (no_number e);
  own_is = λ n e. absurd (no_number e);
  indexed_are = knows_nothing limits l words;
  least_is = at_zero l words 0;
}

-- and taken in
pub joins_note : (limits : CellLimits) (l : Layout) (id other : ℕ) (v w : View) → Joins (Kept limits l) id v other w (noted v w) spent
joins_note limits l id other v w s k at apart there =
    let old : get_elem? s.views other ≡ some w = ⊎_elim (λ t. absurd (apart t.0)) (λ t. t.1) (at_set s.views id other (noted v w) w there) in
    relabel limits l s k (set (set s.views id (noted v w)) other spent)
    (λ j u e. ⊎_elim
    (λ t. subst (Fits limits l s.words k.history) t.1 (spent_fits limits l s.words k.history))
    (λ t. ⊎_elim (λ x. subst (Fits limits l s.words k.history) x.1 (noted_fits limits l s.words k.history v w (k.fits id v at) (k.fits other w old))) (λ x. k.fits j u x.1) (at_set s.views id j (noted v w) u t.1))
    (at_set (set s.views id (noted v w)) other j spent u e))
    (λ j u e. ⊎_elim
    (λ t. inl (sym (ap (λ (x : View). x.lane) t.1), sym (ap (λ (x : View). x.given) t.1)))
    (λ t. ⊎_elim (λ x. inr (v, subst (λ z. get_elem? s.views z ≡ some v) (sym x.0) at, ap (λ (z : View). z.lane) x.1, ap (λ (z : View). z.given) x.1, ap (λ (z : View). z.fronts) x.1)) (λ x. inr (u, x.1, refl, refl, refl)) (at_set s.views id j (noted v w) u t.1))
    (at_set (set s.views id (noted v w)) other j spent u e))
