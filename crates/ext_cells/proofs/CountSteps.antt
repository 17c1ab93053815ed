-- A load of the count, and an addition to it, which draws the next number if one is left, keep the rule, and tell what
-- they found.
use Rattle.std.proofs.Common.{◌≡◌, ◌⊎◌, inl, inr, ℕ, ◌+◌, ◌<◌, ◌≤◌, ◌^◌, List, [], ◌∷◌, ◌++◌, length, get_or, set, arith, refl, sym, ap, ◌∙◌, subst, Some, Contains, get_or-set_same, length-set, length-append}
use Rattle.std.specs.Prelude.{nat_lt, ◌%◌}
use Rattle.std.specs.Cmp.{nat_eq_equiv}
use Rattle.std.proofs.Math.Nat.{mod-eq_of_lt}
use Rattle.std.proofs.lemmas.List.Elements.{Contains-push_cases}
use Rattle.std.proofs.lemmas.Map.Keys.{IsDistinct-push}
use Rattle.std.proofs.lemmas.Map.Steps.{length-le_from_distinct_below}
use Rattle.std.proofs.lemmas.Map.Views.{Contains-from_any}
use mathlib.Core.Option.{some}
use mathlib.Core.List.{IsPrefix}
use base.Growing.{prefix_refl}
use lib.ListN.{get_elem?}
use Rattle.atomic_table.specs.Table.{State, Me, keeps, Allows}
use Rattle.atomic_table.proofs.Lists.{at_set}
use Rattle.ext_model.specs.declared.event.Act.{Act}
use Rattle.ext_model.specs.declared.event.Act.TheVariants.{Keep}
use Rattle.ext_model.specs.History.{History, by, lane_of, own, state_after, IsAllowed, IsLegal}
use Rattle.ext_model.proofs.Words.{drawn-push}
use Rattle.ext_history.specs.Histories.{seen}
use Rattle.ext_history.proofs.Fronts.{last_append}
use Rattle.ext_history.proofs.Legal.{legal_push}
use Rattle.ext_history.proofs.Lists.{bools}
use Rattle.ext_history.proofs.Lanes.{own_push_other}
use Rattle.ext_cells.specs.declared.limits.CellLimits.{CellLimits}
use Rattle.ext_cells.specs.declared.view.View.{View}
use Rattle.ext_cells.specs.Standings.{At, AreCellsOf}
use Rattle.ext_cells.specs.InnerLayouts.{Layout, IsLayout}
use Rattle.ext_cells.specs.InnerViews.{limits_of, shown}
use Rattle.ext_cells.specs.InnerTableSteps.{Counts, FoundBy, CountLoaded, Drawn}
use Rattle.ext_cells.specs.InnerRule.{Beyond, Kept}
use Rattle.ext_cells.specs.InnerMarks.{marks}
use Rattle.ext_cells.specs.InnerSteps.{Found, Made}
use Rattle.ext_cells.proofs.Standings as standing
use Rattle.ext_cells.proofs.Passing.{behind, in_front}
use Rattle.ext_cells.proofs.Drawing as drawing
use Rattle.ext_cells.proofs.Drawn.{same_number, absent}
use Rattle.ext_cells.proofs.Known.{found}
use Rattle.ext_cells.proofs.Marked.{is_layout}
use Rattle.ext_cells.proofs.MarkSteps.{is_shown, shown_word}
use Rattle.ext_cells.proofs.Going.{Follows, fits_shown, shown_draws, was, still_saw, still_born, beyond_stays, goes_beyond}
use Rattle.ext_cells.proofs.WordSteps.{off_blocks, restand, shows, one_lane}

-- ---- what a count says

or_full : (count numbers : ℕ) → (count < numbers) ⊎ (numbers ≤ count)
or_full count numbers = elim (bools (nat_lt count numbers)) [
  | inl is ↦ inl (behind count numbers is)
  | inr is ↦ inr (in_front count numbers is)
]

pub one_count : (numbers count drawn other : ℕ) → Counts numbers count drawn → Counts numbers count other → drawn ≡ other
one_count numbers count drawn other a b = elim (or_full count numbers) [
  | inl less ↦ a.left less ∙ sym (b.left less)
  | inr most ↦ a.full most ∙ sym (b.full most)
]

module _ (limits : CellLimits) (l : Layout) (s : State (Act ℕ) View) (k : Kept limits l s) (id : ℕ) (v : View) (lane : ℕ) (mine : v.lane ≡ Some lane) (at : get_elem? s.views id ≡ some v) where
  own_limits : v.limits ≡ limits
  own_limits = (k.fits id v at).limits_are lane mine

  finds : (drawn : ℕ) → drawn ≡ (state_after k.history).drawn → FoundBy v v.limits.cells drawn k.history
  finds drawn is =
      let same = ap (λ (x : CellLimits). x.cells) own_limits in
      found limits l s k id v.limits.cells drawn v lane mine at (record { cell = λ less. absurd (omega (arith, less, same)); count = λ last. is })

-- ---- a load

pub loads_count : (limits : CellLimits) (l : Layout) (slots id : ℕ) (me : Me (Act ℕ) View) (lane : ℕ) → me.0.lane ≡ Some lane
    → Allows (Kept limits l) slots id me l.count (λ n. n) (CountLoaded me)
loads_count limits l slots id me lane mine s k _ at _ = (
  shown me.0 k.history,
  keeps,
  tt,
  shows limits l s k id l.count me.0 at,
  (
    (state_after k.history).drawn,
    subst (λ (x : CellLimits). Counts x.numbers (get_or s.words l.count 0) (state_after k.history).drawn) (sym (own_limits limits l s k id me.0 lane mine at)) k.count_is,
    (k.history, finds limits l s k id me.0 lane mine at (state_after k.history).drawn refl, refl),
  ),
)

-- ---- an addition

module _ (limits : CellLimits) (l : Layout) (lay : IsLayout (limits_of limits) l) (s : State (Act ℕ) View) (k : Kept limits l s) (id : ℕ) (v : View) (lane : ℕ) (mine : v.lane ≡ Some lane) (at : get_elem? s.views id ≡ some v)
    (left : (state_after (seen v.fronts)).drawn < limits.numbers) where
  abbrev word : ℕ
  word = get_or s.words l.count 0

  abbrev later : List ℕ
  later = set s.words l.count (word + 1)

  -- the lane is none of those that found no number left
  first : Contains k.beyond.lanes lane → ⊥
  first there = let saw = k.beyond.saw id v lane at mine there in absurd (omega (arith, left, saw))

  pub room : word + 1 < 2 ^ 64
  room =
      let few = k.few in
      let reach = k.beyond.reach in
      let most : length k.beyond.lanes ≤ limits.lanes = length-le_from_distinct_below k.beyond.lanes limits.lanes k.beyond.once (λ q is. k.beyond.within q (Contains-from_any same_number q k.beyond.lanes is)) in
      omega (arith, few, reach, most)

  at_count : get_or later l.count 0 ≡ word + 1
  at_count = let w = k.wide in let less = lay.count_is.0 in get_or-set_same s.words l.count (word + 1) 0 (omega (arith, w, less))

  no_cell : (cell : ℕ) → cell < limits.cells → l.stands s.words cell ≡ At l.count → ⊥
  no_cell cell less there = (lay.indices s.words cell l.count k.sound less there).2 refl

  follows : Follows limits l s.words later
  follows = off_blocks limits l s.words l.count (word + 1) lay lay.count_is.1

  added : (h : History) → IsPrefix k.history h → IsLegal (limits_of limits) h → ((n : ℕ) → (v.lane ≡ Some n → ⊥) → own n h ≡ own n k.history)
      → AreCellsOf (limits_of limits) (l.stands s.words) h later → Counts limits.numbers (word + 1) (state_after h).drawn → Beyond limits (set s.views id (shown v h)) (word + 1)
      → Kept limits l (record { words = later; homes = s.homes; views = set s.views id (shown v h) })
  added h longer legal others are counts beyond =
      let f = k.fits id v at in
      goes_beyond limits l s k id v (shown v h) at refl refl (shown_draws v k.history h f.seen_is longer) h longer legal others later follows (length-set s.words l.count (word + 1) ∙ k.wide) (lay.draws s.words (word + 1) k.sound)
      (restand (limits_of limits) (l.stands s.words) (l.stands later) h later (λ cell. lay.steady s.words l.count (word + 1) cell lay.count_is.1) are)
      (subst (λ n. Counts limits.numbers n (state_after h).drawn) (sym at_count) counts)
      (subst (λ n. Beyond limits (set s.views id (shown v h)) n) (sym at_count) beyond)
      (fits_shown limits l s.words later k.history v follows f h)

  stays : (h : History) → IsPrefix k.history h → (count : ℕ) → count ≤ limits.numbers + length k.beyond.lanes → Beyond limits (set s.views id (shown v h)) count
  stays h longer count reach = beyond_stays limits l s k id v (shown v h) at refl refl (shown_draws v k.history h (k.fits id v at).seen_is longer) count reach

  -- a number is left
  module _ (less : word < limits.numbers) where
    abbrev after : History
    after = k.history ++ by lane (Keep (word + 1)) ∷ []

    drawn_before : (state_after k.history).drawn ≡ word
    drawn_before = k.count_is.left less

    pub may_draw : IsAllowed (limits_of limits) k.history (by lane (Keep (word + 1)))
    may_draw =
        let few : (state_after k.history).drawn < limits.numbers = omega (arith, less, drawn_before) in record {
          lane = (k.fits id v at).lane_is lane mine;
          within = tt;
          happens = (Some ((state_after k.history).drawn + 1), drawing.keeps limits.numbers (state_after k.history).drawn few);
          next = ap (λ n. n + 1) (sym drawn_before);
          drew = tt;
          fresh = tt;
          keeps = tt;
        }

    pub draws : Kept limits l (record { words = later; homes = s.homes; views = set s.views id (shown v after) })
    draws =
        let now : (state_after after).drawn ≡ (state_after k.history).drawn + 1 = drawn-push k.history (by lane (Keep (word + 1))) in
        let before = drawn_before in
        let longer : IsPrefix k.history after = (by lane (Keep (word + 1)) ∷ [], refl) in
        added after longer (legal_push k.history (by lane (Keep (word + 1))) k.legal may_draw) (λ j other. own_push_other lane_of j k.history (by lane (Keep (word + 1))) (λ is. other (mine ∙ ap Some is)))
        (standing.drawn (limits_of limits) (l.stands s.words) k.history s.words lane (Keep (word + 1)) l.count (word + 1) k.cells_are refl no_cell)
        (record { left = λ fewer. now ∙ ap (λ n. n + 1) before; full = λ most. omega (arith, now, before, less, most) })
        (stays after longer (word + 1) (omega (arith, less)))

  -- no number is left
  module _ (most : limits.numbers ≤ word) where
    drawn_all : (state_after k.history).drawn ≡ limits.numbers
    drawn_all = k.count_is.full most

    one_more : Beyond limits (set s.views id (shown v k.history)) (word + 1)
    one_more =
        let b = k.beyond in
        let draws = shown_draws v k.history k.history (k.fits id v at).seen_is (prefix_refl k.history) in record {
          lanes = b.lanes ++ lane ∷ [];
          once = IsDistinct-push nat_eq_equiv b.lanes lane b.once (absent b.lanes lane _ refl first);
          within = λ n there. elim (Contains-push_cases b.lanes lane n there) [
            | inl old ↦ b.within n old
            | inr new ↦ subst (λ x. x < limits.lanes) new ((k.fits id v at).lane_is lane mine)
          ];
          reach = let reach = b.reach in let long = length-append b.lanes (lane ∷ []) in omega (arith, reach, long);
          saw = λ i x n ix xn there. elim (Contains-push_cases b.lanes lane n there) [
            | inl old ↦ still_saw limits l s k id v (shown v k.history) at refl refl draws i x n ix xn old
            | inr new ↦ elim (at_set s.views id i (shown v k.history) x ix) [
              | inl t ↦ subst (λ (z : View). limits.numbers ≤ (state_after (seen z.fronts)).drawn) t.1
                  (subst (λ (z : History). limits.numbers ≤ (state_after z).drawn) (sym (last_append [] v.fronts (k.history ∷ []))) (let all = drawn_all in omega (arith, all)))
              | inr t ↦ absurd (t.0 (k.apart i id x v n t.1 at xn (mine ∙ ap Some new)))
            ]
          ];
          born = λ i x d n ix xd there. elim (Contains-push_cases b.lanes lane n there) [
            | inl old ↦ still_born limits l s k id v (shown v k.history) at refl refl draws i x d n ix xd old
            | inr new ↦ subst (λ z. z < d) new (let a = was limits l s k id v (shown v k.history) at refl refl draws i x ix in
                k.below id i v a.0 lane d at a.1 mine (a.3 ∙ xd))
          ];
        }

    pub finds_none : Kept limits l (record { words = later; homes = s.homes; views = set s.views id (shown v k.history) })
    finds_none =
        added k.history (prefix_refl k.history) k.legal (λ n _. refl)
        (standing.beside (limits_of limits) (l.stands s.words) k.history s.words l.count (word + 1) k.cells_are no_cell)
        (record { left = λ fewer. absurd (omega (arith, most, fewer)); full = λ _. drawn_all })
        one_more

pub adds : (limits : CellLimits) (l : Layout) (slots id : ℕ) (me : Me (Act ℕ) View) (lane : ℕ) → IsLayout (limits_of limits) l → me.0.lane ≡ Some lane → (state_after (seen me.0.fronts)).drawn < me.0.limits.numbers
    → Allows (Kept limits l) slots id me l.count (λ n. (n + 1) % 2 ^ 64) (Drawn me)
adds limits l slots id me lane lay mine one s k _ at _ =
    let v = me.0 in
    let same : v.limits ≡ limits = own_limits limits l s k id v lane mine at in
    let n = get_or s.words l.count 0 in
    let left : (state_after (seen v.fronts)).drawn < limits.numbers = subst (λ (x : CellLimits). (state_after (seen v.fronts)).drawn < x.numbers) same one in
    let fits : (n + 1) % 2 ^ 64 ≡ n + 1 = mod-eq_of_lt (room limits l lay s k id v lane mine at left) in
    let whole = ap (λ (x : CellLimits). x.numbers) same in
    elim (or_full n limits.numbers) [
      | inl less ↦ let h = k.history ++ by lane (Keep (n + 1)) ∷ [] in (
        shown v h,
        keeps,
        tt,
        subst (λ m. Kept limits l (record { words = set s.words l.count m; homes = s.homes; views = set s.views id (shown v h) })) (sym fits) (draws limits l lay s k id v lane mine at left less),
        record {
          drew = λ fewer other is. subst (λ j. (g : History) × FoundBy v v.limits.cells n g × IsAllowed (limits_of v.limits) g (by j (Keep (n + 1))) × ◌≡◌ {A = Me (Act ℕ) View} (shown v h, me.1) (shown v (g ++ by j (Keep (n + 1)) ∷ []), me.1)) (one_lane mine is) (
            k.history,
            finds limits l s k id v lane mine at n (sym (k.count_is.left less)),
            subst (λ (x : CellLimits). IsAllowed (limits_of x) k.history (by lane (Keep (n + 1)))) (sym same) (may_draw limits l lay s k id v lane mine at left less),
            refl,
          );
          full = λ most. absurd (omega (arith, less, most, whole));
        },
      )
      | inr most ↦ (
        shown v k.history,
        keeps,
        tt,
        subst (λ m. Kept limits l (record { words = set s.words l.count m; homes = s.homes; views = set s.views id (shown v k.history) })) (sym fits) (finds_none limits l lay s k id v lane mine at left most),
        record {
          drew = λ fewer. absurd (omega (arith, most, fewer, whole));
          full = λ _. (k.history, finds limits l s k id v lane mine at v.limits.numbers (let all = k.count_is.full most in omega (arith, all, whole)), refl);
        },
      )
    ]

-- ---- as marks lay out the words

module _ (limits : CellLimits) (slots id : ℕ) (me : Me (Act ℕ) View) (cells lane : ℕ) (same : limits.cells ≡ cells) (mine : me.0.lane ≡ Some lane) where
  pub may_load_count : Allows (Kept limits (marks limits.cells)) slots id me cells (λ n. n) (CountLoaded me)
  may_load_count = subst (λ index. Allows (Kept limits (marks limits.cells)) slots id me index (λ n. n) (CountLoaded me)) same (loads_count limits (marks limits.cells) slots id me lane mine)

  pub may_add : (state_after (seen me.0.fronts)).drawn < me.0.limits.numbers → Allows (Kept limits (marks limits.cells)) slots id me cells (λ n. (n + 1) % 2 ^ 64) (Drawn me)
  may_add left = subst (λ index. Allows (Kept limits (marks limits.cells)) slots id me index (λ n. (n + 1) % 2 ^ 64) (Drawn me)) same (adds limits (marks limits.cells) slots id me lane (is_layout (limits_of limits)) mine left)

pub count_shown : (me now : Me (Act ℕ) View) (cells found drawn : ℕ) → me.0.limits.cells ≡ cells → CountLoaded me found now → Counts me.0.limits.numbers found drawn → (h : History) × FoundBy me.0 cells drawn h × (now.0 ≡ shown me.0 h)
count_shown me now cells found drawn known on counts =
    let same : on.0 ≡ drawn = one_count me.0.limits.numbers found on.0 drawn on.1 counts in (
      on.2.0,
      subst (λ (t : ℕ × ℕ). FoundBy me.0 t.0 t.1 on.2.0) (λ i. (known i, same i)) on.2.1,
      ap (λ z. z.0) on.2.2,
    )

pub drawn_made : (me now : Me (Act ℕ) View) (found : ℕ) → Drawn me found now → found < me.0.limits.numbers → Made me.0 now.0 me.0.limits.cells found (Keep (found + 1))
drawn_made me now found on less lane mine =
    let d = on.drew less lane mine in
    (d.0, d.1, d.2, is_shown me.0 now.0 (d.0 ++ by lane (Keep (found + 1)) ∷ []) (ap (λ z. z.0) d.3))

pub drawn_full : (me now : Me (Act ℕ) View) (found : ℕ) → Drawn me found now → me.0.limits.numbers ≤ found → Found me.0 now.0 me.0.limits.cells me.0.limits.numbers
drawn_full me now found on most = shown_word me now me.0.limits.cells me.0.limits.numbers (on.full most)
