-- A count of events that never falls rises by at least so many in the whole call where it does in a part of it.
use Rattle.std.proofs.Common.{◌≡◌, ℕ, ◌+◌, ◌≤◌, List, [], ◌∷◌, ◌++◌, fold, sym, ap, ◌∙◌, subst, arith}
use Rattle.std.specs.Prelude.{nat_eq}
use mathlib.Core.List.{IsPrefix}
use Rattle.ext_model.specs.declared.event.Act.{Act}
use Rattle.ext_model.specs.declared.event.Act.TheVariants.{Keep, Put, Remove, Claim, Fill, Fail, Abandon, Seal}
use Rattle.ext_model.specs.Events.{apply, drawn_after}
use Rattle.ext_model.specs.State.{State}
use Rattle.ext_model.specs.History.{History, Limits, state_after, version_of}
use Rattle.ext_model.proofs.Versions.{after-append, versions, version-append, versions-append}
use Rattle.ext_model.specs.CallActs.{LaneView, Calls}
use Rattle.ext_history.specs.Histories.{Follow, call_fronts, first_front, first_or, last_after, seen_by}
use Rattle.ext_history.proofs.Composed.{first_is_earlier, follow_on, fronts_compose, seen_is}
use Rattle.ext_history.proofs.Fronts.{first_to_last, follow_last}

-- the versions of a cell, and of several cells together, never fall
pub version_grows : (cell : ℕ) (x y : History) → IsPrefix x y → version_of x cell ≤ version_of y cell
version_grows cell x y on = let v : version_of y cell ≡ version_of x cell + version_of on.0 cell = ap (λ z. version_of z cell) (sym on.1) ∙ version-append x on.0 cell in omega (arith, v)

pub versions_grow : (cells : List ℕ) (x y : History) → IsPrefix x y → versions x cells ≤ versions y cells
versions_grow cells x y on = let v : versions y cells ≡ versions x cells + versions on.0 cells = ap (λ z. versions z cells) (sym on.1) ∙ versions-append x on.0 cells in omega (arith, v)

-- nor does the count of numbers drawn
act_draws : (act : Act ℕ) (drawn : ℕ) → drawn ≤ drawn_after act drawn
act_draws (Keep number) drawn = omega arith
act_draws (Put at number) drawn = omega arith
act_draws (Remove at) drawn = omega arith
act_draws (Claim at) drawn = omega arith
act_draws (Fill at number) drawn = omega arith
act_draws (Fail at number) drawn = omega arith
act_draws (Abandon at) drawn = omega arith
act_draws (Seal at) drawn = omega arith

never_falls : (rest : History) (s : State ℕ) → s.drawn ≤ (fold (apply nat_eq) s rest).drawn
never_falls [] s = omega arith
never_falls (e ∷ rest) s =
    let one = act_draws e.act s.drawn in
    let more = never_falls rest (apply nat_eq s e) in
    omega (arith, one, more)

pub drawn_grows : (x y : History) → IsPrefix x y → (state_after x).drawn ≤ (state_after y).drawn
drawn_grows x y on =
    let same : (state_after y).drawn ≡ (fold (apply nat_eq) (state_after x) on.0).drawn = ap (λ z. (state_after z).drawn) (sym on.1) ∙ ap (λ (s : State ℕ). s.drawn) (after-append x on.0) in
    let more = never_falls on.0 (state_after x) in
    omega (arith, same, more)

module _ (count : History → ℕ) (grows : (x y : History) → IsPrefix x y → count x ≤ count y) (tries : ℕ) where
  by_fronts : (h now later : History) (fs gs : List History) → Follow (last_after h fs) gs → now ≡ last_after h fs → later ≡ last_after (last_after h fs) gs → count (first_or h fs) + tries ≤ count now
      → count (first_or h (fs ++ gs)) + tries ≤ count later
  by_fronts h now later [] gs two now_is later_is rises =
      let none = ap count now_is in
      let end = ap count later_is in
      let more = grows (first_or h gs) (last_after h gs) (first_to_last h gs two) in
      omega (arith, rises, none, end, more)
  by_fronts h now later (f ∷ fs) gs two now_is later_is rises =
      let is = ap count now_is in
      let end = ap count later_is in
      let more = grows (last_after f fs) (last_after (last_after f fs) gs) (follow_last (last_after f fs) gs two) in
      omega (arith, rises, is, end, more)

  module _ (limits : Limits) (a b c : LaneView) (xs ys : List (Act ℕ)) (one : Calls limits a b xs) (two : Calls limits b c ys) where
    -- in the first part,
    pub rises_first : count (first_front a b) + tries ≤ count (seen_by b) → count (first_front a c) + tries ≤ count (seen_by c)
    rises_first rises =
        subst (λ fs. count (first_or (seen_by a) fs) + tries ≤ count (seen_by c)) (sym (fronts_compose one two))
        (by_fronts (seen_by a) (seen_by b) (seen_by c) (call_fronts a b) (call_fronts b c) (follow_on one two) (seen_is one) (seen_is two ∙ ap (λ z. last_after z (call_fronts b c)) (seen_is one)) rises)

    -- or in the second
    pub rises_second : count (first_front b c) + tries ≤ count (seen_by c) → count (first_front a c) + tries ≤ count (seen_by c)
    rises_second rises = let earlier = grows (first_front a c) (first_front b c) (first_is_earlier one two) in omega (arith, rises, earlier)
