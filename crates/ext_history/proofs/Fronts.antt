-- Lists of fronts, each of which goes on from the one before it.
use Rattle.std.proofs.Common.{◌≡◌, ◌≤◌, List, [], ◌∷◌, ◌++◌, length, refl, ap, sym, subst, arith, append_assoc, append-nil}
use mathlib.Core.List.{IsPrefix}
use base.Growing.{prefix_refl, prefix_trans}
use Rattle.ext_history.specs.Histories.{LaneView, last_after, first_or, seen_by, Follow, moved, call_fronts}
use Rattle.ext_history.proofs.Lists.{drop_front}

module _ {E : Type 0} where
  pub last_append : (h : List E) (fs gs : List (List E)) → last_after h (fs ++ gs) ≡ last_after (last_after h fs) gs
  last_append h [] gs = refl
  last_append h (f ∷ fs) gs = last_append f fs gs

  pub follow_last : (h : List E) (fs : List (List E)) → Follow h fs → IsPrefix h (last_after h fs)
  follow_last h [] all = prefix_refl h
  follow_last h (f ∷ fs) all = prefix_trans h f (last_after f fs) all.0 (follow_last f fs all.1)

  pub follow_append : (h : List E) (fs gs : List (List E)) → Follow h fs → Follow (last_after h fs) gs → Follow h (fs ++ gs)
  follow_append h [] gs one two = two
  follow_append h (f ∷ fs) gs one two = (one.0, follow_append f fs gs one.1 two)

  pub first_follows : (h : List E) (fs : List (List E)) → Follow h fs → IsPrefix h (first_or h fs)
  first_follows h [] all = prefix_refl h
  first_follows h (f ∷ fs) all = all.0

  pub first_to_last : (h : List E) (fs : List (List E)) → Follow h fs → IsPrefix (first_or h fs) (last_after h fs)
  first_to_last h [] all = prefix_refl h
  first_to_last h (f ∷ fs) all = follow_last f fs all.1

  -- the first of two lists of fronts has the first front, where it has one
  pub first_append : (h : List E) (fs gs : List (List E)) → 1 ≤ length fs → first_or h (fs ++ gs) ≡ first_or h fs
  first_append h [] gs some = absurd (omega arith)
  first_append h (f ∷ fs) gs some = refl

  pub first_or_later : (h : List E) (fs gs : List (List E)) → Follow h fs → Follow (last_after h fs) gs → IsPrefix (first_or h (fs ++ gs)) (first_or (last_after h fs) gs)
  first_or_later h [] gs one two = prefix_refl (first_or h gs)
  first_or_later h (f ∷ fs) gs one two = prefix_trans f (last_after f fs) (first_or (last_after f fs) gs) (follow_last f fs one.1) (first_follows (last_after f fs) gs two)

  pub steps_second : (fs gs all : List (List E)) → all ≡ fs ++ gs → 1 ≤ length gs → 1 ≤ length all
  steps_second [] gs all is some = subst (λ z. 1 ≤ length z) (sym is) some
  steps_second (f ∷ fs) gs all is some = subst (λ z. 1 ≤ length z) (sym is) (omega arith)

  pub steps_first : (fs gs all : List (List E)) → all ≡ fs ++ gs → 1 ≤ length fs → 1 ≤ length all
  steps_first [] gs all is some = absurd (omega arith)
  steps_first (f ∷ fs) gs all is some = subst (λ z. 1 ≤ length z) (sym is) (omega arith)

  -- ---- a lane with further fronts

  pub moved_fronts : (before : LaneView E) (added : List (List E)) → call_fronts before (moved before added) ≡ added
  moved_fronts before added = drop_front before.fronts added

  pub moved_seen : (before : LaneView E) (added : List (List E)) → seen_by (moved before added) ≡ last_after (seen_by before) added
  moved_seen before added = last_append [] before.fronts added

  -- one front more
  pub moved_once : (lane : LaneView E) (h : List E) → length (call_fronts lane (moved lane (h ∷ []))) ≡ 1
  moved_once lane h = ap length (moved_fronts lane (h ∷ []))

  pub moved_none : (lane : LaneView E) → moved lane [] ≡ lane
  moved_none lane = λ i. record { number = lane.number; fronts = append-nil lane.fronts i }

  pub moved_again : (before : LaneView E) (fs gs : List (List E)) → moved (moved before fs) gs ≡ moved before (fs ++ gs)
  moved_again before fs gs = λ i. record { number = before.number; fronts = append_assoc before.fronts fs gs i }
