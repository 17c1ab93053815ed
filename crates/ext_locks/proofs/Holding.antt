-- What a lane holds after a step.
use Rattle.std.proofs.Common.{◌≡◌, ◌≢◌, ◌&&◌, ℕ, ◌+◌, ◌<◌, ◌≤◌, Bool, true, false, if◌then◌else◌, List, [], ◌∷◌, ◌++◌, length, Option, Some, None, slice_index_or, refl, sym, ap, ◌∙◌, subst, ⊎_elim, arith}
use Rattle.std.proofs.lemmas.Bool.{cond_both, both_ways, and_from, and_left, and_right, false_from_ne_true, cases_eq, cases_lt, eq-eqb}
use Rattle.std.proofs.lemmas.List.{get_or_past}
use Rattle.std.proofs.lemmas.Bool.Decides.{nat_tests}
use Rattle.ext_history.specs.Histories.{seen}
use Rattle.ext_locks.specs.declared.event.LockMode.{LockMode}
use Rattle.ext_locks.specs.declared.seat.SeatView.{SeatView}
use Rattle.ext_locks.specs.History.{LockHistory, event, same_mode, is_about, holds}
use Rattle.ext_locks.specs.InnerRule.{Loaded, Stepped}
use Rattle.ext_locks.specs.InnerSteps.{is_mode, has_mode, is_between, HoldsBetween, SameHeld, HeldBut}
use Rattle.ext_locks.proofs.Histories.{about, holds-push, same_held, same_mode_self}
use Rattle.ext_locks.proofs.Fronts.{seen_now}

-- a load leaves what the lane holds
pub loaded_held : (v w : SeatView) (l k n : ℕ) → Loaded v l k n w → SameHeld v.fronts w.fronts l
loaded_held v w l k n it = record { each = λ lock mode. ap (λ h. holds h lock mode l) (seen_now v w it.history it.view) ∙ same_held it.history (seen v.fronts) lock mode l it.meets.on.own_same }

-- a step decides about one lock and mode, and leaves the rest
pub stepped_held : (v w : SeatView) (l k : ℕ) (m : LockMode) (t : Bool) → Stepped v l k m t w → HeldBut v.fronts w.fronts l k m t
stepped_held v w l k m t it = record {
  each = λ lock mode.
      ap (λ h. holds h lock mode l) (seen_now v w (it.history ++ event l k m t ∷ []) it.view)
      ∙ (holds-push it.history (event l k m t) lock mode l
      ∙ ap (λ b. if is_about (event l k m t) lock mode l then t else b) (same_held it.history (seen v.fronts) lock mode l it.meets.on.own_same));
}

between_same : (f n k : ℕ) → k ≢ n → is_between f (n + 1) k ≡ is_between f n k
between_same f n k ne = grind (arith, nat_tests)

between_here : (n : ℕ) → is_between 0 (n + 1) n ≡ true
between_here n = grind (arith, nat_tests)

between_not : (f n : ℕ) → is_between f n n ≡ false
between_not f n = grind (arith, nat_tests)

between_after : (f n k : ℕ) → k ≢ f → is_between (f + 1) n k ≡ is_between f n k
between_after f n k ne = grind (arith, nat_tests)

between_gone : (f n : ℕ) → is_between (f + 1) n f ≡ false
between_gone f n = grind (arith, nat_tests)

between_at : (f n : ℕ) → f < n → is_between f n f ≡ true
between_at f n below = grind (arith, nat_tests)

between_all : (n k : ℕ) → k < n → is_between 0 n k ≡ true
between_all n k below = grind (arith, nat_tests)

other_mode : (l k : ℕ) (m : LockMode) (t : Bool) (mode : LockMode) → is_about (event l k m t) k mode l ≡ false → same_mode m mode ≡ false
other_mode l k m t mode isnt = false_from_ne_true _ (λ y. both_ways _ isnt (and_from _ _ (and_from _ _ (eq-eqb k k refl) (eq-eqb l l refl)) y))

wanted : (modes : List (Option LockMode)) (k : ℕ) (m mode : LockMode) → slice_index_or modes k None ≡ Some m → has_mode modes k mode ≡ same_mode m mode
wanted modes k m mode is = ap (λ o. is_mode o mode) is

pub has_own : (modes : List (Option LockMode)) (k : ℕ) (m : LockMode) → slice_index_or modes k None ≡ Some m → has_mode modes k m ≡ true
has_own modes k m is = wanted modes k m m is ∙ same_mode_self m

module _ (fs gs : List LockHistory) (l : ℕ) (modes : List (Option LockMode)) (k : ℕ) where
  pub held_here : (n : ℕ) (m : LockMode) → HoldsBetween fs l modes k n → k < n → slice_index_or modes k None ≡ Some m → holds (seen fs) k m l ≡ true
  held_here n m h below is = h.each k m ∙ and_from _ _ (between_at k n below) (wanted modes k m m is ∙ same_mode_self m)

  pub passed : HoldsBetween fs l modes 0 k → slice_index_or modes k None ≡ None → HoldsBetween fs l modes 0 (k + 1)
  passed h none = record {
    each = λ lock mode.
        ⊎_elim
        (λ (is : lock ≡ k). subst (λ x. holds (seen fs) x mode l ≡ (is_between 0 (k + 1) x && has_mode modes x mode)) (sym is)
        (h.each k mode ∙ (and_left _ _ (between_not 0 k) ∙ sym (and_right (is_between 0 (k + 1) k) _ (ap (λ o. is_mode o mode) none)))))
        (λ (isnt : lock ≢ k). h.each lock mode ∙ ap (λ b. b && has_mode modes lock mode) (sym (between_same 0 k lock isnt)))
        (cases_eq lock k);
  }

  pub took : (m : LockMode) → HoldsBetween fs l modes 0 k → slice_index_or modes k None ≡ Some m → HeldBut fs gs l k m true → HoldsBetween gs l modes 0 (k + 1)
  took m h is but = record {
    each = λ lock mode.
        but.each lock mode
        ∙ cond_both (is_about (event l k m true) lock mode l) true (holds (seen fs) lock mode l) (λ b. b ≡ (is_between 0 (k + 1) lock && has_mode modes lock mode))
        (λ yes'. let a = about (event l k m true) lock mode l yes' in
        subst (λ (x : ℕ × LockMode). true ≡ (is_between 0 (k + 1) x.0 && has_mode modes x.0 x.1)) (λ i. (a.lock i, a.mode i))
        (sym (and_from _ _ (between_here k) (wanted modes k m m is ∙ same_mode_self m))))
        (λ isnt. ⊎_elim
        (λ (same : lock ≡ k). subst (λ x. is_about (event l k m true) x mode l ≡ false → holds (seen fs) x mode l ≡ (is_between 0 (k + 1) x && has_mode modes x mode)) (sym same)
        (λ isnt'. h.each k mode ∙ (and_left _ _ (between_not 0 k) ∙ sym (and_right (is_between 0 (k + 1) k) _ (wanted modes k m mode is ∙ other_mode l k m true mode isnt')))) isnt)
        (λ (ne : lock ≢ k). h.each lock mode ∙ ap (λ b. b && has_mode modes lock mode) (sym (between_same 0 k lock ne)))
        (cases_eq lock k));
  }

  pub passed_back : (n : ℕ) → HoldsBetween fs l modes k n → slice_index_or modes k None ≡ None → HoldsBetween fs l modes (k + 1) n
  passed_back n h none = record {
    each = λ lock mode.
        ⊎_elim
        (λ (is : lock ≡ k). subst (λ x. holds (seen fs) x mode l ≡ (is_between (k + 1) n x && has_mode modes x mode)) (sym is)
        (h.each k mode ∙ (and_right _ _ (ap (λ o. is_mode o mode) none) ∙ sym (and_left _ _ (between_gone k n)))))
        (λ (isnt : lock ≢ k). h.each lock mode ∙ ap (λ b. b && has_mode modes lock mode) (sym (between_after k n lock isnt)))
        (cases_eq lock k);
  }

  pub gave : (n : ℕ) (m : LockMode) → HoldsBetween fs l modes k n → slice_index_or modes k None ≡ Some m → HeldBut fs gs l k m false → HoldsBetween gs l modes (k + 1) n
  gave n m h is but = record {
    each = λ lock mode.
        but.each lock mode
        ∙ cond_both (is_about (event l k m false) lock mode l) false (holds (seen fs) lock mode l) (λ b. b ≡ (is_between (k + 1) n lock && has_mode modes lock mode))
        (λ yes'. let a = about (event l k m false) lock mode l yes' in
        subst (λ (x : ℕ). false ≡ (is_between (k + 1) n x && has_mode modes x mode)) a.lock (sym (and_left _ _ (between_gone k n))))
        (λ isnt. ⊎_elim
        (λ (same : lock ≡ k). subst (λ x. is_about (event l k m false) x mode l ≡ false → holds (seen fs) x mode l ≡ (is_between (k + 1) n x && has_mode modes x mode)) (sym same)
        (λ isnt'. h.each k mode ∙ (and_right _ _ (wanted modes k m mode is ∙ other_mode l k m false mode isnt') ∙ sym (and_left _ _ (between_gone k n)))) isnt)
        (λ (ne : lock ≢ k). h.each lock mode ∙ ap (λ b. b && has_mode modes lock mode) (sym (between_after k n lock ne)))
        (cases_eq lock k));
  }

-- the ends of both loops
pub none_between : (n lock : ℕ) → is_between n n lock ≡ false
none_between n lock = grind (arith, nat_tests)

pub past_end : (modes : List (Option LockMode)) (k : ℕ) → length modes ≤ k → slice_index_or modes k None ≡ None
past_end modes k many = get_or_past modes k None many

-- up to the end are all of them
pub all_between : (modes : List (Option LockMode)) (lock : ℕ) (mode : LockMode) → (is_between 0 (length modes) lock && has_mode modes lock mode) ≡ has_mode modes lock mode
all_between modes lock mode =
    ⊎_elim
    (λ few. ap (λ b. b && has_mode modes lock mode) (between_all (length modes) lock few))
    (λ many. and_right _ _ (ap (λ o. is_mode o mode) (past_end modes lock many)) ∙ sym (ap (λ o. is_mode o mode) (past_end modes lock many)))
    (cases_lt lock (length modes))
