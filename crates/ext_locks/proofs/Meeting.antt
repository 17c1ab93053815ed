-- What two lanes that were told of each other know.
use Rattle.std.proofs.Common.{◌≡◌, ◌≢◌, ℕ, true, false, sym, ap, ◌∙◌, subst}
use Rattle.std.proofs.lemmas.Bool.{false_from_ne_true}
use mathlib.Core.List.{IsPrefix}
use Rattle.atomic_table.specs.declared.shared.Seat.{Seat}
use Rattle.ext_history.specs.Histories.{seen}
use Rattle.ext_history.proofs.Lanes.{own_between}
use Rattle.ext_locks.specs.declared.event.LockMode.{LockMode}
use Rattle.ext_locks.specs.declared.event.LockMode.TheVariants.{ReadWrite}
use Rattle.ext_locks.specs.declared.seat.SeatView.{SeatView}
use Rattle.ext_locks.specs.History.{LockHistory, lane_of, holds, own}
use Rattle.ext_locks.specs.InnerRule.{Loaded, told_of, noted}
use Rattle.ext_locks.specs.Sets.{Excludes}
use Rattle.ext_locks.specs.InnerSteps.{lane_at}
use Rattle.ext_locks.proofs.Histories.{lawful, same_held}
use Rattle.ext_locks.proofs.Fronts.{seen_now}
use Rattle.ext_locks.proofs.Holding.{loaded_held}

-- a second lane loaded once it was told of the first, and then the first once it was told of the second
module _ (v w v' w' : SeatView) (one other k n m : ℕ) (apart : one ≢ other) (first : Loaded (told_of w (noted v)) other k n w') (second : Loaded (told_of v (noted w')) one k m v') where
  told : seen w'.fronts ≡ first.history
  told = seen_now (told_of w (noted v)) w' first.history first.view

  reaches : IsPrefix first.history second.history
  reaches = subst (λ (h : LockHistory). IsPrefix h second.history) told second.meets.told

  -- in the second lane's history the first holds what it held when it was asked
  mine : own one first.history ≡ own one (seen v.fronts)
  mine = own_between lane_of one (seen v.fronts) first.history second.history first.meets.told reaches second.meets.on.own_same

  one_holds : (lock : ℕ) (mode : LockMode) → holds first.history lock mode one ≡ holds (seen v'.fronts) lock mode one
  one_holds lock mode = same_held first.history (seen v.fronts) lock mode one mine ∙ sym ((loaded_held (told_of v (noted w')) v' one k m second).each lock mode)

  other_holds : (lock : ℕ) (mode : LockMode) → holds first.history lock mode other ≡ holds (seen w'.fronts) lock mode other
  other_holds lock mode = sym (ap (λ h. holds h lock mode other) told)

  pub shuts_out : (lock : ℕ) (mode : LockMode) → holds (seen v'.fronts) lock ReadWrite one ≡ true → holds (seen w'.fronts) lock mode other ≡ false
  shuts_out lock mode writes =
      false_from_ne_true _ (λ held. apart (lawful w.lanes first.history first.meets.on.legal lock one other mode (one_holds lock ReadWrite ∙ writes) (other_holds lock mode ∙ held)))

  pub is_shut_out : (lock : ℕ) (mode : LockMode) → holds (seen w'.fronts) lock ReadWrite other ≡ true → holds (seen v'.fronts) lock mode one ≡ false
  is_shut_out lock mode writes =
      false_from_ne_true _ (λ held. apart (sym (lawful w.lanes first.history first.meets.on.legal lock other one mode (other_holds lock ReadWrite ∙ writes) (one_holds lock mode ∙ held))))

  pub sees : IsPrefix (seen w'.fronts) (seen v'.fronts)
  sees =
      let later : seen v'.fronts ≡ second.history = seen_now (told_of v (noted w')) v' second.history second.view in
      subst (λ (z : LockHistory × LockHistory). IsPrefix z.0 z.1) (λ i. (sym told i, sym later i)) reaches

-- what both telling steps leave, at the seats that the code has: p is the first lane's seat after it was copied, q the second's after it was told,
-- r the second's after it was copied, and s the first's after it was told
module _ (one other p q r s : Seat (Unit {0}) SeatView) (a b n m : ℕ) (apart : a ≢ b) (copied : p.me ≡ one.me) (told : Loaded (told_of other.me.0 (noted one.me.0)) b 0 n q.me.0)
    (copied_back : r.me ≡ q.me) (told_back : Loaded (told_of p.me.0 (noted q.me.0)) a 0 m s.me.0) where
  back : Loaded (told_of one.me.0 (noted q.me.0)) a 0 m s.me.0
  back = subst (λ (x : SeatView). Loaded (told_of x (noted q.me.0)) a 0 m s.me.0) (ap (λ x. x.0) copied) told_back

  pub exclusive_one : Excludes (lane_at s a) (lane_at r b)
  exclusive_one = record {
    each = λ lock mode writes. subst (λ (x : SeatView). holds (seen x.fronts) lock mode b ≡ false) (sym (ap (λ x. x.0) copied_back))
        (shuts_out one.me.0 other.me.0 s.me.0 q.me.0 a b 0 n m apart told back lock mode writes);
  }

  pub exclusive_other : Excludes (lane_at r b) (lane_at s a)
  exclusive_other = record {
    each = λ lock mode writes. is_shut_out one.me.0 other.me.0 s.me.0 q.me.0 a b 0 n m apart told back lock mode
        (subst (λ (x : SeatView). holds (seen x.fronts) lock ReadWrite b ≡ true) (ap (λ x. x.0) copied_back) writes);
  }

  pub sees_other : IsPrefix (seen r.me.0.fronts) (seen s.me.0.fronts)
  sees_other = subst (λ (x : SeatView). IsPrefix (seen x.fronts) (seen s.me.0.fronts)) (sym (ap (λ x. x.0) copied_back)) (sees one.me.0 other.me.0 s.me.0 q.me.0 a b 0 n m apart told back)
