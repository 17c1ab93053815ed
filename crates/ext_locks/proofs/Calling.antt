-- From the seats that the code has to the lanes that contracts see.
use Rattle.std.proofs.Common.{◌≡◌, ℕ, ◌<◌, ◌≤◌, List, [], ◌++◌, length, Option, Some, sym, ap, ◌∙◌, subst}
use Rattle.atomic_table.specs.declared.shared.Seat.{Seat}
use Rattle.ext_history.specs.Histories.{seen, seen_by, call_fronts, Follow}
use Rattle.ext_history.proofs.Fronts.{follow_append}
use Rattle.ext_locks.specs.declared.event.LockMode.{LockMode}
use Rattle.ext_locks.specs.declared.event.LockEvent.{LockEvent}
use Rattle.ext_locks.specs.declared.seat.SeatView.{SeatView}
use Rattle.ext_locks.specs.History.{holds, IsLegal}
use Rattle.ext_locks.specs.Views.{LaneView, Lane, own_of, LaneCalls}
use Rattle.ext_locks.specs.InnerRule.{lane_view}
use Rattle.ext_locks.specs.Sets.{locks_of, wants, takes_of, gives_of, AllBelow, HoldsExactly, HeldView, IsHeldBy}
use Rattle.ext_locks.specs.InnerSteps.{lane_at, Makes, HoldsBetween, IsWithin}
use Rattle.ext_locks.proofs.Histories.{by_own}
use Rattle.ext_locks.proofs.Whole.{within_of, held_all}

-- what a lane's fields keep
abbrev IsLaneSeat : Seat (Unit {0}) SeatView → ℕ → Type 0
IsLaneSeat s l = (s.me.0.number ≡ Some l) × (l < s.me.0.lanes) × (s.me.0.lanes ≤ 32) × Follow [] s.me.0.fronts × IsLegal s.me.0.lanes (seen s.me.0.fronts)

pub kept : (s t : Seat (Unit {0}) SeatView) (l : ℕ) (xs : List LockEvent) → IsLaneSeat s l → Makes s t l xs → IsLaneSeat t l
kept s t l xs was makes =
    let added = call_fronts (lane_view s.me.0 l) (lane_view t.me.0 l) in
    let all : t.me.0.fronts ≡ s.me.0.fronts ++ added = ap (λ (v : LaneView). v.fronts) makes.calls.calls.fronts in (
      makes.number ∙ was.0,
      subst (λ n. l < n) (sym makes.calls.lanes) was.1,
      subst (λ n. n ≤ 32) (sym makes.calls.lanes) was.2,
      subst (Follow []) (sym all) (follow_append [] s.me.0.fronts added was.3 makes.calls.calls.follow),
      makes.legal,
    )

pub called : (now : Lane) (s t : Seat (Unit {0}) SeatView) (l : ℕ) (xs ys : List LockEvent) → lane_at s l ≡ now → Makes s t l xs → xs ≡ ys → LaneCalls now (lane_at t l) ys
called now s t l xs ys view makes same = subst (λ v. LaneCalls v (lane_at t l) ys) view (subst (λ z. LaneCalls (lane_at s l) (lane_at t l) z) same makes.calls)

module _ (now : Lane) (s : Seat (Unit {0}) SeatView) (l : ℕ) (view : lane_at s l ≡ now) (set now_set : List (ℕ × LockMode)) (same : set ≡ now_set) where
  pub takes_same : takes_of l set ≡ takes_of now.view.number now_set
  takes_same = λ i. takes_of (view i).view.number (same i)

  pub gives_same : gives_of l set ≡ gives_of now.view.number now_set
  gives_same = λ i. gives_of (view i).view.number (same i)

-- the modes of a set that is within the locks
pub within : (modes : List (Option LockMode)) (set : List (ℕ × LockMode)) (count locks : ℕ) → locks_of modes ≡ set → AllBelow count set → count ≡ locks → IsWithin modes locks
within modes set count locks same all is = within_of modes count locks (subst (AllBelow count) (sym same) all) is

-- a lane that made no event since it took a set still holds it
pub still_held : (names : List (List ℕ)) (taken now : Lane) (held : HeldView) (s : Seat (Unit {0}) SeatView) (l : ℕ) (modes : List (Option LockMode)) (set : List (ℕ × LockMode)) → lane_at s l ≡ now → locks_of modes ≡ set
    → record { table = taken.table; lane = taken.view.number; names = names; set = set; own_events = own_of taken } ≡ held → HoldsExactly taken set → IsHeldBy held now → HoldsBetween s.me.0.fronts l modes 0 (length modes)
still_held names taken now held s l modes set view same made exactly since = held_all s.me.0.fronts l modes each
  where
    each : (lock : ℕ) (mode : LockMode) → holds (seen s.me.0.fronts) lock mode l ≡ wants (locks_of modes) lock mode
    each lock mode =
        (λ i. holds (seen_by (view i).view) lock mode (view i).view.number)
        ∙ (by_own (seen_by now.view) lock mode now.view.number
        ∙ (ap (λ o. holds o lock mode now.view.number) (since.no_event ∙ sym (ap (λ (h : HeldView). h.own_events) made))
        ∙ (ap (λ n. holds (own_of taken) lock mode n) (since.same_lane ∙ sym (ap (λ (h : HeldView). h.lane) made))
        ∙ (sym (by_own (seen_by taken.view) lock mode taken.view.number)
        ∙ (exactly.each lock mode ∙ ap (λ t. wants t lock mode) (sym same))))))
