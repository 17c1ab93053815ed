-- What the steps of a lane add to its fronts, and the calls that they make.
use Rattle.std.proofs.Common.{◌≡◌, ℕ, Bool, List, [], ◌∷◌, ◌++◌, refl, sym, ap, ◌∙◌, subst, append-nil}
use Rattle.atomic_table.specs.Seated.{TableId}
use Rattle.atomic_table.specs.declared.shared.Seat.{Seat}
use Rattle.ext_history.specs.Histories.{seen, IsStepped}
use Rattle.ext_history.proofs.Fronts.{last_append}
use Rattle.ext_history.proofs.Legal.{legal_push}
use Rattle.ext_history.proofs.Single as single
use Rattle.ext_history.proofs.Composed as composed
use Rattle.ext_locks.specs.declared.event.LockMode.{LockMode}
use Rattle.ext_locks.specs.declared.event.LockEvent.{LockEvent}
use Rattle.ext_locks.specs.declared.seat.SeatView.{SeatView}
use Rattle.ext_locks.specs.History.{LockHistory, event, lane_of, IsLegal}
use Rattle.ext_locks.specs.Views.{Lane, Calls, LaneCalls}
use Rattle.ext_locks.specs.InnerRule.{lane_view, seeing, Loaded, Stepped, told_of}
use Rattle.ext_locks.specs.InnerSteps.{lane_at, IsLane, Makes}

-- what is seen last is what the last step showed
pub seen_now : (v w : SeatView) (h : LockHistory) → w ≡ seeing v h → seen w.fronts ≡ h
seen_now v w h is = ap (λ x. seen x.fronts) is ∙ last_append [] v.fronts (h ∷ [])

-- a step that showed a history is a call without an event,
loaded_calls : (v w : SeatView) (l k n : ℕ) → Loaded v l k n w → Calls (lane_view v l) (lane_view w l) []
loaded_calls v w l k n it =
    subst (λ x. Calls (lane_view v l) (lane_view x l) []) (sym it.view)
    (single.step_calls it.meets.on).0

-- and an event is a call of that event
stepped_calls : (v w : SeatView) (l k : ℕ) (m : LockMode) (t : Bool) → Stepped v l k m t w → Calls (lane_view v l) (lane_view w l) (event l k m t ∷ [])
stepped_calls v w l k m t it =
    subst (λ x. Calls (lane_view v l) (lane_view x l) (event l k m t ∷ [])) (sym it.view)
    (single.event_calls it.meets.on (event l k m t) refl).0

-- what a step showed is legal
pub loaded_legal : (v w : SeatView) (l k n : ℕ) → Loaded v l k n w → IsLegal w.lanes (seen w.fronts)
loaded_legal v w l k n it =
    subst (λ (x : ℕ × LockHistory). IsLegal x.0 x.1) (λ i. (sym (ap (λ x. x.lanes) it.view) i, sym (seen_now v w it.history it.view) i)) it.meets.on.legal

stepped_legal : (v w : SeatView) (l k : ℕ) (m : LockMode) (t : Bool) → Stepped v l k m t w → IsLegal w.lanes (seen w.fronts)
stepped_legal v w l k m t it =
    let more : LockHistory = it.history ++ event l k m t ∷ [] in
    subst (λ (x : ℕ × LockHistory). IsLegal x.0 x.1) (λ i. (sym (ap (λ x. x.lanes) it.view) i, sym (seen_now v w more it.view) i)) (legal_push it.history (event l k m t) it.meets.on.legal it.allowed)

pub loaded_stepped : (v w : SeatView) (l k n : ℕ) → Loaded v l k n w → IsStepped (lane_view v l) (lane_view w l)
loaded_stepped v w l k n it = subst (λ x. IsStepped (lane_view v l) (lane_view x l)) (sym it.view) (single.stepped (lane_view v l) it.history)

-- ---- calls on lanes

-- two calls one after the other
pub calls_then : (a b c : Lane) (xs ys : List LockEvent) → LaneCalls a b xs → LaneCalls b c ys → LaneCalls a c (xs ++ ys)
calls_then a b c xs ys one two = record {
  table = two.table ∙ one.table;
  lanes = two.lanes ∙ one.lanes;
  calls = composed.calls_compose one.calls two.calls;
}

-- a lane that was not called
pub calls_none : (a : Lane) → LaneCalls a a []
calls_none a = record { table = refl; lanes = refl; calls = composed.calls_none lane_of a.view }

-- ---- what a seat makes

pub makes_self : (s : Seat (Unit {0}) SeatView) (l : ℕ) → IsLegal s.me.0.lanes (seen s.me.0.fronts) → Makes s s l []
makes_self s l legal = record { number = refl; legal = legal; calls = calls_none (lane_at s l) }

module _ (s t u : Seat (Unit {0}) SeatView) (l : ℕ) where
  pub makes_then : (xs ys : List LockEvent) → Makes s t l xs → Makes t u l ys → Makes s u l (xs ++ ys)
  makes_then xs ys a b = record { number = b.number ∙ a.number; legal = b.legal; calls = calls_then (lane_at s l) (lane_at t l) (lane_at u l) xs ys a.calls b.calls }

  -- the second part made no event
  pub makes_quiet : (xs : List LockEvent) → Makes s t l xs → Makes t u l [] → Makes s u l xs
  makes_quiet xs a b = subst (λ zs. Makes s u l zs) (append-nil xs) (makes_then xs [] a b)

pub lane_makes : (table : TableId) (locks l : ℕ) (s t : Seat (Unit {0}) SeatView) (xs : List LockEvent) → IsLane table locks s l → Makes s t l xs → IsLane table locks t l
lane_makes table locks l s t xs lane makes = record {
  same_table = makes.calls.table ∙ lane.same_table;
  same_locks = lane.same_locks;
  number = makes.number ∙ lane.number;
  few = lane.few;
  legal = makes.legal;
}

pub loaded_makes : (s t : Seat (Unit {0}) SeatView) (l k n : ℕ) → t.table_id ≡ s.table_id → Loaded s.me.0 l k n t.me.0 → Makes s t l []
loaded_makes s t l k n same it = record {
  number = ap (λ x. x.number) it.view;
  legal = loaded_legal s.me.0 t.me.0 l k n it;
  calls = record { table = same; lanes = ap (λ x. x.lanes) it.view; calls = loaded_calls s.me.0 t.me.0 l k n it };
}

pub stepped_makes : (s t : Seat (Unit {0}) SeatView) (l k : ℕ) (m : LockMode) (b : Bool) → t.table_id ≡ s.table_id → Stepped s.me.0 l k m b t.me.0 → Makes s t l (event l k m b ∷ [])
stepped_makes s t l k m b same it = record {
  number = ap (λ y. y.number) it.view;
  legal = stepped_legal s.me.0 t.me.0 l k m b it;
  calls = record { table = same; lanes = ap (λ x. x.lanes) it.view; calls = stepped_calls s.me.0 t.me.0 l k m b it };
}

-- a lane that was told of a history, and then loaded
pub told_makes : (s t : Seat (Unit {0}) SeatView) (v : SeatView) (l k n : ℕ) → t.table_id ≡ s.table_id → Loaded (told_of s.me.0 v) l k n t.me.0 → Makes s t l []
told_makes s t v l k n same it = record {
  number = ap (λ x. x.number) it.view;
  legal = loaded_legal (told_of s.me.0 v) t.me.0 l k n it;
  calls = record { table = same; lanes = ap (λ x. x.lanes) it.view; calls = loaded_calls (told_of s.me.0 v) t.me.0 l k n it };
}

-- a lane of which another was told
pub kept_makes : (s t : Seat (Unit {0}) SeatView) (l : ℕ) → IsLegal s.me.0.lanes (seen s.me.0.fronts) → t.table_id ≡ s.table_id → t.me ≡ s.me → Makes s t l []
kept_makes s t l legal same e = record {
  number = ap (λ m. m.0.number) e;
  legal = subst (λ m. IsLegal m.0.lanes (seen m.0.fronts)) (sym e) legal;
  calls = record {
    table = same;
    lanes = ap (λ m. m.0.lanes) e;
    calls = subst (λ m. Calls (lane_view s.me.0 l) (lane_view m.0 l) []) (sym e) (composed.calls_none lane_of (lane_view s.me.0 l));
  };
}
