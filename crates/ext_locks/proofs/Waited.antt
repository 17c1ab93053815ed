-- What is known while a lane waits for a lock: it made no event, however often it tried, and holds what it held.
use Rattle.std.proofs.Common.{◌≡◌, ℕ, ◌∙◌, true, false, if◌then◌else◌, [], ◌∷◌, refl, ap}
use Rattle.atomic_table.specs.Seated.{TableId}
use Rattle.atomic_table.specs.declared.shared.Seat.{Seat}
use Rattle.ext_history.specs.Histories.{seen}
use Rattle.ext_locks.specs.declared.event.LockMode.{LockMode}
use Rattle.ext_locks.specs.declared.seat.SeatView.{SeatView}
use Rattle.ext_locks.specs.History.{event, is_about, holds, IsLegal}
use Rattle.ext_locks.specs.InnerSteps.{IsLane, Makes, SameHeld, HeldBut}
use Rattle.ext_locks.proofs.Fronts.{makes_self, makes_then, makes_quiet, lane_makes}

-- since the seat was at `start`, the lane made no event
pub record Waited (start now : Seat (Unit {0}) SeatView) (l : ℕ) : Type 0 where
  pub makes : Makes start now l []
  pub held : SameHeld start.me.0.fronts now.me.0.fronts l

pub waited_none : (s : Seat (Unit {0}) SeatView) (l : ℕ) → IsLegal s.me.0.lanes (seen s.me.0.fronts) → Waited s s l
waited_none s l legal = record { makes = makes_self s l legal; held = record { each = λ lock mode. refl } }

module _ (start now after : Seat (Unit {0}) SeatView) (l : ℕ) (waited : Waited start now l) where
  pub waited_more : Makes now after l [] → SameHeld now.me.0.fronts after.me.0.fronts l → Waited start after l
  waited_more makes held = record {
    makes = makes_quiet start now after l [] waited.makes makes;
    held = record { each = λ lock mode. held.each lock mode ∙ waited.held.each lock mode };
  }

  module _ (k : ℕ) (m : LockMode) where
    pub waited_takes : Makes now after l (event l k m true ∷ []) → Makes start after l (event l k m true ∷ [])
    waited_takes makes = makes_then start now after l [] (event l k m true ∷ []) waited.makes makes

    pub waited_holds : HeldBut now.me.0.fronts after.me.0.fronts l k m true → HeldBut start.me.0.fronts after.me.0.fronts l k m true
    waited_holds but = record { each = λ lock mode. but.each lock mode ∙ ap (λ x. if is_about (event l k m true) lock mode l then true else x) (waited.held.each lock mode) }

-- the lane is still the one that began to wait, and holds as little
module _ (start now : Seat (Unit {0}) SeatView) (l : ℕ) (waited : Waited start now l) where
  pub waited_lane : (table : TableId) (locks : ℕ) → IsLane table locks start l → IsLane table locks now l
  waited_lane table locks lane = lane_makes table locks l start now [] lane waited.makes

  pub waited_unheld : (k : ℕ) → ((m : LockMode) → holds (seen start.me.0.fronts) k m l ≡ false) → (m : LockMode) → holds (seen now.me.0.fronts) k m l ≡ false
  waited_unheld k none m = waited.held.each k m ∙ none m
