-- Answers of calls that follow one another.
use Rattle.std.proofs.Common.{ℕ, inl, inr, List, []}
use Rattle.ext_history.specs.Histories.{LaneView, Calls, HoldsAtPoint}
use Rattle.ext_history.proofs.Composed.{calls_compose, steps_stay, later_point, earlier_point}

-- what follows from a fact holds at its point
pub holds_too : {E : Type 0} {lane_of : E → ℕ} {a b : LaneView E} {events : List E} {F : List E → Type 0} (G : List E → Type 0) → ((p : List E) → F p → G p)
    → HoldsAtPoint lane_of a b events F → HoldsAtPoint lane_of a b events G
holds_too G follows m = record { calls = m.calls; stepped = m.stepped; point = (m.point.0, m.point.1, follows m.point.0 m.point.2) }

module _ {E : Type 0} {lane_of : E → ℕ} {a b c : LaneView E} {Fact : List E → Type 0} where
  -- what a call met, both have met, where the other call made no event and came before it,
  pub later_answers : {events : List E} → Calls lane_of a b [] → HoldsAtPoint lane_of b c events Fact → HoldsAtPoint lane_of a c events Fact
  later_answers one m = record {
    calls = calls_compose one m.calls;
    stepped = steps_stay one m.calls (inr m.stepped);
    point = (m.point.0, later_point one m.calls m.point.0 m.point.1, m.point.2);
  }

  -- or where neither made an event
  pub earlier_answers : HoldsAtPoint lane_of a b [] Fact → Calls lane_of b c [] → HoldsAtPoint lane_of a c [] Fact
  earlier_answers m two = record {
    calls = calls_compose m.calls two;
    stepped = steps_stay m.calls two (inl m.stepped);
    point = (m.point.0, earlier_point m.calls two m.stepped m.point.0 m.point.1, m.point.2);
  }
