-- The lanes in hand at a close: those that the caller passes to it. The first of them seals, and a value can be closed
-- only if one of them knows it. A lane knows a value that it kept or was shown (`Known` of ext_values).
use Rattle.std.specs.Prelude.{ℕ, ◌≡◌, ◌<◌, List, [], ◌∷◌, None, Some, All, Contains}
use Rattle.ext_values.specs.Known.{known_at}
use Rattle.ext_cells.specs.Lanes.{Lane, fresh_lane}
use Rattle.ext_store.specs.Stores.{StoreView, StoreLane}

-- ---- steps

-- The lane that seals. If there are no lanes, a lane that made no step.
abbrev pub first_lane : {V : Type 0} → StoreView → List (StoreLane V) → Lane
first_lane store [] = fresh_lane store.id.cells 0
first_lane store (lane ∷ others) = lane.cells

-- The lanes after the first has made its steps.
abbrev pub with_first : {V : Type 0} → Lane → List (StoreLane V) → List (StoreLane V)
with_first cells [] = []
with_first cells (lane ∷ others) =
    record { cells = cells; known = lane.known; faults = lane.faults; keys = lane.keys } ∷ others

-- Only the first lane made steps, and no lane learnt a value or a fault.
abbrev pub OnlyFirstSteps : {V : Type 0} → List (StoreLane V) → List (StoreLane V) → Type 0
OnlyFirstSteps before after = (cells : Lane) × (after ≡ with_first cells before)

-- ---- what is known

-- One of the lanes in hand knows the number's value, and it is this one.
pub record IsKnown {V : Type 0} (lanes : List (StoreLane V)) (number : ℕ) (value : V) : Type 0 where
  pub lane : StoreLane V
  pub in_hand : Contains lanes lane
  pub known : known_at lane.known number ≡ Some value

-- One of them knows the number's value.
abbrev pub IsJoined : {V : Type 0} → List (StoreLane V) → ℕ → Type 0
IsJoined {V} lanes number = (value : V) × IsKnown lanes number value

-- None of them knows it.
abbrev pub IsUnknown : {V : Type 0} → List (StoreLane V) → ℕ → Type 0
IsUnknown lanes number = All (λ lane. known_at lane.known number ≡ None) lanes

-- The greatest of these numbers whose value no lane in hand knows.
pub record IsGreatestUnjoined {V : Type 0} (lanes : List (StoreLane V)) (numbers : List ℕ) (number : ℕ) : Type 0 where
  pub remains : Contains numbers number
  pub unknown : IsUnknown lanes number
  pub greater : (other : ℕ) → Contains numbers other → number < other → IsJoined lanes other
