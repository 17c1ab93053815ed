-- What the exports promise: what became of the seat to which a slot leads. `before` and `after` are the slot, and
-- `said` is the number that C gets.
use Rattle.std.specs.Prelude.{ℕ, ◌≡◌, ◌≢◌, None, Some}
use Rattle.ext_tree.specs.Keys.{KeepsKeys}
use Rattle.ext_c.specs.declared.code.Code.{Code}
use Rattle.ext_c.specs.declared.code.Code.TheVariants as code
use Rattle.ext_c.specs.declared.seat.Seat.{Seat}
use Rattle.ext_c.specs.declared.slot.ExtSlot.{ExtSlot}
use Rattle.ext_c.specs.Answers.{SeesLegal}
use Rattle.ext_c.specs.Codes.{code_number}

-- The seat is of the same store and closes the same contexts. Its lane knows the same keys.
pub record StaysSo (old now : Seat) : Type 0 where
  pub store : now.store ≡ old.store
  pub closers : now.closers ≡ old.closers
  pub keys : now.lane.keys ≡ old.lane.keys

-- The same, and its claim is the one it had, or none as before.
pub record KeepsClaim (old now : Seat) : Type 0 where
  pub so : StaysSo old now
  pub claim : now.claim ≡ old.claim

-- The same, and it has no claim.
pub record HasNoClaim (old now : Seat) : Type 0 where
  pub so : StaysSo old now
  pub unclaimed : now.claim ≡ None

-- The seat is of the same store, its lane knows the same keys, and its claim is the one it had, or none as before. Its
-- closers may have changed.
pub record StaysButClosers (old now : Seat) : Type 0 where
  pub store : now.store ≡ old.store
  pub claim : now.claim ≡ old.claim
  pub keys : now.lane.keys ≡ old.lane.keys

-- Nothing of the seat has changed, but that its lane may know more keys. Those that it knew it knows still, by the same
-- places.
pub record OnlyLearnsKeys (old now : Seat) : Type 0 where
  pub store : now.store ≡ old.store
  pub closers : now.closers ≡ old.closers
  pub claim : now.claim ≡ old.claim
  pub cells : now.lane.cells ≡ old.lane.cells
  pub known : now.lane.known ≡ old.lane.known
  pub faults : now.lane.faults ≡ old.lane.faults
  pub keys : KeepsKeys old.lane.keys now.lane.keys

-- The slot had no lane, and it and what the call writes out are unchanged. Or it has its lane still: what that has seen
-- is legal, and `Keeps` holds of the seat, whatever the answer; and `Says` holds of the seat and this code.
pub data OnSlot (Keeps : Seat → Seat → Type 0) (Untold : Type 0) (Says : Seat → Seat → Code → Type 0)
    (before after : ExtSlot) (said : ℕ) : Type 0 where
  no_lane : before.state ≢ 1 → after ≡ before → Untold → said ≡ code_number code.NoLane
      → OnSlot Keeps Untold Says before after said
  on_lane : (old now : Seat) (own : Code) → before.lane.seat ≡ Some old → after.state ≡ 1 → after.lane.seat ≡ Some now
      → SeesLegal now → Keeps old now → said ≡ code_number own → Says old now own
      → OnSlot Keeps Untold Says before after said

-- The number is that of a code, of which `Says` holds.
pub record ByCode (Says : Code → Type 0) (said : ℕ) : Type 0 where
  pub own : Code
  pub is : said ≡ code_number own
  pub says : Says own
