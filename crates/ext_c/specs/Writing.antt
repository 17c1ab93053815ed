-- How a close writes out a value to be closed: after those that it has written.
use Rattle.std.specs.Prelude.{ℕ, ◌≡◌, ◌<◌, false, List, [], ◌∷◌, ◌++◌, length, Result, Ok}
use Rattle.ext_model.specs.declared.look.Fault.{Fault}
use Rattle.ext_c.specs.declared.handle.Handle.{Handle}
use Rattle.ext_c.specs.declared.value.ExtValue.{ExtValue}

-- What a close of this context has written, in order, and for how many values there is room.
pub record Writings : Type 0 where
  pub context : ℕ
  pub room : ℕ
  pub values : List ExtValue

-- The value of this number as C gets it.
abbrev pub written_value : ℕ → ℕ → Handle → ExtValue
written_value context number handle =
    record { handle = handle.raw; context = context; number = number; closeable = handle.closeable; fault = false }

-- The value is appended to those written while there is room, and the action does not fail.
pub record WritesNext (before : Writings) (number : ℕ) (handle : Handle) (answer : Result (Unit {0}) Fault)
    (after : Writings) : Type 0 where
  pub answered : answer ≡ Ok tt
  pub place : after.context ≡ before.context
  pub same_room : after.room ≡ before.room
  pub written : length before.values < before.room
      → after.values ≡ before.values ++ written_value before.context number handle ∷ []
