-- The word of a lock has a bit for each lane that holds it. Lane i, from 0 to 31, reads by bit i and writes by bit 32 +
-- i. All other bits are 0.
use Rattle.std.specs.Prelude.{ℕ, ◌≡◌, ◌+◌, ◌^◌, ◌<◌, Bool, true, false}
use Rattle.std.specs.Int.{bit_at}
use Rattle.ext_locks.specs.declared.event.LockMode.{LockMode}
use Rattle.ext_locks.specs.declared.event.LockMode.TheVariants.{Read, ReadWrite}
use Rattle.ext_locks.specs.History.{LockHistory, holds}

-- The bit of a lane that holds the lock in this mode.
abbrev pub bit_of : LockMode → ℕ → ℕ
bit_of Read lane = lane
bit_of ReadWrite lane = 32 + lane

abbrev pub as_bit : Bool → ℕ
as_bit true = 1
as_bit false = 0

-- The word has the bits of this lock's holders and no others.
pub record IsWord (h : LockHistory) (lock : ℕ) (word : ℕ) : Type 0 where
  pub small : word < 2 ^ 64
  pub bits : (mode : LockMode) (lane : ℕ) → lane < 32 → bit_at word (bit_of mode lane) ≡ as_bit (holds h lock mode lane)

-- A lock with this word is free for the mode: it has no writer's bit, or no bit at all.
abbrev pub IsFreeWord : LockMode → ℕ → Type 0
IsFreeWord Read word = word < 2 ^ 32
IsFreeWord ReadWrite word = word ≡ 0
