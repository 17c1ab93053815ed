-- What a close promises of its seat. `before` and `after` are the seat, `was` and `values` the caller's list, and
-- `count` is how many values are written there.
use Rattle.std.specs.Prelude.{ℕ, ◌≡◌, ◌≢◌, ◌<◌, ◌≤◌, ◌⊎◌, List, [], ◌∷◌, drop, length, slice_index_or, take, None, Some, Ok, Err}
use Rattle.ext_values.specs.Known.{Learns}
use Rattle.ext_store.specs.Stores.{CloserView, StoreLane, StoreView}
use Rattle.ext_model.specs.declared.closed.Closed.{Closed}
use Rattle.ext_closing.specs.declared.fault.CloseFault.{CloseFault}
use Rattle.ext_closing.specs.declared.fault.CloseFault.TheVariants as close
use Rattle.ext_closing.specs.Closes as closing
use Rattle.ext_c.specs.declared.code.Code.{Code}
use Rattle.ext_c.specs.declared.code.Code.TheVariants as code
use Rattle.ext_c.specs.declared.handle.Handle.{Handle}
use Rattle.ext_c.specs.declared.value.ExtValue.{ExtValue}
use Rattle.ext_c.specs.declared.seat.Seat.{Seat}
use Rattle.ext_c.specs.Answers.{store_of}
use Rattle.ext_c.specs.Codes.{close_code}
use Rattle.ext_c.specs.Writing.{WritesNext, Writings}

-- How many values a close writes out at most: one for each place that its store has for keys.
abbrev pub room_for : StoreView → ℕ
room_for store = length store.id.keys

-- The lane has no claim, the list has enough places, and there is such a context.
pub record MayAsk (context places : ℕ) (seat : Seat) : Type 0 where
  pub idle : seat.claim ≡ None
  pub room : room_for (store_of seat) ≤ places
  pub listed : context < length (store_of seat).tree

-- Why the store is not asked for a close, by the first reason that applies: the lane has a claim, the list has too few
-- places, there is no such context, this lane doesn't close it, or it is closed already.
pub data NotClosing (context places : ℕ) (seat : Seat) : Code → Type 0 where
  claiming : (claim : ℕ) → seat.claim ≡ Some claim → NotClosing context places seat code.Claiming
  too_few : seat.claim ≡ None → places < room_for (store_of seat) → NotClosing context places seat code.TooFewPlaces
  no_context : seat.claim ≡ None → room_for (store_of seat) ≤ places → length (store_of seat).tree ≤ context
      → NotClosing context places seat code.BadContext
  no_closer : MayAsk context places seat → length seat.closers.items ≤ context
      → NotClosing context places seat code.NoCloser
  not_this : MayAsk context places seat → (closer : CloserView)
      → slice_index_or seat.closers.items context None ≡ Some closer → closer.context ≢ context
      → NotClosing context places seat code.NoCloser
  was_closed : MayAsk context places seat → context < length seat.closers.items
      → slice_index_or seat.closers.items context None ≡ None → NotClosing context places seat code.Closed

-- The store is asked for the close, with the lane's closer of the context.
pub record Asks (context places : ℕ) (seat : Seat) (closer : CloserView) : Type 0 where
  pub may : MayAsk context places seat
  pub has : slice_index_or seat.closers.items context None ≡ Some closer
  pub own : closer.context ≡ context

-- `count` values are written to the front of the list, and the rest stays as it was.
pub record WritesOut (was values : List ExtValue) (count : ℕ) (written : List ExtValue) : Type 0 where
  pub counted : count ≡ length written
  pub front : take count values ≡ written
  pub rest : drop count values ≡ drop count was

-- The store closes the context, and what it has written then is written out: there is room for a value of each place.
pub record WritesClosed (context : ℕ) (store : StoreView) (closer : CloserView) (before after : StoreLane Handle)
    (was values : List ExtValue) (count : ℕ) : Type 0 where
  pub first : Writings
  pub last : Writings
  pub closed : Closed
  pub empty : first.values ≡ []
  pub place : first.context ≡ context
  pub room : first.room ≡ room_for store
  pub closes : closing.Closes (λ h. h.closeable) WritesNext store closer (before ∷ []) first (Ok closed) (after ∷ []) last
  pub writes : WritesOut was values count last.values

-- The store refuses the close for this reason.
pub record IsRefusedFor (store : StoreView) (closer : CloserView) (before after : StoreLane Handle) (why : CloseFault)
    : Type 0 where
  pub first : Writings
  pub closes : closing.Closes (λ h. h.closeable) WritesNext store closer (before ∷ []) first (Err (closer, why))
      (after ∷ []) first

-- The closers of all other contexts are as they were.
abbrev pub KeepsOthers : ℕ → Seat → Seat → Type 0
KeepsOthers context before after = (other : ℕ) → other ≢ context
    → slice_index_or after.closers.items other None ≡ slice_index_or before.closers.items other None

-- Only the closer of this context is gone.
pub record LosesOnly (context : ℕ) (before after : Seat) : Type 0 where
  pub gone : slice_index_or after.closers.items context None ≡ None
  pub others : KeepsOthers context before after
  pub places : length after.closers.items ≡ length before.closers.items

-- The code of a close that the store refused, and what became of the lane since. After `Unjoined` the lane now knows
-- the value that it lacked, unless the thread does not find it. Otherwise the lane is unchanged.
abbrev pub TellsRefused : CloseFault → StoreLane Handle → StoreLane Handle → Code → Type 0
TellsRefused (close.Unjoined number) asked after said =
    ((said ≡ code.Unjoined) × ((value : Handle) × Learns asked.known after.known number value))
    ⊎ ((said ≡ code.Unshown) × (after ≡ asked))
TellsRefused (close.Busy key) asked after said = (said ≡ close_code (close.Busy key)) × (after ≡ asked)
TellsRefused (close.Contended key) asked after said = (said ≡ close_code (close.Contended key)) × (after ≡ asked)

-- One close of the store with only this lane in hand. It writes out the closeable values that remain, latest first, and
-- the lane loses its closer. Or this is why it is refused, and the lane has all closers that it had.
pub data CloseSays (context : ℕ) (before after : Seat) (was values : List ExtValue) (count : ℕ) (said : Code)
    : Type 0 where
  not_asked : NotClosing context (length was) before said → after ≡ before → values ≡ was → count ≡ 0
      → CloseSays context before after was values count said
  closed : (closer : CloserView) → Asks context (length was) before closer
      → WritesClosed context (store_of before) closer before.lane after.lane was values count
      → said ≡ code.Done → LosesOnly context before after
      → CloseSays context before after was values count said
  refused : (closer : CloserView) (why : CloseFault) (asked : StoreLane Handle) → Asks context (length was) before closer
      → IsRefusedFor (store_of before) closer before.lane asked why
      → TellsRefused why asked after.lane said → after.lane.cells ≡ asked.cells
      → after.closers.items ≡ before.closers.items → values ≡ was → count ≡ 0
      → CloseSays context before after was values count said
