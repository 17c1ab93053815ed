-- When a context is closed, and which values remain in it, in the order in which they are closed.
-- When a context ends, JUnit closes the closeable values of its store in the inverse order in which they were added
-- (User Guide, "Keeping State in Extensions"; Javadoc `ExtensionContext.Store.CloseableResource`). Here each value has
-- a drawn number, so the greatest number is the latest value. Whoever closes the values decides which are closeable.
-- `slots` says what stands in the context under each key, and `keys` how many keys there are, numbered from 0.
use Rattle.std.specs.Prelude.{ℕ, zero, suc, ◌≡◌, ◌<◌, ◌==◌, nat_lt, if◌then◌else◌, List, [], ◌∷◌, Option, None, Some, Contains, ◌↔◌}
use Rattle.ext_model.specs.History.{History, state_after, version_of}
use Rattle.ext_model.specs.declared.slot.Slot.{Slot}
use Rattle.ext_model.specs.declared.slot.Slot.TheVariants.{Entry, Fault, Claim, Sealed}

-- All places of the context are sealed.
abbrev pub IsClosed : (ℕ → Option Slot) → ℕ → Type 0
IsClosed slots keys = (key : ℕ) → key < keys → (kept : Option ℕ) × (slots key ≡ Some (Sealed kept))

-- The cell has had one event, a seal that kept nothing: nobody used it before.
pub record IsSealedUnused (h : History) (cell : ℕ) : Type 0 where
  pub version : version_of h cell ≡ 1
  pub slot : (state_after h).slots cell ≡ Some (Sealed None)

-- The number that a seal keeps.
abbrev pub kept_by : Option Slot → Option ℕ
kept_by None = None
kept_by (Some (Entry number)) = None
kept_by (Some (Fault number)) = None
kept_by (Some (Claim lane)) = None
kept_by (Some (Sealed kept)) = kept

-- Inserts the number into a falling list, unless it is there already.
abbrev pub put_in : ℕ → List ℕ → List ℕ
put_in number [] = number ∷ []
put_in number (first ∷ rest) = if nat_lt first number then number ∷ first ∷ rest else if first == number
    then first ∷ rest else first ∷ put_in number rest

abbrev pub put_in_kept : Option ℕ → List ℕ → List ℕ
put_in_kept None numbers = numbers
put_in_kept (Some number) numbers = put_in number numbers

-- The numbers that the seals of the context keep, greatest first.
abbrev pub remaining : (ℕ → Option Slot) → ℕ → List ℕ
remaining slots zero = []
remaining slots (suc keys) = put_in_kept (kept_by (slots keys)) (remaining slots keys)

-- The seal of one of the keys keeps the number.
abbrev pub IsKept : (ℕ → Option Slot) → ℕ → ℕ → Type 0
IsKept slots keys number = (key : ℕ) × (key < keys) × (slots key ≡ Some (Sealed (Some number)))

abbrev pub IsBelow : ℕ → List ℕ → Type 0
IsBelow number [] = Unit {0}
IsBelow number (next ∷ rest) = next < number

-- Each number is greater than the next.
abbrev pub IsFalling : List ℕ → Type 0
IsFalling [] = Unit {0}
IsFalling (number ∷ rest) = IsBelow number rest × IsFalling rest

-- The list has exactly the numbers that the seals of the context keep, greatest first and each once.
pub record IsRemaining (slots : ℕ → Option Slot) (keys : ℕ) (numbers : List ℕ) : Type 0 where
  pub kept : (number : ℕ) → Contains numbers number ↔ IsKept slots keys number
  pub falling : IsFalling numbers
