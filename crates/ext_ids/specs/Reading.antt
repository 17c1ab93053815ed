-- Reading a text from left to right, byte by byte, as the scanner does: the pairs of its segments, or the first fault
-- (`read_id`). Grammar says what it must accept, and Faults what it must refuse; `parse` promises both.
use Rattle.std.specs.Prelude.{◌≡◌, ℕ, zero, suc, ◌+◌, Bool, true, false, ◌||◌, ◌==◌, not, List, [], ◌∷◌, length, drop, slice_index, slice_range, Result, Ok, Err, is_some, unwrap_or, if◌then◌else◌, IsOk}
use Rattle.ext_ids.specs.Grammar.{Pair, percent, plus, left_bracket, right_bracket, colon, slash, escape_of}
use Rattle.ext_ids.specs.declared.fault.IdFault.{IdFault}
use Rattle.ext_ids.specs.declared.fault.IdFault.TheVariants as faults
use Rattle.ext_ids.specs.declared.scan.Part.{Part}
use Rattle.ext_ids.specs.declared.scan.Part.TheVariants as parts

infixl 10 ◌>>=◌
abbrev pub ◌>>=◌ : {A B : Type 0} → Result A IdFault → (A → Result B IdFault) → Result B IdFault
(Ok x) >>= f = f x
(Err e) >>= f = Err e

-- A function of the scanner returned what reading gives, with values seen by `view`. Only contracts within the crate
-- cite it.
abbrev pub Gives : {X Y : Type 0} → (X → Y) → Result X IdFault → Result Y IdFault → Type 0
Gives view (Ok x) read = read ≡ Ok (view x)
Gives view (Err e) read = read ≡ Err e

-- The characters that a part spells, after `skip` bytes.
abbrev pub unescaped : ℕ → List ℕ → List ℕ
unescaped skip [] = []
unescaped zero (b ∷ rest) = if b == percent then unwrap_or (escape_of rest) percent ∷ unescaped 2 rest
    else b ∷ unescaped 0 rest
unescaped (suc skip) (b ∷ rest) = unescaped skip rest

-- A mark that may neither stand in a part nor close one.
abbrev pub is_raw : ℕ → Bool
is_raw b = (b == plus || b == left_bracket) || b == slash

-- The mark that closes a part.
abbrev pub closing : Part → ℕ
closing parts.Type = colon
closing parts.Value = right_bracket

-- The fault if the text ends within a part.
abbrev pub ended : Part → ℕ → IdFault
ended parts.Type at = faults.NoSeparator at
ended parts.Value at = faults.NoClose at

-- The offset of a closing mark; a fault if the part is empty.
abbrev pub closed : Bool → ℕ → Result ℕ IdFault
closed some at = if some then Ok at else Err (faults.EmptyPart at)

abbrev pub at_colon : Part → Bool → ℕ → Result ℕ IdFault
at_colon parts.Type some at = closed some at
at_colon parts.Value some at = Err (faults.RawCharacter at)

abbrev pub at_bracket : Part → Bool → ℕ → Result ℕ IdFault
at_bracket parts.Type some at = Err (faults.NoSeparator at)
at_bracket parts.Value some at = closed some at

-- Where a part ends, read from the offset `at`. `some` says whether it has a character yet. The two digits after the `%`
-- of an escape are read like other characters.
abbrev pub part_end : Part → ℕ → Bool → List ℕ → Result ℕ IdFault
part_end part at some [] = Err (ended part at)
part_end part at some (b ∷ rest) =
    if b == percent then (if is_some (escape_of rest) then part_end part (at + 1) true rest
    else Err (faults.BadEscape at))
    else if is_raw b then Err (faults.RawCharacter at)
    else if b == colon then at_colon part some at
    else if b == right_bracket then at_bracket part some at
    else part_end part (at + 1) true rest

-- Where the type and the value end in the segment that begins at `at`.
unfoldable pub segment_at : List ℕ → ℕ → Result (ℕ × ℕ) IdFault
segment_at text at =
    if (length text == at) || not (slice_index text at == left_bracket) then Err (faults.NoOpen at) else do
      kind ← part_end parts.Type (at + 1) false (drop (at + 1) text)
      value ← part_end parts.Value (kind + 1) false (drop (kind + 1) text)
      Ok (kind, value)

-- The type and the value that end at these offsets, decoded.
abbrev pub pair_of : List ℕ → ℕ → ℕ × ℕ → Pair
pair_of text at ends =
    (unescaped 0 (slice_range text (at + 1) ends.0), unescaped 0 (slice_range text (ends.0 + 1) ends.1))

-- What follows the segment whose `]` stands at `close`: the end of the text, or more segments.
abbrev pub after_segment : List ℕ → ℕ → Pair → Result (List Pair) IdFault → Result (List Pair) IdFault
after_segment text close pair more =
    if length text == close + 1 then Ok (pair ∷ [])
    else if slice_index text (close + 1) == slash then more >>= (λ pairs. Ok (pair ∷ pairs))
    else Err (faults.RawCharacter (close + 1))

-- The segments from `at` on, at most `n`.
unfoldable pub segments_at : ℕ → List ℕ → ℕ → Result (List Pair) IdFault
segments_at zero text at = Err faults.TooDeep
segments_at (suc n) text at = do
  ends ← segment_at text at
  after_segment text ends.1 (pair_of text at ends) (segments_at n text (ends.1 + 2))

-- The segments of a text.
unfoldable pub read_id : List ℕ → Result (List Pair) IdFault
read_id text = if length text == 0 then Err faults.Empty else segments_at 16 text 0

-- The error is the fault of reading; or it is `Memory`, and the text itself reads as an id.
abbrev pub FailsAs : IdFault → Result (List Pair) IdFault → Type 0
FailsAs faults.Memory read = IsOk read
FailsAs e read = read ≡ Err e

-- `parse` returned what reading gives, or ran out of memory on a text that reads as an id.
abbrev pub GivesOrMemory : Result (List Pair) IdFault → Result (List Pair) IdFault → Type 0
GivesOrMemory (Ok pairs) read = read ≡ Ok pairs
GivesOrMemory (Err e) read = FailsAs e read
