-- The first fault of a text that is no id: the text is right up to a byte, and wrong there.
--
--     where                          what stands there                   fault
--     the whole text                 nothing                             Empty
--     start of a segment             not `[`, or the end                 NoOpen
--     in a type                      the end, or `]`                     NoSeparator
--     in a type                      `+`, `[` or `/`                     RawCharacter
--     in a type                      `:` with no item before it          EmptyPart
--     in a value                     the end                             NoClose
--     in a value                     `+`, `[`, `:` or `/`                RawCharacter
--     in a value                     `]` with no item before it          EmptyPart
--     in either                      `%` that begins no escape           BadEscape
--     after a segment's `]`          anything but `/` or the end         RawCharacter
--     after the 16th segment's `]`   `/`                                 TooDeep
--
-- An offset counts bytes. If the text ended too soon it is the text's length.
use Rattle.std.specs.Prelude.{ℕ, ◌+◌, ◌≡◌, ◌≢◌, ◌<◌, ◌==◌, ◌||◌, Bool, true, false, if◌then◌else◌, List, [], ◌∷◌, ◌++◌, length, Option, Some, None, is_some}
use Rattle.std.specs.List.{flat_map, AllByRecursion}
use Rattle.ext_ids.specs.declared.fault.IdFault.{IdFault}
use Rattle.ext_ids.specs.declared.fault.IdFault.TheVariants as faults
use Rattle.ext_ids.specs.Grammar.{Pair, percent, plus, left_bracket, right_bracket, colon, slash, escape_of, part_text, segment_text, IsFilled}

abbrev pub has_character : List ℕ → Bool
has_character [] = false
has_character (c ∷ cs) = true

-- The fault, if any, of a type that has been read up to `at`, by the rest of the text. `some` says whether an item
-- stands before it.
abbrev pub type_fault : ℕ → Bool → List ℕ → Option IdFault
type_fault at some [] = Some (faults.NoSeparator at)
type_fault at some (c ∷ rest) =
    if c == percent then (if is_some (escape_of rest) then None else Some (faults.BadEscape at))
    else if (c == plus || c == left_bracket) || c == slash then Some (faults.RawCharacter at)
    else if c == colon then (if some then None else Some (faults.EmptyPart at))
    else if c == right_bracket then Some (faults.NoSeparator at)
    else None

-- The same for a value.
abbrev pub value_fault : ℕ → Bool → List ℕ → Option IdFault
value_fault at some [] = Some (faults.NoClose at)
value_fault at some (c ∷ rest) =
    if c == percent then (if is_some (escape_of rest) then None else Some (faults.BadEscape at))
    else if (c == plus || c == left_bracket) || c == slash then Some (faults.RawCharacter at)
    else if c == colon then Some (faults.RawCharacter at)
    else if c == right_bracket then (if some then None else Some (faults.EmptyPart at))
    else None

-- The segments before an offset, each with its `/`.
abbrev pub ahead : List Pair → List ℕ
ahead pairs = flat_map (λ p. segment_text p ++ slash ∷ []) pairs

abbrev pub opens : List ℕ → Bool
opens [] = false
opens (c ∷ rest) = c == left_bracket

-- The text begins with these complete segments, each with its `/`, followed by `rest`.
pub record BeginsWith (text : List ℕ) (before : List Pair) (rest : List ℕ) : Type 0 where
  pub filled : AllByRecursion IsFilled before
  pub splits : text ≡ ahead before ++ rest

-- The text has this fault: it follows the grammar up to the fault's offset, and no further.
pub data HasFault (text : List ℕ) : IdFault → Type 0 where
  no_text : text ≡ [] → HasFault text faults.Empty
  no_segment : (before : List Pair) (rest : List ℕ) → length before < 16 → text ≢ [] → BeginsWith text before rest
      → opens rest ≡ false → HasFault text (faults.NoOpen (length (ahead before)))
  in_type : (before : List Pair) (kind rest : List ℕ) (what : IdFault) → length before < 16
      → BeginsWith text before (left_bracket ∷ (part_text kind ++ rest))
      → type_fault (length (ahead before) + 1 + length (part_text kind)) (has_character kind) rest ≡ Some what
      → HasFault text what
  in_value : (before : List Pair) (kind value rest : List ℕ) (what : IdFault) → length before < 16 → kind ≢ []
      → BeginsWith text before (left_bracket ∷ (part_text kind ++ (colon ∷ (part_text value ++ rest))))
      → value_fault (length (ahead before) + 1 + length (part_text kind) + 1 + length (part_text value))
      (has_character value) rest ≡ Some what
      → HasFault text what
  after_segment : (before : List Pair) (last : Pair) (c : ℕ) (rest : List ℕ) → length before < 16 → IsFilled last
      → c ≢ slash
      → BeginsWith text before (segment_text last ++ (c ∷ rest))
      → HasFault text (faults.RawCharacter (length (ahead before) + length (segment_text last)))
  too_deep : (before : List Pair) (rest : List ℕ) → length before ≡ 16 → BeginsWith text before rest
      → HasFault text faults.TooDeep
