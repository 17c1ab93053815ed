-- How the fault of a text that is no unique id is explained. Texts are lists of bytes.
use Rattle.std.specs.Prelude.{◌≡◌, ◌⊎◌, ◌==◌, ℕ, zero, suc, Bool, false, if◌then◌else◌, codes, encode_utf8, List, ◌++◌, slice_get, Option, Some, None}
use Rattle.ext_ids.specs.Grammar.{percent, plus, left_bracket, right_bracket, colon, slash, spelled}
use Rattle.ext_ids.specs.declared.fault.IdFault.{IdFault}
use Rattle.ext_ids.specs.declared.fault.IdFault.TheVariants as ids

-- The words for each fault. `SaysRaw` has better ones for a raw character.
abbrev pub words_of : IdFault → List ℕ
words_of ids.Empty = codes "it is empty"
words_of (ids.NoOpen at) = codes "a segment begins with `[`"
words_of (ids.NoSeparator at) = codes "a type ends with `:`, and none stands before this place"
words_of (ids.NoClose at) = codes "a value ends with `]`, and none stands before its end"
words_of (ids.BadEscape at) = codes "a `%` begins one of `%25`, `%2B`, `%5B`, `%5D`, `%3A` and `%2F`"
words_of (ids.RawCharacter at) = codes "a mark stands there as it is"
words_of (ids.EmptyPart at) = codes "the type or the value that ends there is empty"
words_of ids.TooDeep = codes "it has more than 16 segments"
words_of ids.Memory = codes "memory was refused"

-- One of the six marks.
abbrev pub IsMark : ℕ → Type 0
IsMark c = (c ≡ percent) ⊎ (c ≡ plus) ⊎ (c ≡ left_bracket) ⊎ (c ≡ right_bracket) ⊎ (c ≡ colon) ⊎ (c ≡ slash)

-- A segment's `]` stands just before this index.
abbrev pub is_bracket : Option ℕ → Bool
is_bracket None = false
is_bracket (Some c) = c == right_bracket

abbrev pub is_behind : List ℕ → ℕ → Bool
is_behind text zero = false
is_behind text (suc last) = is_bracket (slice_get text last)

-- The character at an index within a segment.
abbrev pub within : List ℕ → ℕ → Option ℕ
within text at = if is_behind text at then None else slice_get text at

-- The words for a raw character: how a mark is written in a type or a value.
abbrev pub SaysRaw : Option ℕ → List ℕ → Type 0
SaysRaw None words = words ≡ codes "behind a segment stands a `/` or nothing"
SaysRaw (Some c) words = IsMark c
    → words ≡ codes "`" ++ encode_utf8 c ++ codes "` has to be written `" ++ spelled c ++ codes "`"

-- The words for a fault of this text.
abbrev pub SaysOf : List ℕ → IdFault → List ℕ → Type 0
SaysOf text (ids.RawCharacter at) words = SaysRaw (within text at) words
SaysOf text fault words = words ≡ words_of fault

-- The line that explains it.
pub record ExplainsId (text : List ℕ) (fault : IdFault) (line : List ℕ) : Type 0 where
  pub words : List ℕ
  pub says : SaysOf text fault words
  pub line_is : line ≡ codes "the id: " ++ words
