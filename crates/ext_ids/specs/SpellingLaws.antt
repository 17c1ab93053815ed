-- Laws of the grammar and of the table of faults.
use Rattle.std.specs.Prelude.{ℕ, ◌≡◌, ◌⊎◌, List, encode_utf8_all}
use Rattle.std.specs.List.{flat_map}
use Rattle.ext_ids.specs.declared.fault.IdFault.{IdFault}
use Rattle.ext_ids.specs.Faults.{HasFault}
use Rattle.ext_ids.specs.Grammar.{Pair, IsId, IsIdText, id_text, part_text, spelled}

-- A text spells at most one id.
abbrev pub TextTellsPairs : Type 0
TextTellsPairs = (text : List ℕ) (ps qs : List Pair) → IsIdText text ps → IsIdText text qs → ps ≡ qs

-- Pairs that make an id have the spelling `id_text` and no other.
pub record HasOneSpelling (pairs : List Pair) : Type 0 where
  pub spelling : IsIdText (id_text pairs) pairs
  pub only : (text : List ℕ) → IsIdText text pairs → text ≡ id_text pairs

abbrev pub PairsTellText : Type 0
PairsTellText = (pairs : List Pair) → IsId pairs → HasOneSpelling pairs

-- Spelling the bytes of a part is the same as spelling its characters one by one.
abbrev pub SpellsCharacters : Type 0
SpellsCharacters = (characters : List ℕ)
    → part_text (encode_utf8_all characters) ≡ encode_utf8_all (flat_map spelled characters)

-- The text spells an id or has a fault, never both and never two faults.
pub record IsDecided (text : List ℕ) : Type 0 where
  pub one_of_both : ((pairs : List Pair) × IsIdText text pairs) ⊎ ((fault : IdFault) × HasFault text fault)
  pub not_both : (pairs : List Pair) (fault : IdFault) → IsIdText text pairs → HasFault text fault → ⊥
  pub one_fault : (fault second : IdFault) → HasFault text fault → HasFault text second → fault ≡ second

abbrev pub EachTextIsDecided : Type 0
EachTextIsDecided = (text : List ℕ) → IsDecided text
