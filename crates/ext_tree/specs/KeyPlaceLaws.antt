-- Laws of the numbers that keys get during a run, by which a reader may judge the definitions.
use Rattle.std.specs.Prelude.{ℕ, ◌≡◌, ◌≢◌, ◌<◌, List, length}
use Rattle.ext_tree.specs.Keys.{KeyValue, KnownPlace, IsKeyFault, IsKeyNumber, KeepsKeys, OneKey, OneNumber, PlacesNone, PlacesOnly, no_key_known, placed_at}
use Rattle.ext_tree.specs.declared.key_fault.KeyFault.{KeyFault}

-- In one lane's notes a key has at most one number, and a number at most one key. A key keeps its number, and one that
-- has a number is not refused.
pub record KeyNumbersTell : Type 0 where
  pub one_number : (notes : List KnownPlace) (key : KeyValue) (number second : ℕ) → IsKeyNumber notes key number
      → IsKeyNumber notes key second → number ≡ second
  pub one_key : (notes : List KnownPlace) (key other : KeyValue) (number : ℕ) → IsKeyNumber notes key number
      → IsKeyNumber notes other number → key ≡ other
  pub within : (notes : List KnownPlace) (key : KeyValue) (number : ℕ) → IsKeyNumber notes key number
      → number < length notes
  pub stays : (before after : List KnownPlace) (key : KeyValue) (number : ℕ) → KeepsKeys before after
      → IsKeyNumber before key number → IsKeyNumber after key number
  pub not_refused : (notes : List KnownPlace) (key : KeyValue) (number : ℕ) (why : KeyFault)
      → IsKeyNumber notes key number → IsKeyFault notes key why → ⊥
  pub none_at_first : (places : List ℕ) (key : KeyValue) (number : ℕ) → IsKeyNumber (no_key_known places) key number → ⊥

-- Notes agree if one list contains what both know. That is true of lanes that met one after the other, as the last of
-- them knows what all know.
abbrev pub SharedNotesAgree : Type 0
SharedNotesAgree = (first second whole : List KnownPlace) → KeepsKeys first whole → KeepsKeys second whole
    → OneNumber first second × OneKey first second

-- A call that names a key sets at most one place, and none if the key is refused.
pub record PlacingTells : Type 0 where
  pub one_place : (before after : List KnownPlace) (key : KeyValue) (number second : ℕ) → PlacesOnly key before after
      → placed_at after number ≢ placed_at before number → placed_at after second ≢ placed_at before second
      → number ≡ second
  pub none_refused : (before after : List KnownPlace) (key : KeyValue) (why : KeyFault) → PlacesOnly key before after
      → IsKeyFault after key why → PlacesNone before after
