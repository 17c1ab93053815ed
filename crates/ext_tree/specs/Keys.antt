-- When two namespaces or keys are equal, the numbers of declared keys, and what a lane knows of the places for keys.
-- The parts of a namespace are compared in order (JUnit 5 User Guide, "Keeping State in Extensions"; Javadoc
-- `ExtensionContext.Namespace`). Not from JUnit: the global namespace with parts appended equals no created one, and
-- keys have numbers.
-- A place is set once and then holds that key for good. A lane knows the key of a place once it put the key there or
-- was shown it. A key's number is the first place that holds it, so a lane can tell the number from the places up to
-- there.
use Rattle.std.specs.Prelude.{ℕ, ◌≡◌, ◌≢◌, ◌++◌, Bool, true, false, List, [], map, Option, Some, None, AllPairs, slice_get, ◌<◌, ◌⊎◌, length, slice_index_or}
use Rattle.std.specs.Borrow.{Bor}
use Rattle.std.specs.Global.{Vec}
use Rattle.ext_tree.specs.declared.key_fault.KeyFault.{KeyFault}
use Rattle.ext_tree.specs.declared.key_fault.KeyFault.TheVariants.{DirectoryFull, Unplaced, Memory}

-- A namespace: whether it was created or is the global one, and its parts, whether given to `create` or appended later.
-- Two namespaces are equal if both fields are.
pub record NamespaceValue : Type 0 where
  pub created : Bool
  pub parts : List (List ℕ)

-- A key. Two keys are equal if their namespaces and names are.
pub record KeyValue : Type 0 where
  pub namespace : NamespaceValue
  pub name : List ℕ

-- The parts of a namespace; `None` stands for no parts.
abbrev pub given : Option (Vec (List ℕ)) → List (List ℕ)
given None = []
given (Some parts) = parts.items

abbrev pub global_namespace : NamespaceValue
global_namespace = record { created = false; parts = [] }

abbrev pub created_namespace : List (List ℕ) → NamespaceValue
created_namespace parts = record { created = true; parts = parts }

-- What the texts handed in say.
abbrev pub texts_of : List (Bor (List ℕ)) → List (List ℕ)
texts_of texts = map (λ t. t.now) texts

-- The namespace with further parts after its own.
abbrev pub appended : NamespaceValue → List (List ℕ) → NamespaceValue
appended namespace parts = record { created = namespace.created; parts = namespace.parts ++ parts }

abbrev pub key_of : NamespaceValue → List ℕ → KeyValue
key_of namespace name = record { namespace = namespace; name = name }

-- No key stands twice.
abbrev pub AreDifferent : List KeyValue → Type 0
AreDifferent keys = AllPairs (λ a b. a ≢ b) keys

-- The key stands at this number.
abbrev pub HasNumber : List KeyValue → KeyValue → ℕ → Type 0
HasNumber keys key number = slice_get keys number ≡ Some key

-- ---- places for keys

-- What a lane knows of one place: its name, the key that it holds, if known, and whether this lane put it there.
pub record KnownPlace : Type 0 where
  pub place : ℕ
  pub key : Option KeyValue
  pub placed : Bool

abbrev pub unknown_place : ℕ → KnownPlace
unknown_place place = record { place = place; key = None; placed = false }

abbrev pub no_key_known : List ℕ → List KnownPlace
no_key_known places = map (λ place. unknown_place place) places

-- The names of the places.
abbrev pub key_places_of : List KnownPlace → List ℕ
key_places_of notes = map (λ known. known.place) notes

-- The notes are about these places.
abbrev pub AreKeyNotesOf : List ℕ → List KnownPlace → Type 0
AreKeyNotesOf places notes = key_places_of notes ≡ places

-- The key of the place with this number, if known. Numbers past the last place have none.
abbrev pub key_at : List KnownPlace → ℕ → Option KeyValue
key_at notes number = (slice_index_or notes number (unknown_place 0)).key

-- The place is known to hold another key.
pub record HoldsOther (notes : List KnownPlace) (key : KeyValue) (number : ℕ) : Type 0 where
  pub other : KeyValue
  pub there : key_at notes number ≡ Some other
  pub differs : other ≢ key

-- Each place before this one is known to hold another key.
abbrev pub PassedBefore : List KnownPlace → KeyValue → ℕ → Type 0
PassedBefore notes key number = (place : ℕ) → place < number → HoldsOther notes key place

-- The key's number: its place is known to hold it, and each place before is known to hold another key.
pub record IsKeyNumber (notes : List KnownPlace) (key : KeyValue) (number : ℕ) : Type 0 where
  pub there : key_at notes number ≡ Some key
  pub before : PassedBefore notes key number

-- The first place not known to hold any key, if each place before is known to hold another key than this one. It is
-- where the lane looks next.
pub record IsNext (notes : List KnownPlace) (key : KeyValue) (number : ℕ) : Type 0 where
  pub within : number < length notes
  pub free : key_at notes number ≡ None
  pub before : PassedBefore notes key number

-- All places are known to hold other keys.
abbrev pub IsFullFor : List KnownPlace → KeyValue → Type 0
IsFullFor notes key = PassedBefore notes key (length notes)

-- Why a key gets no number: all places are known to hold other keys, or there was no memory to copy the key into the
-- first place that might be free. `Unplaced` never comes: a place either takes the copy or shows its key.
abbrev pub IsKeyFault : List KnownPlace → KeyValue → KeyFault → Type 0
IsKeyFault notes key DirectoryFull = IsFullFor notes key
IsKeyFault notes key Unplaced = ⊥
IsKeyFault notes key Memory = (number : ℕ) × IsNext notes key number

-- The notes are of the same places, and what was known is still known.
pub record KeepsKeys (before after : List KnownPlace) : Type 0 where
  pub places : key_places_of after ≡ key_places_of before
  pub keys : (number : ℕ) (key : KeyValue) → key_at before number ≡ Some key → key_at after number ≡ Some key

-- The lane put a key at the place with this number.
abbrev pub placed_at : List KnownPlace → ℕ → Bool
placed_at notes number = (slice_index_or notes number (unknown_place 0)).placed

-- Any place that the lane set has this key, and is the one with the key's number: so it set at most one.
abbrev pub PlacesOnly : KeyValue → List KnownPlace → List KnownPlace → Type 0
PlacesOnly key before after = (number : ℕ) → (placed_at after number ≡ placed_at before number)
    ⊎ IsKeyNumber after key number

-- The lane put no key at any place.
abbrev pub PlacesNone : List KnownPlace → List KnownPlace → Type 0
PlacesNone before after = (number : ℕ) → placed_at after number ≡ placed_at before number

-- A key that both lists know has one number in both.
abbrev pub OneNumber : List KnownPlace → List KnownPlace → Type 0
OneNumber notes others = (key : KeyValue) (number second : ℕ) → IsKeyNumber notes key number
    → IsKeyNumber others key second → number ≡ second

-- A number that both lists know has one key in both.
abbrev pub OneKey : List KnownPlace → List KnownPlace → Type 0
OneKey notes others = (number : ℕ) (key other : KeyValue) → key_at notes number ≡ Some key
    → key_at others number ≡ Some other → key ≡ other

-- ---- for private functions

-- The answer to whether a place holds the key, by the key that the place is known to hold.
abbrev pub Tells : Option KeyValue → KeyValue → Bool → Type 0
Tells held key true = held ≡ Some key
Tells held key false = (other : KeyValue) × (held ≡ Some other) × (other ≢ key)

-- Below this number the two lists never know different keys for one place.
abbrev pub AgreeBelow : List KnownPlace → List KnownPlace → ℕ → Type 0
AgreeBelow notes others count = (number : ℕ) → number < count → (key other : KeyValue) → key_at notes number ≡ Some key
    → key_at others number ≡ Some other → key ≡ other
