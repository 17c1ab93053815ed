-- How a lane finds the keys that it knows: a table of hints, which a search goes through from the key's hash on. Only
-- contracts of private functions cite it.
use Rattle.std.specs.Prelude.{ℕ, ◌≡◌, ◌≢◌, ◌<◌, ◌≤◌, ◌+◌, ◌-◌, ◌*◌, ◌/◌, ◌%◌, ◌⊎◌, All, List, [], Some, length, slice_index_or}
use Rattle.std.specs.Hash.FoldHasher.{initial, write, finish}
use Rattle.ext_tree.specs.Keys.{KeyValue, KnownPlace, NamespaceValue, IsKeyNumber, key_at}

-- The last part of a namespace; empty where there is none.
abbrev pub last_part : NamespaceValue → List ℕ
last_part namespace = slice_index_or namespace.parts (length namespace.parts - 1) []

-- A hash of the name and of the last part of the namespace.
unfoldable pub short_hash : KeyValue → ℕ
short_hash key = finish (write (write initial key.name) (last_part key.namespace)) % 65536

-- A hint is 0, if there is none, or the number of a known key plus one.
abbrev pub IsHint : List KnownPlace → ℕ → Type 0
IsHint notes hint = (hint ≡ 0) ⊎ ((key : KeyValue) × IsKeyNumber notes key (hint - 1))

abbrev pub AreHints : List KnownPlace → List ℕ → Type 0
AreHints notes hints = All (λ hint. IsHint notes hint) hints

-- The slot at which a search for a key begins: as far among all as its hash is among hashes.
abbrev pub first_slot : List ℕ → KeyValue → ℕ
first_slot hints key = short_hash key * length hints / 65536

-- The slot that a search for a key looks at in this step. It goes round.
abbrev pub slot_at : List ℕ → KeyValue → ℕ → ℕ
slot_at hints key step = (first_slot hints key + step) % length hints

-- The hint that a search for a key meets in this step.
abbrev pub hint_at : List ℕ → KeyValue → ℕ → ℕ
hint_at hints key step = slice_index_or hints (slot_at hints key step) 0

-- The search meets a hint in each step before this one.
abbrev pub MeetsHints : List ℕ → KeyValue → ℕ → Type 0
MeetsHints hints key step = (before : ℕ) → before < step → hint_at hints key before ≢ 0

-- The search for the key finds it in this step, at the place with this number.
pub record FindsAt (notes : List KnownPlace) (hints : List ℕ) (key : KeyValue) (number step : ℕ) : Type 0 where
  pub within : step < length hints
  pub hint : hint_at hints key step ≡ number + 1
  pub there : key_at notes number ≡ Some key
  pub met : MeetsHints hints key step

abbrev pub Finds : List KnownPlace → List ℕ → KeyValue → ℕ → Type 0
Finds notes hints key number = (step : ℕ) × FindsAt notes hints key number step

-- The slot is free, and is the first free one that the search meets.
pub record EndsAt (hints : List ℕ) (key : KeyValue) (slot step : ℕ) : Type 0 where
  pub within : step < length hints
  pub slot_is : slot ≡ slot_at hints key step
  pub free : hint_at hints key step ≡ 0
  pub met : MeetsHints hints key step

abbrev pub Ends : List ℕ → KeyValue → ℕ → Type 0
Ends hints key slot = (step : ℕ) × EndsAt hints key slot step

-- The key of the place with this number is known, and the search finds it, there or at an earlier place.
pub record IsIndexed (notes : List KnownPlace) (hints : List ℕ) (number : ℕ) : Type 0 where
  pub key : KeyValue
  pub there : key_at notes number ≡ Some key
  pub first : ℕ
  pub found : Finds notes hints key first

-- Notes of up to 1,024 places, with two slots for hints for each of them. A search finds the keys of all places before
-- the next one.
pub record AreNotes (notes : List KnownPlace) (hints : List ℕ) (next : ℕ) : Type 0 where
  pub few : length notes ≤ 1024
  pub twice : length hints ≡ 2 * length notes
  pub right : AreHints notes hints
  pub indexed : (number : ℕ) → number < next → IsIndexed notes hints number
