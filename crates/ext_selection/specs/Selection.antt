-- Which tests are run: those whose ids are asked for and not left out, which stand in the wanted part, and which failed
-- before if only such are run. A container is kept for the tests in it. An own rule, for JUnit 5 User Guide, "Running
-- Tests" (selectors and filters). Ids and texts are lists of bytes.
use Rattle.std.specs.Prelude.{◌≡◌, ℕ, ◌<◌, ◌&&◌, ◌||◌, ◌↔◌, not, nat_eq, Bool, true, false, IsTrue, List, [], ◌∷◌, length, drop, filter, map, slice_index_or, Option, Some, None, String, string_bytes, Vec}
use Rattle.std.specs.List.{starts_with, list_any, range_with_len}
use Rattle.std.specs.Str.{bytes_eq}
use Rattle.ext_ids.specs.Grammar.{Pair, id_text}
use Rattle.ext_selection.specs.Nodes.{node_at, StandsIn}
use Rattle.ext_selection.specs.Shards.{is_in, is_slash}
use Rattle.ext_selection.specs.declared.nodes.Node.{Node}
use Rattle.ext_selection.specs.declared.selection.Selection.{Selection}

-- ---- ids and texts

-- The part stands somewhere in the text.
abbrev pub has_part : List ℕ → List ℕ → Bool
has_part part [] = starts_with nat_eq [] part
has_part part (c ∷ cs) = starts_with nat_eq (c ∷ cs) part || has_part part cs

-- What follows a whole id: nothing, or the segments below it.
abbrev pub ends_id : List ℕ → Bool
ends_id [] = true
ends_id (c ∷ cs) = is_slash c

-- The id is the text, or stands below it.
abbrev pub is_below : List ℕ → List ℕ → Bool
is_below text id = starts_with nat_eq id text && ends_id (drop (length text) id)

abbrev pub matches : Bool → List ℕ → List ℕ → Bool
matches false text id = has_part text id
matches true text id = is_below text id

abbrev pub has_match : {Y : Type 0} → Bool → List (String Y) → List ℕ → Bool
has_match exact texts id = list_any (λ text. matches exact (string_bytes text) id) texts

abbrev pub is_asked : {Y : Type 0} → Bool → List (String Y) → List ℕ → Bool
is_asked exact [] id = true
is_asked exact (text ∷ texts) id = has_match exact (text ∷ texts) id

-- The id is one of these, where there is a list.
abbrev pub is_listed : {Y Z : Type 0} → Option (Vec (String Y) Z) → List ℕ → Bool
is_listed None id = true
is_listed (Some names) id = list_any (λ name. bytes_eq id (string_bytes name)) names.items

abbrev pub is_wanted : Selection → List ℕ → Bool
is_wanted selection id =
    ((is_asked selection.exact selection.texts.items id
    && not (has_match selection.exact selection.skips.items id))
    && is_listed selection.failed id)
    && is_in selection.shard id

-- The nodes whose ids are wanted; one without an id is not.
abbrev pub wanted_of : Selection → List (List Pair) → List Bool
wanted_of selection ids = map (λ id. is_wanted selection (id_text id)) ids

abbrev pub flag_at : List Bool → ℕ → Bool
flag_at flags k = slice_index_or flags k false

-- ---- nodes

-- Something is given to a test here, and no node stands in this one.
pub record IsTest (nodes : List Node) (k : ℕ) : Type 0 where
  pub given : IsTrue (node_at nodes k).is_test
  pub last : (j : ℕ) → ¬ StandsIn nodes j k

-- A kept node stands in this one.
abbrev pub HasKept : List Node → (ℕ → Bool) → ℕ → Type 0
HasKept nodes kept k = (j : ℕ) × IsTrue (kept j) × StandsIn nodes j k

-- Which nodes are kept: a test if it is wanted, and a container if a kept node stands in it.
pub record AreKept (nodes : List Node) (wanted : List Bool) (kept : ℕ → Bool) : Type 0 where
  pub tests : (k : ℕ) → k < length nodes → IsTest nodes k → kept k ≡ flag_at wanted k
  pub containers : (k : ℕ) → k < length nodes → ¬ IsTest nodes k → IsTrue (kept k) ↔ HasKept nodes kept k

-- The indices of the kept nodes, rising.
pub record AreChosen (nodes : List Node) (wanted : List Bool) (indices : List ℕ) : Type 0 where
  pub kept : ℕ → Bool
  pub rule : AreKept nodes wanted kept
  pub exact : indices ≡ filter kept (range_with_len 0 (length nodes))
