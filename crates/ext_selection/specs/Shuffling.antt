-- Orders of nodes that a seed decides. An own rule, for JUnit 5 User Guide, "Test Execution Order" (random orders).
use Rattle.std.specs.Prelude.{◌≡◌, ℕ, ◌<◌, ◌++◌, true, false, List, [], Some, slice_get, slice_index_or}
use Rattle.std.specs.Int.{w64, to_be_bytes}
use Rattle.ext_ids.specs.Grammar.{Pair, id_text}
use Rattle.ext_selection.specs.Hashing.{text_number}
use Rattle.ext_selection.specs.Nodes.{node_at, StandsIn, AreBeside}
use Rattle.ext_selection.specs.declared.nodes.Node.{Node}

-- The number that a seed draws for the node of this id: of two nodes beside one another the one with the lower number
-- comes first.
abbrev pub drawn : ℕ → List Pair → ℕ
drawn seed id = text_number (to_be_bytes w64 seed ++ id_text id)

abbrev pub drawn_at : ℕ → List (List Pair) → ℕ → ℕ
drawn_at seed ids k = drawn seed (slice_index_or ids k [])

-- In the order the second node comes behind the first, wherever each stands.
abbrev pub ComesFirst : List ℕ → ℕ → ℕ → Type 0
ComesFirst order first second = (a b : ℕ) → slice_get order a ≡ Some first → slice_get order b ≡ Some second → a < b

-- Each node comes behind the one that it stands in. Of two beside one another that run in turn the one that comes first
-- in the table does so here, and of two that do not the one with the lower number.
pub record IsOrder (nodes : List Node) (numbers : ℕ → ℕ) (order : List ℕ) : Type 0 where
  pub behind : (inner outer : ℕ) → StandsIn nodes inner outer → ComesFirst order outer inner
  pub in_turn : (one other : ℕ) → AreBeside nodes one other → (node_at nodes one).is_in_turn ≡ true
      → (node_at nodes other).is_in_turn ≡ true → one < other → ComesFirst order one other
  pub by_number : (one other : ℕ) → AreBeside nodes one other → (node_at nodes one).is_in_turn ≡ false
      → (node_at nodes other).is_in_turn ≡ false → numbers one < numbers other → ComesFirst order one other
