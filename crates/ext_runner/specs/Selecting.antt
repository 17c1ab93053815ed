-- The table of the tests that are selected, in their order (JUnit 5 User Guide, "Running Tests" and "Test Execution
-- Order"). `Selection` of ext_selection says which these are, and `Shuffling` what the order is that a seed gives.
use Rattle.std.specs.Prelude.{◌≡◌, ℕ, is_some, not, List, map, Option, Some, None, IsPermutation}
use Rattle.ext_lifecycle.specs.Modes.{is_concurrent}
use Rattle.ext_tree.specs.Trees.{Id}
use Rattle.ext_selection.specs.Selection.{AreChosen, wanted_of}
use Rattle.ext_selection.specs.Shuffling.{IsOrder, drawn_at}
use Rattle.ext_selection.specs.declared.nodes.Node.{Node}
use Rattle.ext_selection.specs.declared.selection.Selection.{Selection}
use Rattle.ext_table.specs.Arranging.{IsArranged}
use Rattle.ext_table.specs.declared.row.Row.{Row}

-- What a selection looks at of a row.
abbrev pub node_of : {T : Type 0} → Row T → Node
node_of row = record { is_test = is_some row.test; is_in_turn = not (is_concurrent row.mode); above = row.above }

-- These are the chosen indices, in their own order or in that of a seed.
abbrev pub AreOrdered : Option ℕ → List Id → List Node → List ℕ → List ℕ → Type 0
AreOrdered None ids nodes chosen indices = indices ≡ chosen
AreOrdered (Some seed) ids nodes chosen indices = IsPermutation chosen indices × IsOrder nodes (drawn_at seed ids) indices

-- The indices of the selected nodes, in their order.
pub record IsInOrder (selection : Selection) (seed : Option ℕ) (ids : List Id) (nodes : List Node) (indices : List ℕ)
    : Type 0 where
  pub chosen : List ℕ
  pub are_chosen : AreChosen nodes (wanted_of selection ids) chosen
  pub order : AreOrdered seed ids nodes chosen indices

-- The table has the rows at these indices, and no others.
pub record IsSelected {T : Type 0} (selection : Selection) (seed : Option ℕ) (ids : List Id) (rows : List (Row T))
    (new_ids : List Id) (new_rows : List (Row T)) : Type 0 where
  pub indices : List ℕ
  pub in_order : IsInOrder selection seed ids (map node_of rows) indices
  pub arranged : IsArranged ids rows indices new_ids new_rows
