-- What the functions of the crate say to one another about a selection.
use Rattle.std.specs.Prelude.{ℕ, ◌&&◌, ◌↔◌, not, nat_lt, Bool, true, IsTrue, List, Option, Some, None, String, slice_set, if◌then◌else◌}
use Rattle.std.specs.HashSet.{HashSet, contains_text}
use Rattle.ext_selection.specs.Nodes.{node_at, StandsIn}
use Rattle.ext_selection.specs.Selection.{flag_at}
use Rattle.ext_selection.specs.declared.nodes.Node.{Node}

-- The id is in the set, where there is one.
abbrev pub is_in_set : {Y S : Type 0} → Option (HashSet (String Y) S) → List ℕ → Bool
is_in_set None id = true
is_in_set (Some set) id = contains_text set id

-- A node is marked exactly if another stands in it.
pub record AreHolders (nodes : List Node) (flags : List Bool) : Type 0 where
  pub each : (k : ℕ) → IsTrue (flag_at flags k) ↔ ((j : ℕ) × StandsIn nodes j k)

-- Whether a node is kept, once all behind it are settled: a test by its own wish, and another by its mark.
abbrev pub kept_by : List Node → List Bool → List Bool → List Bool → ℕ → Bool
kept_by nodes wanted holders kept index =
    if (node_at nodes index).is_test && not (flag_at holders index) then flag_at wanted index else flag_at kept index

-- The marks once a node is settled, and the one above it if this one is kept.
abbrev pub marked : List Bool → ℕ → ℕ → Bool → List Bool
marked kept index above is_kept =
    if is_kept && nat_lt above index then slice_set (slice_set kept index is_kept) above true
    else slice_set kept index is_kept
