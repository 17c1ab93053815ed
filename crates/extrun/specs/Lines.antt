-- The line that shows how far a run is: how many of its nodes have ended, and which nodes are running, each with the
-- number of its lane. Texts are lists of bytes, numbers are decimal.
--
--     3 of 7 nodes, running: [engine:x]/[class:A] on lane 1; [engine:x]/[class:B] on lane 0
--
-- At most four nodes are named; the others are counted, as ` and 2 more`. If none is running, the line ends after
-- `nodes`.
use Rattle.std.specs.Prelude.{ℕ, ◌-◌, ◌==◌, codes, List, [], ◌∷◌, ◌++◌, length, map, take, if◌then◌else◌}
use Rattle.std.specs.List.{flat_map}
use Rattle.std.specs.Fmt.{decimal}
pub use Rattle.ext_report.specs.TerminalLines.{shown_text}
use Rattle.extrun.specs.declared.running.RunningNode.{RunningNode}

-- A node that is running, by its id.
pub record NodeOnLane : Type 0 where
  pub id : List ℕ
  pub lane : ℕ

abbrev pub node_view : RunningNode → NodeOnLane
node_view node = record { id = node.id.now; lane = node.lane }

abbrev pub nodes_view : List RunningNode → List NodeOnLane
nodes_view nodes = map node_view nodes

abbrev pub node_text : NodeOnLane → List ℕ
node_text node = node.id ++ codes " on lane " ++ decimal node.lane

-- A node that comes after another.
abbrev pub next_node_text : NodeOnLane → List ℕ
next_node_text node = codes "; " ++ node_text node

-- The nodes that are named.
abbrev pub named_part : List NodeOnLane → List ℕ
named_part [] = []
named_part (node ∷ others) = codes ", running: " ++ node_text node ++ flat_map next_node_text others

-- How many others there are.
abbrev pub others_part : ℕ → List ℕ
others_part others = if others == 0 then [] else codes " and " ++ decimal others ++ codes " more"

-- The line, without a line feed.
abbrev pub progress_line : ℕ → ℕ → List NodeOnLane → List ℕ
progress_line ended nodes running =
    decimal ended ++ codes " of " ++ decimal nodes ++ codes " nodes"
    ++ named_part (take 4 running) ++ others_part (length running - 4)
