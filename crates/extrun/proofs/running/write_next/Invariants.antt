use Rattle.std.proofs.Common.{◌≡◌, ◌++◌, take, string_bytes}
use Rattle.std.specs.List.{flat_map}
use Rattle.extrun.specs.Lines.{next_node_text, nodes_view}
use Rattle.extrun.proofs.running.write_next.Given as goal

abbrev pub invariant-loop-node : goal.invariant-loop-node
invariant-loop-node l = string_bytes l.line ≡ string_bytes l.initial.line ++ flat_map next_node_text (nodes_view (take l.node-index l.nodes))
