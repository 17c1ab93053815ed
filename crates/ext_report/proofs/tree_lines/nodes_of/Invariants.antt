use Rattle.std.proofs.Common.{◌≡◌, map, take}
use Rattle.ext_report.proofs.tree_lines.nodes_of.Given as goal

abbrev pub invariant-loop-r : goal.invariant-loop-r
invariant-loop-r l = l.nodes.items ≡ map (λ r. r.node) (take l.r-index l.results)
