use Rattle.std.proofs.Common.{◌≡◌, ◌++◌, ◌-◌, take}
use Rattle.std.specs.List.{flat_map}
use Rattle.ext_report.specs.TreeLines.{depth_first_from}
use Rattle.ext_report.proofs.tree_lines.+push_from.Given as goal

abbrev pub decreases-push_from : goal.decreases-push_from
decreases-push_from l = l.levels

abbrev pub invariant-loop-child : goal.invariant-loop-child
invariant-loop-child l = l.order.items ≡ l.initial.order.items ++ flat_map (λ child. depth_first_from (l.levels - 1) l.tree child) (take l.child-index l.child-items)
