use Rattle.std.proofs.Common.{◌≡◌, ℕ, drop}
use Rattle.std.specs.Prelude.{◌||◌}
use Rattle.ext_lint.specs.InnerLists.{has_node}
use Rattle.ext_lint.specs.Live.{is_among}
use Rattle.ext_lint.proofs.live.add_nodes.Given as goal

abbrev pub invariant-loop-node : goal.invariant-loop-node
invariant-loop-node l = (node : ℕ) → (is_among l.nodes node || has_node l.fn.set node) ≡ (is_among (drop l.node-index l.nodes) node || has_node l.set node)
