use Rattle.std.proofs.Common.{◌≡◌, ℕ, drop}
use Rattle.std.specs.Prelude.{◌==◌, ◌&&◌, ◌||◌}
use Rattle.ext_lint.specs.InnerLists.{has_pair}
use Rattle.ext_lint.specs.Live.{is_among}
use Rattle.ext_lint.proofs.heights.add_nodes.Given as goal

abbrev pub invariant-loop-node : goal.invariant-loop-node
invariant-loop-node l = (node of : ℕ) → (is_among l.nodes node && (l.depth == of) || has_pair l.fn.set node of) ≡ (is_among (drop l.node-index l.nodes) node && (l.depth == of) || has_pair l.set node of)
