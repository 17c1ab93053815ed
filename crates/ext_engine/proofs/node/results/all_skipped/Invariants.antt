use Rattle.std.proofs.Common.{◌≡◌, map}
use Rattle.ext_lifecycle.specs.Results.{as_result}
use Rattle.ext_engine.specs.NodeRun.{all_skipped}
use Rattle.ext_engine.proofs.node.results.all_skipped.Given as goal

abbrev pub invariant-loop-node : goal.invariant-loop-node
invariant-loop-node g l = map as_result l.results.items ≡ all_skipped (g.S.Suite.suite_view l.suite) l.node
