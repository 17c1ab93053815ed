use Rattle.std.proofs.Common.{map}
use Rattle.ext_lifecycle.specs.Results.{as_result}
use Rattle.ext_engine.specs.InnerResults.{ran_view}
use Rattle.ext_engine.specs.NodeRun.{with_results}
use Rattle.ext_engine.proofs.Putting.{IsPutting}
use Rattle.ext_engine.proofs.node.results.put_results.Given as goal

abbrev pub invariant-loop-result : goal.invariant-loop-result
invariant-loop-result l = record {
  can : goal.iterator-loop-result.can_next l.result-iterator;
  finite : goal.iterator-loop-result.is_finite l.result-iterator;
  putting : IsPutting (with_results (map as_result l.fn.results.items) (map ran_view l.fn.ran.items)) l.results.items l.result-iterator.rest.items;
}
