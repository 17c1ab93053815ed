use Rattle.std.proofs.Common.{◌≡◌, ◌++◌, ◌<◌, filter, map}
use Rattle.std.specs.Prelude.{All}
use Rattle.ext_runner.specs.InnerTelling.{is_reported, without_faults}
use Rattle.ext_runner.proofs.results.results_with_faults.Given as goal

abbrev pub invariant-loop-ran : goal.invariant-loop-ran
invariant-loop-ran l = record {
  can : goal.iterator-loop-ran.can_next l.ran-iterator;
  finite : goal.iterator-loop-ran.is_finite l.ran-iterator;
  within : All (λ r. r.node < l.count) l.reported.items;
  same : map without_faults l.reported.items ++ map without_faults (filter (is_reported l.count l.logs) l.ran-iterator.rest.items) ≡ map without_faults (filter (is_reported l.count l.logs) l.fn.results.items);
}
