use Rattle.std.proofs.Common.{◌≡◌, map, take}
use Rattle.ext_lifecycle.specs.FaultTexts.{results_view}
use Rattle.ext_runner.specs.InnerTelling.{with_indented_fault}
use Rattle.ext_runner.proofs.results.indented.Given as goal

abbrev pub invariant-loop-ran : goal.invariant-loop-ran
invariant-loop-ran l = record {
  views : results_view l.reported.items ≡ map with_indented_fault (results_view (take l.ran-index l.results));
  nodes : map (λ r. r.node) l.reported.items ≡ map (λ r. r.node) (take l.ran-index l.results);
}
