use Rattle.std.proofs.Common.{◌≡◌, ◌++◌, drop}
use Rattle.ext_plan.specs.Plans.{nodes_view}
use Rattle.ext_lifecycle.specs.FaultTexts.{results_view}
use Rattle.ext_plan_plain.specs.PlainRun.{skipped_from}
use Rattle.ext_plan_plain.proofs.skipped.skipped.Given as goal

abbrev pub invariant-loop-at : goal.invariant-loop-at
invariant-loop-at l = results_view l.results.items ++ skipped_from l.at (nodes_view (drop l.at l.nodes)) ≡ skipped_from 0 (nodes_view l.nodes)
