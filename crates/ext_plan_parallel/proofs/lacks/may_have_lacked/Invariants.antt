use Rattle.std.proofs.Common.{◌≡◌, drop}
use Rattle.ext_lifecycle.specs.FaultTexts.{results_view}
use Rattle.ext_plan_parallel.specs.Lacking.{may_have_lacked}
use Rattle.ext_plan_parallel.proofs.lacks.may_have_lacked.Given as goal

abbrev pub invariant-loop-node : goal.invariant-loop-node
invariant-loop-node l = may_have_lacked (results_view l.results) ≡ may_have_lacked (results_view (drop l.node-index l.results))
