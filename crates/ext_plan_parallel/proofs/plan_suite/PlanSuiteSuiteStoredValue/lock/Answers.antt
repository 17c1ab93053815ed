use Rattle.std.proofs.Common.{◌∙◌, ap, sym}
use Rattle.ext_plan.specs.PlanCalls.{locks_of}
use Rattle.ext_plan_parallel.proofs.Locks.{asked_at}
use Rattle.ext_plan_parallel.proofs.plan_suite.PlanSuiteSuiteStoredValue.lock.Goals as goal

pub returns : goal.returns
returns g c =
    let texts = c.locks_of.ensures ∙ ap (λ p. locks_of p c.args.node) c.self.view_is in
    let there = c.in_ok-lock.ensures.lookup in
    sym (asked_at (locks_of c.args.self.now c.args.node) c.locks_of.result.now c.args.i c.in_ok-lock.lock.now _ texts there.3.0 there.1 c.request.ensures)
