use Rattle.ext_plan.specs.StepCalls.{call_view}
use Rattle.ext_plan_parallel.proofs.Ends.{ends_well}
use Rattle.ext_plan_parallel.proofs.Keyed.{step_removes}
use Rattle.ext_plan_parallel.proofs.Placed.{remove_placed}
use Rattle.ext_plan_parallel.proofs.steps.changes.remove_value.Goals as goal

pub end_refused-requires-clause-placed : goal.end_refused-requires-clause-placed
end_refused-requires-clause-placed g c = remove_placed c.args.store.now _ _ _ _ _ c.in-Err.ensures.answer

pub returns-in-Ok-clause-removes : goal.returns-in-Ok-clause-removes
returns-in-Ok-clause-removes g c =
    step_removes c.args.store.now (call_view c.args.call.now) c.at-context.result c.at-context.ensures c.args.lane.now c.of.result c.remove_wait.new.lane _ c.in-Ok.ensures.answer c.in-Ok.ensures.stays.known c.in-Ok.ensures.stays.faults
    (ends_well 0 0 _ c.of.ensures.verdict c.of.ensures.computed c.of.ensures.found)

pub returns-in-Err-clause-removes : goal.returns-in-Err-clause-removes
returns-in-Err-clause-removes g c =
    step_removes c.args.store.now (call_view c.args.call.now) c.at-context.result c.at-context.ensures c.args.lane.now c.end_refused.result c.remove_wait.new.lane _ c.in-Err.ensures.answer c.in-Err.ensures.stays.known c.in-Err.ensures.stays.faults
    c.end_refused.ensures

pub returns-in-Ok-clause-frame : goal.returns-in-Ok-clause-frame
returns-in-Ok-clause-frame g c = c.in-Ok.ensures.stays.frame

pub returns-in-Err-clause-frame : goal.returns-in-Err-clause-frame
returns-in-Err-clause-frame g c = c.in-Err.ensures.stays.frame

pub returns-in-Ok-clause-placed : goal.returns-in-Ok-clause-placed
returns-in-Ok-clause-placed g c = c.in-Ok.ensures.placed

pub returns-in-Err-clause-placed : goal.returns-in-Err-clause-placed
returns-in-Err-clause-placed g c = c.in-Err.ensures.placed
