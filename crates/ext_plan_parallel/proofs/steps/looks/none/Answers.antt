use Rattle.ext_plan.specs.StepCalls.{call_view}
use Rattle.ext_plan.specs.Verdicts.{none_verdict}
use Rattle.ext_plan_parallel.proofs.Ends.{ends_with}
use Rattle.ext_plan_parallel.proofs.Keyed.{step_looks, step_refused}
use Rattle.ext_plan_parallel.proofs.Placed.{key_placed}
use Rattle.ext_plan_parallel.proofs.steps.looks.none.Goals as goal

pub returns-in-Ok-clause-looks : goal.returns-in-Ok-clause-looks
returns-in-Ok-clause-looks g c =
    step_looks c.args.store.now (call_view c.args.call.now) c.at.result c.at.ensures c.args.lane.now c.of.result c.see.new.lane (none_verdict c.args.call.now.name.now c.args.call.now.label.now) _ c.in-Ok.ensures.sees
    (ends_with _ _ _ 0 0 _ c.none_verdict.ensures.verdict c.none_verdict.ensures.memory c.or_no_memory.ensures.verdict c.or_no_memory.ensures.memory c.of.ensures.verdict c.of.ensures.computed c.of.ensures.found)

pub end_refused-requires-clause-placed : goal.end_refused-requires-clause-placed
end_refused-requires-clause-placed g c = key_placed _ _ _ _ c.in-Err.ensures.refused.0

pub returns-in-Err-clause-looks : goal.returns-in-Err-clause-looks
returns-in-Err-clause-looks g c =
    step_refused c.args.store.now (call_view c.args.call.now) c.at.result c.at.ensures c.args.lane.now c.end_refused.result c.see.new.lane (none_verdict c.args.call.now.name.now c.args.call.now.label.now) _ c.in-Err.ensures.refused c.end_refused.ensures

pub returns-in-Ok-clause-placed : goal.returns-in-Ok-clause-placed
returns-in-Ok-clause-placed g c = c.see.ensures.placed

pub returns-in-Err-clause-placed : goal.returns-in-Err-clause-placed
returns-in-Err-clause-placed g c = c.see.ensures.placed
