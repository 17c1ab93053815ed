use Rattle.std.proofs.Common.{inl}
use Rattle.ext_plan.specs.StepCalls.{call_view}
use Rattle.ext_plan_parallel.proofs.Ends.{ends_well}
use Rattle.ext_plan_parallel.proofs.Framed.{put_framed, then_framed}
use Rattle.ext_plan_parallel.proofs.Keyed.{step_puts, placed_after, placed_same}
use Rattle.ext_plan_parallel.proofs.Placed.{put_placed}
use Rattle.ext_plan_parallel.proofs.steps.changes.put_value.Goals as goal

pub end_refused-requires-clause-placed : goal.end_refused-requires-clause-placed
end_refused-requires-clause-placed g c = put_placed c.args.store.now _ _ _ _ _ _ _ c.in-Err-put_wait.ensures.answer

pub returns-in-Ok-put_wait-clause-puts : goal.returns-in-Ok-put_wait-clause-puts
returns-in-Ok-put_wait-clause-puts g c =
    inl (
    step_puts c.args.store.now (call_view c.args.call.now) c.at-context.result c.at-context.ensures c.args.lane.now c.of.result c.put_wait.new.lane c.args.value c.in-Ok.kept c.keep_wait.new.lane _ c.in-Ok.ensures.answer
    c.in-Ok.ensures.faults c.in-Ok-put_wait.ensures.answer c.in-Ok-put_wait.ensures.stays.known c.in-Ok-put_wait.ensures.stays.faults (ends_well 0 0 _ c.of.ensures.verdict c.of.ensures.computed c.of.ensures.found))

pub returns-in-Err-put_wait-clause-puts : goal.returns-in-Err-put_wait-clause-puts
returns-in-Err-put_wait-clause-puts g c =
    inl (
    step_puts c.args.store.now (call_view c.args.call.now) c.at-context.result c.at-context.ensures c.args.lane.now c.end_refused.result c.put_wait.new.lane c.args.value c.in-Ok.kept c.keep_wait.new.lane _ c.in-Ok.ensures.answer
    c.in-Ok.ensures.faults c.in-Err-put_wait.ensures.answer c.in-Err-put_wait.ensures.stays.known c.in-Err-put_wait.ensures.stays.faults c.end_refused.ensures)

pub returns-in-Err-clause-frame : goal.returns-in-Err-clause-frame
returns-in-Err-clause-frame g c = c.in-Err.ensures.frame

pub returns-in-Ok-put_wait-clause-frame : goal.returns-in-Ok-put_wait-clause-frame
returns-in-Ok-put_wait-clause-frame g c = put_framed c.args.store.now c.in-Ok.kept c.args.lane.now c.keep_wait.new.lane c.put_wait.new.lane c.in-Ok.ensures.frame c.in-Ok.ensures.apart c.in-Ok-put_wait.ensures.stays.frame

pub returns-in-Err-put_wait-clause-frame : goal.returns-in-Err-put_wait-clause-frame
returns-in-Err-put_wait-clause-frame g c = then_framed c.args.store.now c.args.lane.now c.keep_wait.new.lane c.put_wait.new.lane c.in-Ok.ensures.frame c.in-Err-put_wait.ensures.stays.frame

pub returns-in-Err-clause-placed : goal.returns-in-Err-clause-placed
returns-in-Err-clause-placed g c = placed_same (call_view c.args.call.now).key c.args.lane.now c.keep_wait.new.lane c.in-Err.ensures.keys

pub returns-in-Ok-put_wait-clause-placed : goal.returns-in-Ok-put_wait-clause-placed
returns-in-Ok-put_wait-clause-placed g c = placed_after (call_view c.args.call.now).key c.args.lane.now c.keep_wait.new.lane c.put_wait.new.lane c.in-Ok.ensures.keys c.in-Ok-put_wait.ensures.placed

pub returns-in-Err-put_wait-clause-placed : goal.returns-in-Err-put_wait-clause-placed
returns-in-Err-put_wait-clause-placed g c = placed_after (call_view c.args.call.now).key c.args.lane.now c.keep_wait.new.lane c.put_wait.new.lane c.in-Ok.ensures.keys c.in-Err-put_wait.ensures.placed
