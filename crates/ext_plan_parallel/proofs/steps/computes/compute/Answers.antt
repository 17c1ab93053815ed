use Rattle.std.proofs.Common.{refl}
use Rattle.ext_store.specs.declared.computed.Compute.TheVariants as computes
use Rattle.ext_plan.specs.StepCalls.{call_view}
use Rattle.ext_plan_parallel.proofs.Ends.{ends_well}
use Rattle.ext_plan_parallel.proofs.Framed.{then_framed}
use Rattle.ext_plan_parallel.proofs.Keyed.{step_computes}
use Rattle.ext_plan_parallel.proofs.Placed.{compute_placed}
use Rattle.ext_store.proofs.Numbered.{placed_still}
use Rattle.ext_plan_parallel.proofs.steps.computes.compute.Goals as goal

pub end_refused-requires-clause-placed : goal.end_refused-requires-clause-placed
end_refused-requires-clause-placed g c = compute_placed _ _ _ _ _ _ c.in-Refused.ensures.answer

pub returns-in-Computed-clause-computes : goal.returns-in-Computed-clause-computes
returns-in-Computed-clause-computes g c =
    step_computes c.args.store.now (call_view c.args.call.now) c.at.result c.at.ensures c.args.lane.now c.counted.result c.compute_made.new.lane c.compute_made.new.lane _ refl refl c.in-Computed.ensures.answer c.args.value
    c.in-Computed.ensures.factory (refl, ends_well 1 0 _ c.counted.ensures.verdict c.counted.ensures.computed c.counted.ensures.found)

pub returns-in-Computed-clause-frame : goal.returns-in-Computed-clause-frame
returns-in-Computed-clause-frame g c = c.in-Computed.ensures.frame

pub returns-in-Found-clause-computes : goal.returns-in-Found-clause-computes
returns-in-Found-clause-computes g c =
    step_computes c.args.store.now (call_view c.args.call.now) c.at.result c.at.ensures c.args.lane.now c.counted-in-Found.result c.compute_made.new.lane c.compute_made.new.lane _ refl refl c.in-Found.ensures.answer c.args.value
    c.in-Found.ensures.factory (refl, ends_well 0 1 _ c.counted-in-Found.ensures.verdict c.counted-in-Found.ensures.computed c.counted-in-Found.ensures.found)

pub returns-in-Found-clause-frame : goal.returns-in-Found-clause-frame
returns-in-Found-clause-frame g c = c.in-Found.ensures.frame

pub returns-in-Unkept-clause-computes : goal.returns-in-Unkept-clause-computes
returns-in-Unkept-clause-computes g c =
    step_computes c.args.store.now (call_view c.args.call.now) c.at.result c.at.ensures c.args.lane.now c.end_unkept.result c.compute_made.new.lane c.compute_made.new.lane _ refl refl c.in-Unkept.ensures.answer c.args.value
    c.in-Unkept.ensures.factory (refl, c.end_unkept.ensures)

pub returns-in-Unkept-clause-frame : goal.returns-in-Unkept-clause-frame
returns-in-Unkept-clause-frame g c = c.in-Unkept.ensures.frame

pub returns-in-Refused-clause-computes : goal.returns-in-Refused-clause-computes
returns-in-Refused-clause-computes g c =
    step_computes c.args.store.now (call_view c.args.call.now) c.at.result c.at.ensures c.args.lane.now c.end_refused.result c.compute_made.new.lane c.compute_made.new.lane _ refl refl c.in-Refused.ensures.answer c.args.value
    c.in-Refused.ensures.factory (refl, c.end_refused.ensures)

pub returns-in-Refused-clause-frame : goal.returns-in-Refused-clause-frame
returns-in-Refused-clause-frame g c = c.in-Refused.ensures.frame

pub returns-in-FaultStands-clause-computes : goal.returns-in-FaultStands-clause-computes
returns-in-FaultStands-clause-computes g c =
    step_computes c.args.store.now (call_view c.args.call.now) c.at.result c.at.ensures c.args.lane.now c.end_met.result c.end_met.new.lane c.compute_made.new.lane (computes.FaultStands c.in-FaultStands.at c.in-FaultStands.number tt)
    c.end_met.ensures.steps c.end_met.ensures.keys c.in-FaultStands.ensures.answer c.args.value c.in-FaultStands.ensures.factory (c.end_met.ensures.known, c.end_met.ensures.ends.0, c.end_met.ensures.ends.1, c.end_met.ensures.ends.2)

pub returns-in-FaultStands-clause-frame : goal.returns-in-FaultStands-clause-frame
returns-in-FaultStands-clause-frame g c = then_framed c.args.store.now c.args.lane.now c.compute_made.new.lane c.end_met.new.lane c.in-FaultStands.ensures.frame c.end_met.ensures.frame

pub returns-in-Computed-clause-placed : goal.returns-in-Computed-clause-placed
returns-in-Computed-clause-placed g c = c.in-Computed.ensures.placed

pub returns-in-Found-clause-placed : goal.returns-in-Found-clause-placed
returns-in-Found-clause-placed g c = c.in-Found.ensures.placed

pub returns-in-Unkept-clause-placed : goal.returns-in-Unkept-clause-placed
returns-in-Unkept-clause-placed g c = c.in-Unkept.ensures.placed

pub returns-in-Refused-clause-placed : goal.returns-in-Refused-clause-placed
returns-in-Refused-clause-placed g c = c.in-Refused.ensures.placed

pub returns-in-FaultStands-clause-placed : goal.returns-in-FaultStands-clause-placed
returns-in-FaultStands-clause-placed g c = placed_still (call_view c.args.call.now).key c.args.lane.now.keys c.compute_made.new.lane.keys c.end_met.new.lane.keys c.in-FaultStands.ensures.placed c.end_met.ensures.keys
