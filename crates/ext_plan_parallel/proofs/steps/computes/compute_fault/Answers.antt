use Rattle.std.proofs.Common.{refl}
use Rattle.ext_store.specs.declared.computed.Compute.TheVariants as computes
use Rattle.ext_plan.specs.StepCalls.{call_view}
use Rattle.ext_plan_parallel.proofs.Ends.{ends_well, ends_with}
use Rattle.ext_plan_parallel.proofs.Framed.{then_framed}
use Rattle.ext_plan_parallel.proofs.Keyed.{step_fails}
use Rattle.ext_plan_parallel.proofs.Placed.{compute_placed}
use Rattle.ext_store.proofs.Numbered.{placed_still}
use Rattle.ext_plan_parallel.proofs.steps.computes.compute_fault.Goals as goal

pub end_refused-requires-clause-placed : goal.end_refused-requires-clause-placed
end_refused-requires-clause-placed g c = compute_placed _ _ _ _ _ _ c.in-Refused.ensures.answer

pub returns-in-Failed-clause-fails : goal.returns-in-Failed-clause-fails
returns-in-Failed-clause-fails g c =
    step_fails c.args.store.now (call_view c.args.call.now) c.at.result c.at.ensures c.args.lane.now c.of.result c.compute_made.new.lane c.compute_made.new.lane _ refl refl c.in-Failed.ensures.answer c.args.copy
    c.args.text.now c.requires.text c.in-Failed.ensures.factory (refl, ends_well 0 0 _ c.of.ensures.verdict c.of.ensures.computed c.of.ensures.found)

pub returns-in-FaultKept-clause-fails : goal.returns-in-FaultKept-clause-fails
returns-in-FaultKept-clause-fails g c =
    step_fails c.args.store.now (call_view c.args.call.now) c.at.result c.at.ensures c.args.lane.now c.of-in-FaultKept.result c.compute_made.new.lane c.compute_made.new.lane _ refl refl c.in-FaultKept.ensures.answer c.args.copy
    c.args.text.now c.requires.text c.in-FaultKept.ensures.factory (refl, ends_well 0 0 _ c.of-in-FaultKept.ensures.verdict c.of-in-FaultKept.ensures.computed c.of-in-FaultKept.ensures.found)

pub returns-in-FaultUnkept-clause-fails : goal.returns-in-FaultUnkept-clause-fails
returns-in-FaultUnkept-clause-fails g c =
    step_fails c.args.store.now (call_view c.args.call.now) c.at.result c.at.ensures c.args.lane.now c.end_unkept.result c.compute_made.new.lane c.compute_made.new.lane _ refl refl c.in-FaultUnkept.ensures.answer c.args.copy
    c.args.text.now c.requires.text c.in-FaultUnkept.ensures.factory (refl, c.end_unkept.ensures)

pub returns-in-Refused-clause-fails : goal.returns-in-Refused-clause-fails
returns-in-Refused-clause-fails g c =
    step_fails c.args.store.now (call_view c.args.call.now) c.at.result c.at.ensures c.args.lane.now c.end_refused.result c.compute_made.new.lane c.compute_made.new.lane _ refl refl c.in-Refused.ensures.answer c.args.copy
    c.args.text.now c.requires.text c.in-Refused.ensures.factory (refl, c.end_refused.ensures)

pub returns-in-Found-clause-fails : goal.returns-in-Found-clause-fails
returns-in-Found-clause-fails g c =
    step_fails c.args.store.now (call_view c.args.call.now) c.at.result c.at.ensures c.args.lane.now c.counted.result c.show-seen.new.lane c.compute_made.new.lane (computes.Found c.in-Found.at c.in-Found.number tt)
    c.show-seen.ensures.steps c.show-seen.ensures.keys c.in-Found.ensures.answer c.args.copy c.args.text.now c.requires.text c.in-Found.ensures.factory (
      c.show-seen.ensures.faults,
      _,
      c.show-seen.ensures.shows,
      ends_with _ _ _ 0 1 _ c.none_verdict.ensures.verdict c.none_verdict.ensures.memory c.or_no_memory.ensures.verdict c.or_no_memory.ensures.memory c.counted.ensures.verdict c.counted.ensures.computed c.counted.ensures.found,
    )

pub returns-in-FaultStands-clause-fails : goal.returns-in-FaultStands-clause-fails
returns-in-FaultStands-clause-fails g c =
    step_fails c.args.store.now (call_view c.args.call.now) c.at.result c.at.ensures c.args.lane.now c.end_met_failing.result c.end_met_failing.new.lane c.compute_made.new.lane
    (computes.FaultStands c.in-FaultStands.at c.in-FaultStands.number tt) c.end_met_failing.ensures.steps c.end_met_failing.ensures.keys c.in-FaultStands.ensures.answer c.args.copy c.args.text.now c.requires.text
    c.in-FaultStands.ensures.factory (c.end_met_failing.ensures.known, c.end_met_failing.ensures.ends.0, c.end_met_failing.ensures.ends.1, c.end_met_failing.ensures.ends.2)

pub returns-in-Found-clause-frame : goal.returns-in-Found-clause-frame
returns-in-Found-clause-frame g c = then_framed c.args.store.now c.args.lane.now c.compute_made.new.lane c.show-seen.new.lane c.in-Found.ensures.frame c.show-seen.ensures.frame

pub returns-in-FaultStands-clause-frame : goal.returns-in-FaultStands-clause-frame
returns-in-FaultStands-clause-frame g c = then_framed c.args.store.now c.args.lane.now c.compute_made.new.lane c.end_met_failing.new.lane c.in-FaultStands.ensures.frame c.end_met_failing.ensures.frame

pub returns-in-Failed-clause-placed : goal.returns-in-Failed-clause-placed
returns-in-Failed-clause-placed g c = c.in-Failed.ensures.placed

pub returns-in-FaultKept-clause-placed : goal.returns-in-FaultKept-clause-placed
returns-in-FaultKept-clause-placed g c = c.in-FaultKept.ensures.placed

pub returns-in-FaultUnkept-clause-placed : goal.returns-in-FaultUnkept-clause-placed
returns-in-FaultUnkept-clause-placed g c = c.in-FaultUnkept.ensures.placed

pub returns-in-Refused-clause-placed : goal.returns-in-Refused-clause-placed
returns-in-Refused-clause-placed g c = c.in-Refused.ensures.placed

pub returns-in-Found-clause-placed : goal.returns-in-Found-clause-placed
returns-in-Found-clause-placed g c = placed_still (call_view c.args.call.now).key c.args.lane.now.keys c.compute_made.new.lane.keys c.show-seen.new.lane.keys c.in-Found.ensures.placed c.show-seen.ensures.keys

pub returns-in-FaultStands-clause-placed : goal.returns-in-FaultStands-clause-placed
returns-in-FaultStands-clause-placed g c = placed_still (call_view c.args.call.now).key c.args.lane.now.keys c.compute_made.new.lane.keys c.end_met_failing.new.lane.keys c.in-FaultStands.ensures.placed c.end_met_failing.ensures.keys
