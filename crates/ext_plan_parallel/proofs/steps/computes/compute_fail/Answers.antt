use Rattle.ext_plan_parallel.proofs.Framed.{no_call_framed}
use Rattle.ext_tree.proofs.KeyPlacing.{places_nothing}
use Rattle.ext_plan.specs.StepCalls.{call_view}
use Rattle.ext_plan_parallel.proofs.steps.computes.compute_fail.Goals as goal

pub returns-in-Err-clause-frame : goal.returns-in-Err-clause-frame
returns-in-Err-clause-frame g c = no_call_framed c.args.store.now c.args.lane.now c.requires.lane

pub returns-in-Err-clause-placed : goal.returns-in-Err-clause-placed
returns-in-Err-clause-placed g c = places_nothing (call_view c.args.call.now).key c.args.lane.now.keys

pub returns-in-Ok-clause-placed : goal.returns-in-Ok-clause-placed
returns-in-Ok-clause-placed g c = c.compute_fault.ensures.placed
