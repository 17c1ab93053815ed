use Rattle.ext_plan_parallel.proofs.Framed.{no_call_framed}
use Rattle.ext_plan_parallel.proofs.steps.store_steps.StoreSteps.run_step.Goals as goal

pub returns-in-Fail-clause-frame : goal.returns-in-Fail-clause-frame
returns-in-Fail-clause-frame g c = no_call_framed c.args.store.now c.args.lane.now c.requires.lane

pub returns-in-Abort-clause-frame : goal.returns-in-Abort-clause-frame
returns-in-Abort-clause-frame g c = no_call_framed c.args.store.now c.args.lane.now c.requires.lane
