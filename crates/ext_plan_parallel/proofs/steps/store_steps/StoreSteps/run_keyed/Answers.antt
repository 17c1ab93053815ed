use Rattle.ext_plan_parallel.proofs.Framed.{no_call_framed}
use Rattle.ext_plan_parallel.proofs.steps.store_steps.StoreSteps.run_keyed.Goals as goal

pub returns-in-Err-clause-frame : goal.returns-in-Err-clause-frame
returns-in-Err-clause-frame g c = no_call_framed c.args.store.now c.args.lane.now c.requires.lane
