use Rattle.ext_plan_parallel.proofs.steps.looks.show.Goals as goal

pub returns-in-Some-clause-frame : goal.returns-in-Some-clause-frame
returns-in-Some-clause-frame c = c.in-Some.ensures.frame

pub returns-in-None-clause-frame : goal.returns-in-None-clause-frame
returns-in-None-clause-frame c = c.in-None.ensures.frame
