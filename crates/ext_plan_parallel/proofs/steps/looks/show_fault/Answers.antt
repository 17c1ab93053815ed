use Rattle.ext_plan_parallel.proofs.steps.looks.show_fault.Goals as goal

pub returns-in-Some-Text-clause-frame : goal.returns-in-Some-Text-clause-frame
returns-in-Some-Text-clause-frame c = c.in-Some-Text.ensures.frame

pub returns-in-Some-Memory-clause-frame : goal.returns-in-Some-Memory-clause-frame
returns-in-Some-Memory-clause-frame c = c.in-Some-Memory.ensures.frame

pub returns-in-None-clause-frame : goal.returns-in-None-clause-frame
returns-in-None-clause-frame c = c.in-None.ensures.frame
