use Rattle.ext_run.proofs.checks.races_of.Goals as goal

pub returns-in-Err-clause-refused : goal.returns-in-Err-clause-refused
returns-in-Err-clause-refused c = c.in-Err.ensures.refused

pub returns-clause-races : goal.returns-clause-races
returns-clause-races c = rw c.in-Ok.ensures.read c.in_ok-races_in.ensures
