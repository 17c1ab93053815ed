use Rattle.ext_run.proofs.linting.notes_of.Goals as goal

pub returns-in-Err-clause-refused : goal.returns-in-Err-clause-refused
returns-in-Err-clause-refused c = c.in-Err.ensures.refused

pub returns-clause-notes : goal.returns-clause-notes
returns-clause-notes c = rw c.in-Ok.ensures.read c.in_ok-notes_in.ensures
