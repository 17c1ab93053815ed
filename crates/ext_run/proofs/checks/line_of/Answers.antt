use Rattle.ext_run.proofs.checks.line_of.Goals as goal

pub returns-in_ok-counts_line-in-Ok : goal.returns-in_ok-counts_line-in-Ok
returns-in_ok-counts_line-in-Ok c = rw c.in-Ok.ensures.read c.in_ok-counts_line-in-Ok.ensures

pub returns-in-Err : goal.returns-in-Err
returns-in-Err c = c.in-Err.ensures.refused
