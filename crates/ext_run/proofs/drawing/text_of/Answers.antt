use Rattle.ext_run.proofs.drawing.text_of.Goals as goal

pub returns-in_ok-drawing_of-in-Ok : goal.returns-in_ok-drawing_of-in-Ok
returns-in_ok-drawing_of-in-Ok c = rw c.in-Ok.ensures.read c.in_ok-drawing_of-in-Ok.ensures

pub returns-in-Err : goal.returns-in-Err
returns-in-Err c = c.in-Err.ensures.refused
