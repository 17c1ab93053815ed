use Rattle.std.proofs.Common.{length}
use Rattle.ext_engine.proofs.meeting.+show_rest.Given as goal

abbrev pub decreases-show_rest : goal.decreases-show_rest
decreases-show_rest g l = length l.others.now
