use Rattle.std.proofs.Common.{length}
use Rattle.ext_engine.proofs.meeting.+see_rest.Given as goal

abbrev pub decreases-see_rest : goal.decreases-see_rest
decreases-see_rest g l = length l.others.now
