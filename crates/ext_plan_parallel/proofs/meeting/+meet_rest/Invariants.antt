use Rattle.std.proofs.Common.{length}
use Rattle.ext_plan_parallel.proofs.meeting.+meet_rest.Given as goal

abbrev pub decreases-meet_rest : goal.decreases-meet_rest
decreases-meet_rest g l = length l.others.now
