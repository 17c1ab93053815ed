use Rattle.std.proofs.Common.{length}
use Rattle.ext_plan_parallel.proofs.meeting.+agree_rest.Given as goal

abbrev pub decreases-agree_rest : goal.decreases-agree_rest
decreases-agree_rest g l = length l.others.now
