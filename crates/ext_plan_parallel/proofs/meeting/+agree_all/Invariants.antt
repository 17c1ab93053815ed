use Rattle.std.proofs.Common.{length}
use Rattle.ext_plan_parallel.proofs.meeting.+agree_all.Given as goal

abbrev pub decreases-agree_all : goal.decreases-agree_all
decreases-agree_all g l = length l.lanes.now
