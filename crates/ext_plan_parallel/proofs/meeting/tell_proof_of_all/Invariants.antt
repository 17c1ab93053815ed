use Rattle.std.proofs.Common.{take}
use Rattle.std.specs.Prelude.{All}
use Rattle.ext_plan_parallel.specs.InnerMeeting.{HasRecalled}
use Rattle.ext_plan_parallel.proofs.meeting.tell_proof_of_all.Given as goal

abbrev pub invariant-loop-lane : goal.invariant-loop-lane
invariant-loop-lane g l = All HasRecalled (take l.lane-index l.lanes)
