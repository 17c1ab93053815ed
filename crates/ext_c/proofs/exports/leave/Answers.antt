use Rattle.std.proofs.Common.{refl}
use Rattle.ext_c.specs.Opening.{LeaveSays}
use Rattle.ext_c.proofs.exports.leave.Goals as goal

pub returns : goal.returns
returns c = LeaveSays.left c.in-Some.seat.value c.in-Some.ensures.taken c.in-Some.ensures.emptied c.in-Some.ensures.empty refl
