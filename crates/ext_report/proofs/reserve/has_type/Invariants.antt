use Rattle.std.proofs.Common.{◌≡◌, false, take}
use Rattle.ext_report.specs.Reserve.{has_type}
use Rattle.ext_report.proofs.reserve.has_type.Given as goal

abbrev pub invariant-loop-i : goal.invariant-loop-i
invariant-loop-i l = has_type l.kind (take l.i l.id) ≡ false
