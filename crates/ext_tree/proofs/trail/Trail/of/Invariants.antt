use Rattle.std.proofs.Common.{◌≡◌, take}
use Rattle.ext_tree.proofs.trail.Trail.of.Given as goal

abbrev pub invariant-loop-i : goal.invariant-loop-i
invariant-loop-i l = l.segments.items ≡ take l.i l.id
