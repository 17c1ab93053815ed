use Rattle.ext_tree.specs.Trees.{FollowBelow}
use Rattle.ext_tree.proofs.building.check.Given as goal

abbrev pub invariant-loop-i : goal.invariant-loop-i
invariant-loop-i l = FollowBelow l.ids l.i
