use Rattle.std.proofs.Common.{◌≡◌, drop}
use Rattle.ext_ids.specs.Making.{first_fault, pairs_of, parts_fault}
use Rattle.ext_ids.proofs.making.parts_fault.Given as goal

abbrev pub invariant-loop-at : goal.invariant-loop-at
invariant-loop-at l = parts_fault (pairs_of l.parts) ≡ first_fault l.at (pairs_of (drop l.at l.parts))
