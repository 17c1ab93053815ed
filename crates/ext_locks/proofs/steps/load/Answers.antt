use Rattle.std.proofs.Common.{arith}
use Rattle.ext_locks.proofs.Moves.{loads}
use Rattle.ext_locks.proofs.steps.load.Goals as goal

pub load-requires : goal.load-requires
load-requires c = (c.requires.table.0, omega arith, loads _ _ _ _ _ _ c.requires.lane _ c.requires.lock)
