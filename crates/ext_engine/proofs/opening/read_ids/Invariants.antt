use Rattle.std.proofs.Common.{◌≡◌, length, take}
use Rattle.ext_locks.specs.Names.{texts_of}
use Rattle.ext_engine.specs.Opening.{AreRead}
use Rattle.ext_engine.proofs.opening.read_ids.Given as goal

abbrev pub invariant-loop-at : goal.invariant-loop-at
invariant-loop-at l = record { read : AreRead (take l.at (texts_of l.texts)) l.ids.items; count : length l.ids.items ≡ l.at }
