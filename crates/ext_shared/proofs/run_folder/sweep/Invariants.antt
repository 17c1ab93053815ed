use Rattle.std.proofs.Common.{List, ℕ}
use Rattle.std.specs.List.{FoldsTo}
use Rattle.ext_shared.specs.Closing.{ClosesFolder}
use Rattle.ext_shared.proofs.run_folder.sweep.Given as goal

abbrev pub invariant-loop-entry : goal.invariant-loop-entry
invariant-loop-entry g l = (folders : List (List (List ℕ))) × FoldsTo (ClosesFolder (g.C.TextCloser.closes)) l.fn.closer folders l.closer
