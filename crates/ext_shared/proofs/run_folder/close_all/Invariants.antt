use Rattle.std.proofs.Common.{map, take}
use Rattle.std.specs.List.{FoldsTo}
use Rattle.ext_shared.specs.Closing.{MayClose}
use Rattle.ext_shared.proofs.run_folder.close_all.Given as goal

abbrev pub invariant-loop-name : goal.invariant-loop-name
invariant-loop-name g l = FoldsTo (MayClose (g.C.TextCloser.closes)) l.fn.closer (map (λ name. name.now) (take l.name-index l.names)) l.closer
