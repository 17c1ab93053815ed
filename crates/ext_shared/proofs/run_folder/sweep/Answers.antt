use Rattle.std.proofs.Common.{[], ◌∷◌, ◌++◌}
use Rattle.std.proofs.lemmas.Fn.{FoldsTo-push}
use Rattle.ext_shared.specs.Closing.{ClosesFolder}
use Rattle.ext_shared.proofs.run_folder.sweep.Goals as goal

pub loop-entry-preserved : goal.loop-entry-preserved
loop-entry-preserved g c =
    let was = c.loop-entry.invariant in
    let one = c.sweep_entry-one.ensures in (
      was.0 ++ one.0 ∷ [],
      FoldsTo-push (ClosesFolder g.C.TextCloser.closes) c.args.closer.now was.0 c.loop-entry.closer one.0 c.sweep_entry-one.new.closer was.1 one.1,
    )
