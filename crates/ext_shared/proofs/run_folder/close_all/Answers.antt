use Rattle.std.proofs.Common.{[]}
use Rattle.ext_shared.specs.Closing.{MayClose}
use Rattle.ext_shared.proofs.Orders.{folds_step}
use Rattle.ext_shared.proofs.run_folder.close_all.Goals as goal

pub loop-name-preserved : goal.loop-name-preserved
loop-name-preserved g c = folds_step (MayClose g.C.TextCloser.closes) c.args.names.now c.loop-name.name-index (record { ref_ptr = (0, 0); now = [] })
    c.args.closer.now c.loop-name.closer c.close_one-one.new.closer c.loop-name-test.true c.loop-name.invariant c.close_one-one.ensures
