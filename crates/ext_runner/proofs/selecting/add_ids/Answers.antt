use Rattle.std.proofs.Common.{map, string_bytes}
use Rattle.ext_runner.proofs.IdTexts.{ids-more}
use Rattle.ext_runner.proofs.selecting.add_ids.Goals as goal

pub loop-index-preserved : goal.loop-index-preserved
loop-index-preserved c =
    ids-more c.args.all.now c.args.indices.now c.loop-index.index-index (map string_bytes c.args.ids.now.items) (map string_bytes c.loop-index.ids.items) _ c.loop-index-test.true c.loop-index.invariant c.in_ok-add_id.ensures
