use Rattle.ext_table.proofs.Sharing.{keys_more}
use Rattle.ext_table.proofs.table_run.level_keys.Goals as goal

pub loop-level-preserved : goal.loop-level-preserved
loop-level-preserved c = keys_more c.loop-level.keys.items c.push.new.self.items c.in_ok-key.key c.loop-level.level c.loop-level.invariant c.in_ok-key.ensures c.in_ok-push.ensures.items
