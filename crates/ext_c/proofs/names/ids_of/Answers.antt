use Rattle.std.proofs.Common.{inr, refl}
use Rattle.ext_c.proofs.Cut.{ids_all, ids_first, ids_next, no_id_here}
use Rattle.ext_c.proofs.names.ids_of.Goals as goal

pub loop-text-init : goal.loop-text-init
loop-text-init c = ids_first c.args.texts.now c.new-ids.result.items c.new-ids.ensures.items

pub loop-text-preserved : goal.loop-text-preserved
loop-text-preserved c =
    ids_next c.args.texts.now c.loop-text.ids.items c.push.new.self.items c.in-Ok.id c.loop-text.text-index _ c.loop-text.invariant c.loop-text-test.true c.in-Ok.ensures.found c.in-Ok-push.ensures.items

pub returns-clause-ids : goal.returns-clause-ids
returns-clause-ids c = ids_all c.args.texts.now c.loop-text.ids.items c.loop-text.text-index c.loop-text.invariant c.loop-text-test.false

pub returns-in_default-clause-refused : goal.returns-in_default-clause-refused
returns-in_default-clause-refused c = inr refl

pub returns-in-Err-clause-refused : goal.returns-in-Err-clause-refused
returns-in-Err-clause-refused c = no_id_here c.args.texts.now c.loop-text.text-index _ c.in-Err.fault c.of_id.result c.loop-text-test.true c.of_id.ensures c.in-Err.ensures.only
