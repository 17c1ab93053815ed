use Rattle.std.proofs.Common.{◌∙◌}
use Rattle.std.specs.Prelude.{Ok, Err}
use Rattle.ext_store_core.proofs.Events.{remove_calls}
use Rattle.ext_store_core.proofs.Waited.{waited_cells, waited_more, removes_later, refused_not}
use Rattle.ext_store_core.proofs.store_core.StoreCore.remove_wait.Goals as goal

pub remove-requires-clause-lane : goal.remove-requires-clause-lane
remove-requires-clause-lane g c = waited_cells c.args.lane.now c.loop.lane c.loop.invariant ∙ c.requires.lane

pub returns-in-Ok-clause-answer : goal.returns-in-Ok-clause-answer
returns-in-Ok-clause-answer g c =
    removes_later c.args.self.now c.args.context c.args.key c.args.lane.now c.loop.lane c.remove.new.lane (Ok c.in-Ok.stood) c.loop.invariant (λ e. cc e) c.in-Ok.ensures.answer

pub returns-then-is_decided-clause-answer : goal.returns-then-is_decided-clause-answer
returns-then-is_decided-clause-answer g c =
    removes_later c.args.self.now c.args.context c.args.key c.args.lane.now c.loop.lane c.remove.new.lane (Err c.in-Err.why) c.loop.invariant
    (refused_not c.in-Err.why (c.is_decided.ensures.0 c.if-is_decided.true)) c.in-Err.ensures.answer

pub loop-preserved : goal.loop-preserved
loop-preserved g c =
    waited_more c.args.lane.now c.loop.lane c.remove.new.lane c.loop.invariant c.remove.ensures.lane
    (remove_calls c.args.self.now c.args.context c.args.key c.loop.lane c.remove.new.lane (Err c.in-Err.why) c.in-Err.ensures.answer)
