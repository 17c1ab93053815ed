use Rattle.std.proofs.Common.{◌∙◌}
use Rattle.std.specs.Prelude.{Ok, Err}
use Rattle.ext_store_core.specs.declared.fault.Refusal.TheVariants.{Contended}
use Rattle.ext_store_core.proofs.Replies.{other_why}
use Rattle.ext_store_core.proofs.Events.{put_calls}
use Rattle.ext_store_core.proofs.Waited.{waited_cells, waited_more, puts_later, decided_not}
use Rattle.ext_store_core.proofs.store_core.StoreCore.put_wait.Goals as goal

pub put-requires-clause-lane : goal.put-requires-clause-lane
put-requires-clause-lane g c = waited_cells c.args.lane.now c.loop.lane c.loop.invariant ∙ c.requires.lane

pub returns-in-Ok-clause-answer : goal.returns-in-Ok-clause-answer
returns-in-Ok-clause-answer g c =
    puts_later c.args.self.now c.args.context c.args.key c.args.number c.args.lane.now c.loop.lane c.put.new.lane (Ok c.in-Ok.stood) c.loop.invariant (λ e. cc e) c.in-Ok.ensures.answer

pub returns-then-is_decided-clause-answer : goal.returns-then-is_decided-clause-answer
returns-then-is_decided-clause-answer g c =
    puts_later c.args.self.now c.args.context c.args.key c.args.number c.args.lane.now c.loop.lane c.put.new.lane (Err (c.args.number, c.in-Err.why)) c.loop.invariant
    (other_why c.args.number c.args.number c.in-Err.why Contended (decided_not c.in-Err.why (c.is_decided.ensures.0 c.if-is_decided.true))) c.in-Err.ensures.answer

pub loop-preserved : goal.loop-preserved
loop-preserved g c =
    waited_more c.args.lane.now c.loop.lane c.put.new.lane c.loop.invariant c.put.ensures.lane
    (put_calls c.args.self.now c.args.context c.args.key c.loop.lane c.put.new.lane c.args.number (Err c.in-Err.why) c.in-Err.ensures.answer)
