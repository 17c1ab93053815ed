use Rattle.std.proofs.Common.{◌∙◌}
use Rattle.ext_store_core.proofs.Waited.{waited_cells, waited_more, looks_later, decided_look}
use Rattle.ext_store_core.proofs.Events.{looks_quiet}
use Rattle.ext_store_core.proofs.store_core.StoreCore.wait_along.Goals as goal

pub look_along-requires-clause-lane : goal.look_along-requires-clause-lane
look_along-requires-clause-lane g c = waited_cells c.args.lane.now c.loop.lane c.loop.invariant ∙ c.requires.lane

pub loop-preserved : goal.loop-preserved
loop-preserved g c =
    waited_more c.args.lane.now c.loop.lane c.look_along.new.lane c.loop.invariant c.look_along.ensures.lane
    (looks_quiet c.args.self.now c.args.path.now c.args.key c.loop.lane c.look_along.new.lane c.look_along.result c.look_along.ensures.look)

pub returns-in-Ok-clause-look : goal.returns-in-Ok-clause-look
returns-in-Ok-clause-look g c =
    looks_later c.args.self.now c.args.path.now c.args.key c.args.lane.now c.loop.lane c.look_along.new.lane c.in-Ok.look c.loop.invariant
    (decided_look c.args.self.now c.args.path.now c.args.key c.loop.lane c.look_along.new.lane c.look_along.result c.in-Ok.look c.in-Ok.ensures c.look_along.ensures.look).0

pub returns-in-Ok-clause-decided : goal.returns-in-Ok-clause-decided
returns-in-Ok-clause-decided g c =
    (decided_look c.args.self.now c.args.path.now c.args.key c.loop.lane c.look_along.new.lane c.look_along.result c.in-Ok.look c.in-Ok.ensures c.look_along.ensures.look).1
