use Rattle.std.proofs.lemmas.List.Elements.{All-pop}
use Rattle.ext_store.specs.Stores.{IsLaneOf}
use Rattle.ext_engine.proofs.taken.take_lane.Goals as goal

pub returns-clause-own : goal.returns-clause-own
returns-clause-own g c = (All-pop (IsLaneOf c.args.store.now.id) c.args.lanes.now.items c.pop.new.self.items c.pop.result c.pop.ensures.items c.requires).1

pub returns-clause-others : goal.returns-clause-others
returns-clause-others g c = (All-pop (IsLaneOf c.args.store.now.id) c.args.lanes.now.items c.pop.new.self.items c.pop.result c.pop.ensures.items c.requires).0
