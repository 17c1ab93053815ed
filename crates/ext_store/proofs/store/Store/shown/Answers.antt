use Rattle.ext_store.proofs.Frames.{grows}
use Rattle.ext_store.proofs.store.Store.shown.Goals as goal

pub returns-in-Some-clause-grows : goal.returns-in-Some-clause-grows
returns-in-Some-clause-grows g c = grows c.args.self.now.id c.args.lane.now c.show.new.lane c.show.ensures.frame

pub returns-in-None-clause-grows : goal.returns-in-None-clause-grows
returns-in-None-clause-grows g c = grows c.args.self.now.id c.args.lane.now c.show.new.lane c.show.ensures.frame
