use Rattle.ext_store.proofs.Frames.{grows, no_frame}
use Rattle.ext_store.proofs.store.Store.found_or_made.Goals as goal

pub returns-in-Failed-clause-grows : goal.returns-in-Failed-clause-grows
returns-in-Failed-clause-grows g c = grows c.args.self.now.id c.args.lane.now c.args.lane.now (no_frame c.args.self.now.id c.args.lane.now c.requires.lane)

pub returns-in-FaultUnkept-clause-grows : goal.returns-in-FaultUnkept-clause-grows
returns-in-FaultUnkept-clause-grows g c = grows c.args.self.now.id c.args.lane.now c.args.lane.now (no_frame c.args.self.now.id c.args.lane.now c.requires.lane)

pub returns-in-Unkept-clause-grows : goal.returns-in-Unkept-clause-grows
returns-in-Unkept-clause-grows g c = grows c.args.self.now.id c.args.lane.now c.args.lane.now (no_frame c.args.self.now.id c.args.lane.now c.requires.lane)
