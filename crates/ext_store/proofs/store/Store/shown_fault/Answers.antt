use Rattle.std.proofs.Common.{inl, inr}
use Rattle.ext_store.proofs.Frames.{grows}
use Rattle.ext_store.proofs.store.Store.shown_fault.Goals as goal

pub returns-in-Some-clause-fault : goal.returns-in-Some-clause-fault
returns-in-Some-clause-fault g c = inl (record { kept = c.in-Some.kept.now; learnt = c.in-Some.ensures.found; copied = c.copy_of.ensures; known = c.show_fault.ensures.known })

pub returns-in-None-clause-fault : goal.returns-in-None-clause-fault
returns-in-None-clause-fault g c = inr (record { unknown = c.in-None.ensures.none.0; told = c.fault_of.ensures; still = c.in-None.ensures.none.1 })

pub returns-in-Some-clause-grows : goal.returns-in-Some-clause-grows
returns-in-Some-clause-grows g c = grows c.args.self.now.id c.args.lane.now c.show_fault.new.lane c.show_fault.ensures.frame

pub returns-in-None-clause-grows : goal.returns-in-None-clause-grows
returns-in-None-clause-grows g c = grows c.args.self.now.id c.args.lane.now c.show_fault.new.lane c.show_fault.ensures.frame
