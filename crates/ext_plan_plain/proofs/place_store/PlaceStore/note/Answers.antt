use Rattle.ext_plan_plain.proofs.Places.{noted_inserted, noting_shows}
use Rattle.ext_plan_plain.proofs.place_store.PlaceStore.note.Goals as goal

pub invariant_of-self : goal.invariant_of-self
invariant_of-self c =
    let old = c.args.self.now in
    record { few = old.few; noted = noted_inserted c.insert.result old.store old.used c.insert.new.self (c.args.at, c.args.key) c.insert.ensures.updates c.insert.ensures.err old.noted }

pub returns-clause-state : goal.returns-clause-state
returns-clause-state c = noting_shows c.args.self.now c.insert.new.self (c.args.at, c.args.key) c.in_ok-insert.ensures.updates.0 c.requires
