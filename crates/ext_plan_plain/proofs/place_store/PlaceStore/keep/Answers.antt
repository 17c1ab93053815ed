use Rattle.ext_plan_plain.proofs.Places.{kept_moves, kept_noted}
use Rattle.ext_plan_plain.proofs.place_store.PlaceStore.keep.Goals as goal

pub invariant_of-self : goal.invariant_of-self
invariant_of-self c = let old = c.args.self.now in record { few = old.few; noted = kept_noted _ old c.keep.new.self c.keep.ensures.state }

pub returns-clause-state : goal.returns-clause-state
returns-clause-state c = kept_moves _ c.args.self.now c.keep.new.self c.keep.ensures.state
