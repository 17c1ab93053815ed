use Rattle.ext_model.specs.declared.event.Act.TheVariants.{Abandon}
use Rattle.ext_model.specs.Plain.{Place}
use Rattle.ext_plan_plain.proofs.Places.{claimed_used, moved, noted_step, used_open}
use Rattle.ext_plan_plain.proofs.place_store.PlaceStore.abandon.Goals as goal

pub invariant_of-self : goal.invariant_of-self
invariant_of-self c =
    let old = c.args.self.now in
    let place : Place = (c.args.at, c.args.key) in
    record { few = old.few; noted = noted_step c.args.lane (Abandon (c.args.at, c.args.key)) old place c.abandon.new.self (λ q on. on) (claimed_used old place c.args.lane old.noted c.requires) c.abandon.ensures.state }

pub returns-clause-state : goal.returns-clause-state
returns-clause-state c =
    let old = c.args.self.now in
    let place : Place = (c.args.at, c.args.key) in
    moved c.args.lane (Abandon (c.args.at, c.args.key)) old place c.abandon.new.self (λ q on. on) (used_open old place (claimed_used old place c.args.lane old.noted c.requires)) c.abandon.ensures.state
