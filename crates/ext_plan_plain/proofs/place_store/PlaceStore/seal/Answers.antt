use Rattle.ext_model.specs.declared.event.Act.TheVariants.{Seal}
use Rattle.ext_model.specs.Plain.{Place, any_lane}
use Rattle.ext_plan_plain.proofs.Places.{moved, noted_acted, seal_refused, unless, used_open}
use Rattle.ext_plan_plain.proofs.place_store.PlaceStore.seal.Goals as goal

pub invariant_of-self : goal.invariant_of-self
invariant_of-self c =
    let old = c.args.self.now in
    let place : Place = (c.args.at, c.args.key) in
    record { few = old.few; noted = noted_acted c.seal.result any_lane (Seal place) old place c.seal.new.self (λ q on. on) c.requires c.seal.ensures.state c.seal.ensures.unchanged }

pub returns-clause-state : goal.returns-clause-state
returns-clause-state c =
    let old = c.args.self.now in
    let place : Place = (c.args.at, c.args.key) in
    unless c.seal.result (λ step. moved any_lane (Seal place) old place c.seal.new.self (λ q on. on) (used_open old place c.requires) step) c.seal.ensures.state

pub returns-clause-refused : goal.returns-clause-refused
returns-clause-refused c =
    let old = c.args.self.now in
    let place : Place = (c.args.at, c.args.key) in
    seal_refused c.seal.result old place c.seal.new.self (used_open old place c.requires) c.seal.ensures.reply c.seal.ensures.memory c.seal.ensures.unchanged
