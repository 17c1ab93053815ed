use Rattle.std.proofs.Common.{sym, ◌∙◌}
use Rattle.ext_model.specs.declared.event.Act.TheVariants.{Remove}
use Rattle.ext_model.specs.Plain.{Place, any_lane}
use Rattle.ext_plan_plain.proofs.Places.{moved, noted_removed}
use Rattle.ext_plan_plain.proofs.place_store.PlaceStore.remove.Goals as goal

pub invariant_of-self : goal.invariant_of-self
invariant_of-self c =
    let old = c.args.self.now in
    record { few = old.few; noted = noted_removed old.store.numbers old.store c.remove.new.self old.used any_lane (c.args.at, c.args.key) c.remove.ensures.state old.noted }

pub returns-clause-state : goal.returns-clause-state
returns-clause-state c =
    let place : Place = (c.args.at, c.args.key) in
    moved any_lane (Remove place) c.args.self.now place c.remove.new.self (λ q on. on) (sym c.is_spared.ensures ∙ c.if-is_spared.false) c.remove.ensures.state
