use Rattle.std.proofs.Common.{◌≡◌, ◌∙◌, ap, subst}
use Rattle.std.specs.Prelude.{OnErr}
use Rattle.ext_model.specs.declared.event.Act.TheVariants.{Put}
use Rattle.ext_model.specs.Plain.{Place, any_lane, state_of}
use Rattle.ext_plan_plain.specs.InnerPlaces.{is_spared, sparing}
use Rattle.ext_plan_plain.proofs.Places.{moved, moved_as, noted_acted, unless, used_open}
use Rattle.ext_plan_plain.proofs.place_store.PlaceStore.put.Goals as goal

pub invariant_of-self : goal.invariant_of-self
invariant_of-self c =
    let noting = c.note.new.self in
    let place : Place = (c.args.at, c.args.key) in
    record { few = noting.few; noted = noted_acted c.put.result any_lane (Put place c.args.number) noting place c.put.new.self (λ q on. on) c.in-Ok.ensures.used c.put.ensures.state c.put.ensures.unchanged }

pub returns-clause-state : goal.returns-clause-state
returns-clause-state c =
    let noting = c.note.new.self in
    let place : Place = (c.args.at, c.args.key) in
    unless c.put.result
    (λ step. moved_as any_lane (Put place c.args.number) c.args.self.now noting _ c.in-Ok.ensures.others.store c.in-Ok.ensures.state (moved any_lane (Put place c.args.number) noting place c.put.new.self (λ q on. on) (used_open noting place c.in-Ok.ensures.used) step))
    c.put.ensures.state

pub returns-clause-unchanged : goal.returns-clause-unchanged
returns-clause-unchanged c = λ is.
    let noting = c.note.new.self in
    let same : c.put.new.self ≡ noting.store = subst (λ r. OnErr r (c.put.new.self ≡ noting.store)) is c.put.ensures.unchanged in
    ap (λ store. sparing (is_spared noting) (state_of store)) same ∙ c.in-Ok.ensures.state
