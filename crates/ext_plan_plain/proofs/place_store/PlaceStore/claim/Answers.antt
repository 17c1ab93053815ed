use Rattle.std.proofs.Common.{◌≡◌, ◌∙◌, ap, subst}
use Rattle.std.specs.Prelude.{OnErr}
use Rattle.ext_model.specs.declared.event.Act.TheVariants.{Claim}
use Rattle.ext_model.specs.Plain.{Place, state_of}
use Rattle.ext_plan_plain.specs.InnerPlaces.{is_spared, sparing}
use Rattle.ext_plan_plain.proofs.Places.{moved, moved_as, noted_acted, unless, used_open}
use Rattle.ext_plan_plain.proofs.place_store.PlaceStore.claim.Goals as goal

pub invariant_of-self : goal.invariant_of-self
invariant_of-self c =
    let noting = c.note.new.self in
    let place : Place = (c.args.at, c.args.key) in
    record { few = noting.few; noted = noted_acted c.claim.result c.args.lane (Claim place) noting place c.claim.new.self (λ q on. on) c.in-Ok.ensures.used c.claim.ensures.state c.claim.ensures.unchanged }

pub returns-clause-state : goal.returns-clause-state
returns-clause-state c =
    let noting = c.note.new.self in
    let place : Place = (c.args.at, c.args.key) in
    unless c.claim.result
    (λ step. moved_as c.args.lane (Claim place) c.args.self.now noting _ c.in-Ok.ensures.others.store c.in-Ok.ensures.state (moved c.args.lane (Claim place) noting place c.claim.new.self (λ q on. on) (used_open noting place c.in-Ok.ensures.used) step))
    c.claim.ensures.state

pub returns-clause-unchanged : goal.returns-clause-unchanged
returns-clause-unchanged c = λ is.
    let noting = c.note.new.self in
    let same : c.claim.new.self ≡ noting.store = subst (λ r. OnErr r (c.claim.new.self ≡ noting.store)) is c.claim.ensures.unchanged in
    ap (λ store. sparing (is_spared noting) (state_of store)) same ∙ c.in-Ok.ensures.state
