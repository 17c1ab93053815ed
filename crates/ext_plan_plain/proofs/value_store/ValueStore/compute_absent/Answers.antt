use Rattle.std.proofs.Common.{◌∙◌, ap, refl, sym}
use Rattle.ext_model.specs.declared.event.Act.TheVariants.{Claim}
use Rattle.ext_model.specs.declared.look.Look.TheVariants as look
use Rattle.ext_plan_plain.specs.declared.lack.Lack.TheVariants as lacks
use Rattle.ext_plan_plain.specs.ValueStates.{after_act, reply_to, why_refused}
use Rattle.ext_plan_plain.specs.StepRuns.{compute_by, factory_gave}
use Rattle.ext_plan_plain.specs.InnerSteps.{place_of_call, state_view}
use Rattle.ext_plan_plain.proofs.Lacks.{at_lack, given-by, refusal-says, refused-same, unplaced}
use Rattle.ext_plan_plain.proofs.value_store.ValueStore.compute_absent.Goals as goal
use Rattle.ext_plan.specs.StepCalls.{call_view}
use Rattle.ext_plan.specs.Values.{value_view}

pub returns-in_err-why : goal.returns-in_err-why
returns-in_err-why c =
    let call = call_view c.args.call.now in
    let old = state_view c.args.self.now in
    at_lack (λ m. compute_by m call.name call.label (place_of_call c.args.call.now c.args.key) (value_view c.args.value) old look.Absent) c.from_residual.result (state_view c.claim.new.self) _ lacks.Place c.from_residual.ensures.1 c.in_err-why.ensures.lacks
    (unplaced call.name call.label (place_of_call c.args.call.now c.args.key) old (state_view c.claim.new.self) (sym (ap (λ at. why_refused (Claim (at, c.args.key)) old) c.at.ensures) ∙ c.in_err-why.ensures.allowed) c.in_err-why.ensures.unchanged)

pub returns-in-Some : goal.returns-in-Some
returns-in-Some c =
    let call = call_view c.args.call.now in
    let old = state_view c.args.self.now in
    let place = place_of_call c.args.call.now c.args.key in
    let value = value_view c.args.value in
    let why = sym (ap (λ at. why_refused (Claim (at, c.args.key)) old) c.at.ensures) ∙ sym c.in_ok-why.ensures.why ∙ c.in-Some.is in
    let claimed = c.in_ok-why.ensures.state ∙ ap (λ at. after_act (Claim (at, c.args.key)) old) c.at.ensures in
    refusal-says (λ m. compute_by m call.name call.label place value old look.Absent) c.say_refused.result call.name call.label c.in-Some.why (why_refused (Claim place) old) old (state_view c.claim.new.self)
    (factory_gave call.name call.label place value (after_act (Claim place) old)) c.say_refused.ensures why (claimed ∙ refused-same (reply_to (Claim place) old) old _ c.in-Some.why why) refl refl

pub returns-in-None : goal.returns-in-None
returns-in-None c =
    let call = call_view c.args.call.now in
    let old = state_view c.args.self.now in
    let place = place_of_call c.args.call.now c.args.key in
    let won = sym (ap (λ at. why_refused (Claim (at, c.args.key)) old) c.at.ensures) ∙ sym c.in_ok-why.ensures.why ∙ c.in-None.is in
    let claimed = c.in_ok-why.ensures.state ∙ ap (λ at. after_act (Claim (at, c.args.key)) old) c.at.ensures in
    given-by call.name call.label place (value_view c.args.value) old (state_view c.claim.new.self) (state_view c.fill_claim.new.self) c.fill_claim.result won claimed c.fill_claim.ensures
