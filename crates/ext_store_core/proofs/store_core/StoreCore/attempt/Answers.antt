use Rattle.std.proofs.Common.{◌≡◌, ◌∙◌, rules, ap, arith}
use Rattle.std.specs.Prelude.{Err, Some}
use Rattle.ext_store_core.specs.ContextCalls.{ContextCells}
use Rattle.ext_store_core.proofs.Missing.{ancestors_are_trail, first_look_ends, standing_ends, fault_ends, refusal_ends, claim_stands, second_look_ends, given_up_ends}
use Rattle.ext_store_core.proofs.Events.{steps_add}
use Rattle.ext_store_core.proofs.Refused.{claim_refusal}
use Rattle.ext_store_core.proofs.store_core.StoreCore.attempt.Goals as goal

pub returns-in-Some-stands_along-clause-claim : goal.returns-in-Some-stands_along-clause-claim
returns-in-Some-stands_along-clause-claim c =
    first_look_ends c.args.self.now c.in-Some.first.now c.args.key c.args.path.now c.in-Some.ancestors.now c.in-Some.ensures.cases.0
    c.args.lane.now c.stands_along.new.lane c.in-Some-stands_along.unused c.requires.lane c.in-Some-stands_along.ensures.stands

pub stands_along-requires-2-clause-path : goal.stands_along-requires-2-clause-path
stands_along-requires-2-clause-path c =
    ancestors_are_trail c.args.self.now c.in-Some.first.now c.args.key c.args.path.now c.in-Some.ancestors.now c.in-Some.ensures.cases.0 c.requires.path

pub returns-in-Ok-Standing-clause-claim : goal.returns-in-Ok-Standing-clause-claim
returns-in-Ok-Standing-clause-claim c =
    standing_ends c.args.self.now c.in-Some.first.now c.args.key c.args.path.now c.in-Some.ancestors.now c.in-Some.ensures.cases.0
    c.args.lane.now c.stands_along.new.lane c.claim.new.lane c.requires.lane c.stands_along.ensures.lane c.in_default-stands_along.ensures.stands _ (ap (λ (x : ContextCells). x.tries) c.self.view_is) c.cell.result c.cell.ensures.cell
    _ c.in-Ok-Standing.number c.in-Ok-Standing.field-0-is c.in-Ok-Standing.ensures.reply

pub returns-in-Ok-Fault-clause-claim : goal.returns-in-Ok-Fault-clause-claim
returns-in-Ok-Fault-clause-claim c =
    fault_ends c.args.self.now c.in-Some.first.now c.args.key c.args.path.now c.in-Some.ancestors.now c.in-Some.ensures.cases.0
    c.args.lane.now c.stands_along.new.lane c.claim.new.lane c.requires.lane c.stands_along.ensures.lane c.in_default-stands_along.ensures.stands _ (ap (λ (x : ContextCells). x.tries) c.self.view_is) c.cell.result c.cell.ensures.cell
    _ c.in-Ok-Fault.number c.in-Ok-Fault.field-0-is c.in-Ok-Fault.ensures.reply

pub returns-in-Err-clause-claim : goal.returns-in-Err-clause-claim
returns-in-Err-clause-claim c =
    refusal_ends c.args.self.now c.in-Some.first.now c.args.key c.args.path.now c.in-Some.ancestors.now c.in-Some.ensures.cases.0
    c.args.lane.now c.stands_along.new.lane c.claim.new.lane c.requires.lane c.stands_along.ensures.lane c.in_default-stands_along.ensures.stands _ (ap (λ (x : ContextCells). x.tries) c.self.view_is) c.cell.result c.cell.ensures.cell
    c.in-Err.why c.at.result c.at.ensures c.in-Err.ensures.reply (λ e. c.in-Err.ensures.contended (ap Err e))

pub abandon_quietly-requires-clause-held : goal.abandon_quietly-requires-clause-held
abandon_quietly-requires-clause-held c =
    claim_stands c.args.self.now c.in-Some.first.now c.args.key c.args.path.now c.in-Some.ancestors.now c.in-Some.ensures.cases.0
    c.args.lane.now c.stands_along.new.lane c.claim.new.lane c.requires.lane c.stands_along.ensures.lane c.in_default-stands_along.ensures.stands _ (ap (λ (x : ContextCells). x.tries) c.self.view_is) c.cell.result c.cell.ensures.cell
    c.claim.ensures.lane _ c.in-Ok-Won.claim c.in-Ok-Won.field-0-is c.in-Ok-Won.ensures.reply c.in-Ok-Won.ensures.held
    c.stands_along-2.new.lane (Some c.in-Some-stands_along-2.unused) c.stands_along-2.ensures.legal c.in-Some-stands_along-2.ensures.stands

pub returns-in-None-clause-claim : goal.returns-in-None-clause-claim
returns-in-None-clause-claim c =
    second_look_ends c.args.self.now c.in-Some.first.now c.args.key c.args.path.now c.in-Some.ancestors.now c.in-Some.ensures.cases.0
    c.args.lane.now c.stands_along.new.lane c.claim.new.lane c.requires.lane c.stands_along.ensures.lane c.in_default-stands_along.ensures.stands _ (ap (λ (x : ContextCells). x.tries) c.self.view_is) c.cell.result c.cell.ensures.cell
    c.claim.ensures.lane _ c.in-Ok-Won.claim c.in-Ok-Won.field-0-is c.in-Ok-Won.ensures.reply c.in-Ok-Won.ensures.held
    c.stands_along-2.new.lane c.stands_along-2.ensures.legal c.in-None.ensures.stands

pub returns-in-Some-stands_along-2-clause-claim : goal.returns-in-Some-stands_along-2-clause-claim
returns-in-Some-stands_along-2-clause-claim c =
    given_up_ends c.args.self.now c.in-Some.first.now c.args.key c.args.path.now c.in-Some.ancestors.now c.in-Some.ensures.cases.0
    c.args.lane.now c.stands_along.new.lane c.claim.new.lane c.requires.lane c.stands_along.ensures.lane c.in_default-stands_along.ensures.stands _ (ap (λ (x : ContextCells). x.tries) c.self.view_is) c.cell.result c.cell.ensures.cell
    c.claim.ensures.lane _ c.in-Ok-Won.claim c.in-Ok-Won.field-0-is c.in-Ok-Won.ensures.reply c.in-Ok-Won.ensures.held
    c.stands_along-2.new.lane c.abandon_quietly.new.lane c.in-Some-stands_along-2.unused c.stands_along-2.ensures.lane c.abandon_quietly.ensures.abandoned.calls c.in-Some-stands_along-2.ensures.stands

pub at-requires : goal.at-requires
at-requires c = claim_refusal c.self.inside.cells.tries c.stands_along.new.lane c.claim.new.lane _ c.in-Err.why c.in-Err.ensures.reply

-- ---- the lane, and its steps

pub returns-in-Some-stands_along-clause-lane : goal.returns-in-Some-stands_along-clause-lane
returns-in-Some-stands_along-clause-lane c = c.stands_along.ensures.lane

pub returns-in-Ok-Standing-clause-lane : goal.returns-in-Ok-Standing-clause-lane
returns-in-Ok-Standing-clause-lane c = c.claim.ensures.lane ∙ c.stands_along.ensures.lane

pub returns-in-Ok-Fault-clause-lane : goal.returns-in-Ok-Fault-clause-lane
returns-in-Ok-Fault-clause-lane c = c.claim.ensures.lane ∙ c.stands_along.ensures.lane

pub returns-in-Err-clause-lane : goal.returns-in-Err-clause-lane
returns-in-Err-clause-lane c = c.claim.ensures.lane ∙ c.stands_along.ensures.lane

pub returns-in-None-clause-lane : goal.returns-in-None-clause-lane
returns-in-None-clause-lane c = c.stands_along-2.ensures.lane ∙ (c.claim.ensures.lane ∙ c.stands_along.ensures.lane)

pub returns-in-Some-stands_along-2-clause-lane : goal.returns-in-Some-stands_along-2-clause-lane
returns-in-Some-stands_along-2-clause-lane c = c.abandon_quietly.ensures.lane ∙ (c.stands_along-2.ensures.lane ∙ (c.claim.ensures.lane ∙ c.stands_along.ensures.lane))

pub returns-in-Some-stands_along-clause-steps : goal.returns-in-Some-stands_along-clause-steps
returns-in-Some-stands_along-clause-steps c = let first = c.stands_along.ensures.steps in omega (arith, first)

pub returns-in-Ok-Standing-clause-steps : goal.returns-in-Ok-Standing-clause-steps
returns-in-Ok-Standing-clause-steps c =
    let tries : c.self.inside.cells.tries ≡ c.args.self.now.tries = ap (λ (s : ContextCells). s.tries) c.self.view_is in
    let first = c.stands_along.ensures.steps in
    let claim = c.claim.ensures.steps in
    let both = steps_add c.args.lane.now c.stands_along.new.lane c.claim.new.lane in
    omega (arith, tries, first, claim, both)

pub returns-in-Ok-Fault-clause-steps : goal.returns-in-Ok-Fault-clause-steps
returns-in-Ok-Fault-clause-steps c =
    let tries : c.self.inside.cells.tries ≡ c.args.self.now.tries = ap (λ (s : ContextCells). s.tries) c.self.view_is in
    let first = c.stands_along.ensures.steps in
    let claim = c.claim.ensures.steps in
    let both = steps_add c.args.lane.now c.stands_along.new.lane c.claim.new.lane in
    omega (arith, tries, first, claim, both)

pub returns-in-Err-clause-steps : goal.returns-in-Err-clause-steps
returns-in-Err-clause-steps c =
    let tries : c.self.inside.cells.tries ≡ c.args.self.now.tries = ap (λ (s : ContextCells). s.tries) c.self.view_is in
    let first = c.stands_along.ensures.steps in
    let claim = c.claim.ensures.steps in
    let both = steps_add c.args.lane.now c.stands_along.new.lane c.claim.new.lane in
    omega (arith, tries, first, claim, both)

pub returns-in-None-clause-steps : goal.returns-in-None-clause-steps
returns-in-None-clause-steps c =
    let tries : c.self.inside.cells.tries ≡ c.args.self.now.tries = ap (λ (s : ContextCells). s.tries) c.self.view_is in
    let first = c.stands_along.ensures.steps in
    let claim = c.claim.ensures.steps in
    let second = c.stands_along-2.ensures.steps in
    let two = steps_add c.args.lane.now c.stands_along.new.lane c.claim.new.lane in
    let three = steps_add c.args.lane.now c.claim.new.lane c.stands_along-2.new.lane in
    omega (arith, tries, first, claim, second, two, three)

pub returns-in-Some-stands_along-2-clause-steps : goal.returns-in-Some-stands_along-2-clause-steps
returns-in-Some-stands_along-2-clause-steps c =
    let tries : c.self.inside.cells.tries ≡ c.args.self.now.tries = ap (λ (s : ContextCells). s.tries) c.self.view_is in
    let first = c.stands_along.ensures.steps in
    let claim = c.claim.ensures.steps in
    let second = c.stands_along-2.ensures.steps in
    let given_up = c.abandon_quietly.ensures.steps in
    let two = steps_add c.args.lane.now c.stands_along.new.lane c.claim.new.lane in
    let three = steps_add c.args.lane.now c.claim.new.lane c.stands_along-2.new.lane in
    let four = steps_add c.args.lane.now c.stands_along-2.new.lane c.abandon_quietly.new.lane in
    omega (arith, tries, first, claim, second, given_up, two, three, four)
