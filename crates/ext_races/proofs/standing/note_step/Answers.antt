use Rattle.std.proofs.Common.{◌∙◌, ◌∷◌, ◌++◌, [], ap, sym, subst}
use Rattle.ext_plan.specs.Plans.{step_view}
use Rattle.ext_plan.specs.StepCalls.{keys_in}
use Rattle.ext_plan.specs.StoreKeys.{key_of_step}
use Rattle.ext_races.specs.Acts.{act_of, act_view}
use Rattle.ext_races.specs.InnerStanding.{AreFirst, IsNumber}
use Rattle.ext_races.specs.Touches.{stores_key}
use Rattle.ext_races.proofs.Above.{first_pushed, first_same, no_key, no_value}
use Rattle.ext_races.proofs.standing.note_step.Goals as goal

pub returns-in_default : goal.returns-in_default
returns-in_default c = λ before are.
    let declared = keys_in c.args.keys.now in
    first_same declared c.args.directory.now c.args.put c.args.path.now before (act_of (step_view c.args.step.now)) c.args.computes.now.items (λ key there. ap (stores_key declared key c.args.put) (sym c.in_default.ensures)) are

pub returns-then-not-stores : goal.returns-then-not-stores
returns-then-not-stores c = λ before are.
    let declared = keys_in c.args.keys.now in
    first_same declared c.args.directory.now c.args.put c.args.path.now before (act_of (step_view c.args.step.now)) c.args.computes.now.items
    (λ key there. ap (stores_key declared key c.args.put) (sym c.in-Some.ensures) ∙ no_value declared c.args.directory.now c.args.put (act_view c.in-Some.act) key (sym c.stores.ensures ∙ c.if-not-stores.true)) are

pub returns-in_default-2 : goal.returns-in_default-2
returns-in_default-2 c = λ before are.
    let declared = keys_in c.args.keys.now in
    let missing = subst (IsNumber c.args.directory.now (key_of_step declared (act_view c.in-Some.act).key)) c.in_default-2.is c.in_ok-key.ensures in
    first_same declared c.args.directory.now c.args.put c.args.path.now before (act_of (step_view c.args.step.now)) c.args.computes.now.items
    (λ key there. ap (stores_key declared key c.args.put) (sym c.in-Some.ensures) ∙ no_key declared c.args.directory.now c.args.put (act_view c.in-Some.act) key missing there) are

pub returns : goal.returns
returns c = λ before are.
    let declared = keys_in c.args.keys.now in
    let number = subst (IsNumber c.args.directory.now (key_of_step declared (act_view c.in-Some.act).key)) c.in-Some-2.is c.in_ok-key.ensures in
    subst (λ act. AreFirst declared c.args.directory.now c.args.put c.args.path.now (before ++ act ∷ []) c.push_first.new.computes.items) c.in-Some.ensures
    (first_pushed declared c.args.directory.now c.args.put c.args.path.now before (act_view c.in-Some.act) c.compute_of.result c.args.computes.now.items c.push_first.new.computes.items
    (sym c.stores.ensures ∙ c.if-not-stores.false) number.0 (c.compute_of.ensures.key ∙ number.1) c.compute_of.ensures.compute c.in_ok-push_first.ensures are)
