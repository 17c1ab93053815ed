use Rattle.std.proofs.Common.{rules, ◌≡◌, ◌∷◌, ◌∙◌, List, ap, ap₂, arith, length, subst, sym}
use Rattle.std.specs.Prelude.{All}
use Rattle.std.proofs.lemmas.List.{length-map}
use Rattle.std.proofs.lemmas.List.Elements.{All-cons}
use Rattle.ext_model.specs.declared.look.Fault.{Fault}
use Rattle.ext_values.specs.Known.{Known, AllAgree}
use Rattle.ext_store.specs.Stores.{StoreLane}
use Rattle.ext_plan_parallel.specs.Opened.{all_faults, all_known}
use Rattle.ext_plan_parallel.proofs.meeting.+agree_rest.Goals as goal

pub returns-in-Some-clause-first : goal.returns-in-Some-clause-first
returns-in-Some-clause-first g t c = (c.agree_rest.ensures.first.0 ∙ c.meet.ensures.known.0, c.agree_rest.ensures.first.1 ∙ c.meet.ensures.faults.0)

pub returns-in-Some-clause-known : goal.returns-in-Some-clause-known
returns-in-Some-clause-known g t c = ap₂ ◌∷◌ c.meet.ensures.known.1 c.agree_rest.ensures.known ∙ sym (ap all_known c.in-Some.ensures.cases.0)

pub returns-in-Some-clause-faults : goal.returns-in-Some-clause-faults
returns-in-Some-clause-faults g t c = ap₂ ◌∷◌ c.meet.ensures.faults.1 c.agree_rest.ensures.faults ∙ sym (ap all_faults c.in-Some.ensures.cases.0)

pub returns-in-Some-clause-agree : goal.returns-in-Some-clause-agree
returns-in-Some-clause-agree g t c =
    let rest = subst (λ (k : List (Known g.row.V.Denot)). All (AllAgree k) (all_known c.in-Some.more.now)) c.meet.ensures.known.0 c.agree_rest.ensures.agree in
    subst (λ (l : List (StoreLane g.row.V.Denot)). All (AllAgree c.args.first.now.known) (all_known l)) (sym c.in-Some.ensures.cases.0)
    (All-cons (AllAgree c.args.first.now.known) c.in-Some.next.now.known (all_known c.in-Some.more.now) c.meet.ensures.agree rest)

pub returns-in-Some-clause-agree_faults : goal.returns-in-Some-clause-agree_faults
returns-in-Some-clause-agree_faults g t c =
    let rest = subst (λ (k : List (Known Fault)). All (AllAgree k) (all_faults c.in-Some.more.now)) c.meet.ensures.faults.0 c.agree_rest.ensures.agree_faults in
    subst (λ (l : List (StoreLane g.row.V.Denot)). All (AllAgree c.args.first.now.faults) (all_faults l)) (sym c.in-Some.ensures.cases.0)
    (All-cons (AllAgree c.args.first.now.faults) c.in-Some.next.now.faults (all_faults c.in-Some.more.now) c.meet.ensures.agree_faults rest)

pub returns-in_default-clause-agree : goal.returns-in_default-clause-agree
returns-in_default-clause-agree g t c =
    let none : length c.args.others.now ≡ 0 = search rules in
    let long = length-map c.args.others.now (λ (lane : StoreLane g.row.V.Denot). lane.known) in
    λ i d less. absurd (omega (arith, less, none, long))

pub returns-in_default-clause-agree_faults : goal.returns-in_default-clause-agree_faults
returns-in_default-clause-agree_faults g t c =
    let none : length c.args.others.now ≡ 0 = search rules in
    let long = length-map c.args.others.now (λ (lane : StoreLane g.row.V.Denot). lane.faults) in
    λ i d less. absurd (omega (arith, less, none, long))
