use Rattle.std.proofs.Common.{rules, ◌≡◌, List, arith, length, subst, sym}
use Rattle.std.specs.Prelude.{AllPairs}
use Rattle.std.proofs.lemmas.List.{length-map}
use Rattle.std.proofs.lemmas.List.Kept.{AllPairs-cons}
use Rattle.ext_model.specs.declared.look.Fault.{Fault}
use Rattle.ext_values.specs.Known.{Known, AllAgree}
use Rattle.ext_store.specs.Stores.{StoreLane}
use Rattle.ext_plan_parallel.specs.Opened.{all_faults, all_known}
use Rattle.ext_plan_parallel.proofs.meeting.+agree_all.Goals as goal

pub returns-in-Some : goal.returns-in-Some
returns-in-Some g t c =
    let rest = subst (λ (l : List (List (Known g.row.V.Denot))). AllPairs AllAgree l) c.agree_rest.ensures.known c.agree_all.ensures.agree in
    let rest_faults = subst (λ (l : List (List (Known Fault))). AllPairs AllAgree l) c.agree_rest.ensures.faults c.agree_all.ensures.agree_faults in
    record {
      agree = subst (λ (l : List (StoreLane g.row.V.Denot)). AllPairs AllAgree (all_known l)) (sym c.in-Some.ensures.cases.0)
          (AllPairs-cons AllAgree c.in-Some.first.now.known (all_known c.in-Some.rest.now) c.agree_rest.ensures.agree rest);
      agree_faults = subst (λ (l : List (StoreLane g.row.V.Denot)). AllPairs AllAgree (all_faults l)) (sym c.in-Some.ensures.cases.0)
          (AllPairs-cons AllAgree c.in-Some.first.now.faults (all_faults c.in-Some.rest.now) c.agree_rest.ensures.agree_faults rest_faults);
    }

pub returns-in_default : goal.returns-in_default
returns-in_default g t c =
    let none : length c.args.lanes.now ≡ 0 = search rules in
    let long = length-map c.args.lanes.now (λ (lane : StoreLane g.row.V.Denot). lane.known) in
    let long_faults = length-map c.args.lanes.now (λ (lane : StoreLane g.row.V.Denot). lane.faults) in
    record {
      agree = λ i j d less within. absurd (omega (arith, less, within, none, long));
      agree_faults = λ i j d less within. absurd (omega (arith, less, within, none, long_faults));
    }
