use Rattle.std.proofs.Common.{rules, ◌≡◌, ◌∷◌, [], List, length, subst, sym}
use Rattle.std.specs.Prelude.{All}
use Rattle.std.specs.List.{AllZip}
use Rattle.std.proofs.lemmas.List.Elements.{All-head, All-tail}
use Rattle.ext_history.proofs.Legal.{legal_empty}
use Rattle.ext_model.specs.History.{IsAllowed}
use Rattle.ext_store.specs.Stores.{StoreLane}
use Rattle.ext_plan_parallel.specs.InnerMeeting.{HasRecalled, Turns}
use Rattle.ext_plan_parallel.proofs.Turning.{none_turn}
use Rattle.ext_plan_parallel.proofs.meeting.turn_all.Goals as goal

pub meet_rest-requires-clause-looked : goal.meet_rest-requires-clause-looked
meet_rest-requires-clause-looked g c =
    let all = subst (λ (l : List (StoreLane g.row.V.Denot)). All HasRecalled l) c.in-Some.ensures.cases.0 c.requires.looked in
    (All-head HasRecalled c.in-Some.first.now c.in-Some.rest.now all, All-tail HasRecalled c.in-Some.first.now c.in-Some.rest.now all)

pub returns-in-Some : goal.returns-in-Some
returns-in-Some g c =
    let st = c.args.store.now in
    let r = c.meet_rest.ensures.turned in
    record {
      turned = (
        r.0,
        r.1,
        r.2,
        subst (λ (l : List (StoreLane g.row.V.Denot)). AllZip (Turns st r.0 r.1) l (c.meet_rest.new.lane ∷ c.meet_rest.new.others)) (sym c.in-Some.ensures.cases.0) (r.3, r.4),
      );
    }

pub returns-in_default : goal.returns-in_default
returns-in_default g c =
    let st = c.args.store.now in
    let none : length c.args.lanes.now ≡ 0 = search rules in
    record { turned = ([], [], legal_empty (IsAllowed st.id.cells.limits), none_turn st [] [] c.args.lanes.now none) }
