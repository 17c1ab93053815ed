use Rattle.std.proofs.Common.{rules, ◌≡◌, ◌∷◌, List, arith, length, refl, subst, sym}
use Rattle.std.specs.Prelude.{All}
use Rattle.std.specs.List.{AllZip}
use Rattle.ext_history.specs.Histories.{seen_by}
use Rattle.ext_store.specs.Stores.{StoreLane, IsLaneOf}
use Rattle.ext_engine.specs.Meeting.{HasSeenWithin, OnlyMeets}
use Rattle.ext_engine.proofs.Meets.{met_nobody, met_once, met_then, none_met, none_placed, saw_more}
use Rattle.ext_engine.proofs.meeting.+see_rest.Goals as goal

pub returns-in-Some-clause-met : goal.returns-in-Some-clause-met
returns-in-Some-clause-met g t c =
    let st = c.args.store.now in
    let next : IsLaneOf st.id c.in-Some.next.now = search rules in
    let all : AllZip (OnlyMeets st) (c.in-Some.next.now ∷ c.in-Some.more.now) (c.meet.new.first ∷ c.see_rest.new.others) =
    (met_once st c.in-Some.next.now c.meet.new.first next c.meet.ensures.first_lane c.meet.ensures.first_call c.meet.ensures.known.0 c.meet.ensures.faults.0 c.meet.ensures.first_frame (none_placed st c.in-Some.next.now c.meet.new.first c.meet.ensures.first_keys), c.see_rest.ensures.met.1) in (
      met_then st c.args.first.now c.meet.new.second c.see_rest.new.first (met_once st c.args.first.now c.meet.new.second c.requires.first c.meet.ensures.second_lane c.meet.ensures.second_call c.meet.ensures.known.1 c.meet.ensures.faults.1 c.meet.ensures.second_frame c.meet.ensures.placed) c.see_rest.ensures.met.0,
      subst (λ (l : List (StoreLane g.row.V.Denot)). AllZip (OnlyMeets st) l (c.meet.new.first ∷ c.see_rest.new.others)) (sym c.in-Some.ensures.cases.0) all,
    )

pub returns-in-Some-clause-shown : goal.returns-in-Some-clause-shown
returns-in-Some-clause-shown g t c =
    let st = c.args.store.now in
    let next : IsLaneOf st.id c.in-Some.next.now = search rules in
    subst (λ (l : List (StoreLane g.row.V.Denot)). All (HasSeenWithin (seen_by c.see_rest.new.first.cells.view)) l) (sym c.in-Some.ensures.cases.0)
    (saw_more st c.args.first.now c.meet.new.second c.see_rest.new.first c.in-Some.next.now c.meet.new.first c.in-Some.more.now
    (met_once st c.in-Some.next.now c.meet.new.first next c.meet.ensures.first_lane c.meet.ensures.first_call c.meet.ensures.known.0 c.meet.ensures.faults.0 c.meet.ensures.first_frame (none_placed st c.in-Some.next.now c.meet.new.first c.meet.ensures.first_keys)) c.meet.ensures.met c.see_rest.ensures.met.0 c.see_rest.ensures.shown)

pub returns-in_default-clause-met : goal.returns-in_default-clause-met
returns-in_default-clause-met g t c =
    let st = c.args.store.now in
    let none : length c.args.others.now ≡ 0 = search rules in
    (met_nobody st c.args.first.now c.requires.first, none_met st c.args.others.now c.args.others.now none refl)

pub returns-in_default-clause-shown : goal.returns-in_default-clause-shown
returns-in_default-clause-shown g t c =
    let none : length c.args.others.now ≡ 0 = search rules in
    λ i d less. absurd (omega (arith, less, none))
