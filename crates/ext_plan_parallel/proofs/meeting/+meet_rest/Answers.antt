use Rattle.std.proofs.Common.{rules, ◌≡◌, ◌∷◌, [], List, length, subst, sym}
use Rattle.std.specs.List.{AllZip}
use Rattle.ext_history.specs.Histories.{seen_by}
use Rattle.ext_tree.specs.Keys.{KeepsKeys}
use Rattle.ext_store.proofs.Numbered.{frame_keys}
use Rattle.ext_store.specs.Stores.{StoreLane, IsLaneOf}
use Rattle.ext_plan_parallel.specs.InnerMeeting.{Turns}
use Rattle.ext_plan_parallel.proofs.Turning.{none_turn, turns_last, turns_lane, turns_next, legal_here}
use Rattle.ext_plan_parallel.proofs.meeting.+meet_rest.Goals as goal

pub returns-in-Some : goal.returns-in-Some
returns-in-Some g t c =
    let st = c.args.store.now in
    let next : IsLaneOf st.id c.in-Some.next.now = search rules in
    let r = c.meet_rest.ensures.turned in
    let h = r.0 in let k = r.1 in
    let kept : KeepsKeys c.in-Some.next.now.keys c.meet.new.second.keys = frame_keys st.id [] c.in-Some.next.now c.meet.new.second c.meet.ensures.second_frame in
    let all : AllZip (Turns st h k) (c.in-Some.next.now ∷ c.in-Some.more.now) (c.meet-in-Some.new.first ∷ c.meet_rest.new.others) =
    (turns_next st h k c.in-Some.next.now c.meet.new.second c.meet_rest.new.lane c.meet-in-Some.new.first next c.meet-in-Some.ensures.first_lane c.meet.ensures.second_call r.3 c.meet-in-Some.ensures.first_call c.meet.ensures.known.1 c.meet-in-Some.ensures.known.0 c.meet.ensures.faults.1 c.meet-in-Some.ensures.faults.0 kept, r.4) in
    record {
      turned = (
        h,
        k,
        r.2,
        turns_lane st h k c.args.lane.now c.meet.new.first c.meet-in-Some.new.second c.meet.new.second c.meet_rest.new.lane c.meet-in-Some.new.first c.requires.lane c.meet.ensures.first_lane c.meet-in-Some.ensures.second_lane
            c.meet.ensures.first_call c.meet.ensures.met r.3 r.3.lane c.meet-in-Some.ensures.first_call c.meet-in-Some.ensures.met c.meet-in-Some.ensures.second_call c.meet.ensures.known.0 c.meet-in-Some.ensures.known.1 c.meet.ensures.faults.0 c.meet-in-Some.ensures.faults.1 c.meet.ensures.taught,
        subst (λ (l : List (StoreLane g.row.V.Denot)). AllZip (Turns st h k) l (c.meet-in-Some.new.first ∷ c.meet_rest.new.others)) (sym c.in-Some.ensures.cases.0) all,
      );
    }

pub returns-in_default : goal.returns-in_default
returns-in_default g t c =
    let st = c.args.store.now in
    let lane = c.args.lane.now in
    let none : length c.args.others.now ≡ 0 = search rules in
    record {
      turned = (
        seen_by lane.cells.view,
        lane.keys,
        legal_here st lane c.requires.lane c.requires.looked.0,
        turns_last st lane c.requires.lane,
        none_turn st (seen_by lane.cells.view) lane.keys c.args.others.now none,
      );
    }
