use Rattle.ext_plan_parallel.proofs.Turning.{numbered, shared, turns_mine}
use Rattle.ext_plan_parallel.proofs.meeting.meet_all.Goals as goal

pub agree_all-requires : goal.agree_all-requires
agree_all-requires g c =
    let r = c.turn_all.ensures.turned in
    record { lanes = turns_mine c.args.store.now r.0 r.1 c.args.lanes.now c.turn_all.new.lanes r.3 }

pub returns : goal.returns
returns g c =
    let r = c.turn_all.ensures.turned in
    record {
      shared = shared c.args.store.now r.0 r.1 c.args.lanes.now c.turn_all.new.lanes r.2 c.tell_proof_of_all.ensures r.3 c.agree_all.ensures.agree c.agree_all.ensures.agree_faults;
      numbered = numbered c.args.store.now r.0 r.1 c.args.lanes.now c.turn_all.new.lanes r.3;
    }
