use Rattle.std.proofs.Common.{rules, ◌≡◌, ◌<◌, ◌≤◌, List, length, sym, subst}
use Rattle.std.specs.Prelude.{All, get_or}
use Rattle.std.proofs.lemmas.List.{take_all}
use Rattle.std.proofs.lemmas.List.Elements.{All-more}
use Rattle.ext_store.specs.Stores.{StoreLane}
use Rattle.ext_plan_parallel.specs.InnerMeeting.{HasRecalled}
use Rattle.ext_plan_parallel.proofs.meeting.tell_proof_of_all.Goals as goal

pub loop-lane-preserved : goal.loop-lane-preserved
loop-lane-preserved g c =
    let one : HasRecalled c.lane-item.result = record { legal = c.tell_proof.ensures.legal; follow = c.tell_proof.ensures.follow } in
    let within : c.loop-lane.lane-index < length c.args.lanes.now = search rules in
    let at : get_or c.args.lanes.now c.loop-lane.lane-index c.lane-item.result ≡ c.lane-item.result = search rules in
    All-more HasRecalled c.args.lanes.now c.loop-lane.lane-index c.lane-item.result within c.loop-lane.invariant (subst HasRecalled (sym at) one)

pub returns : goal.returns
returns g c =
    let all : length c.args.lanes.now ≤ c.loop-lane.lane-index = search rules in
    subst (λ (l : List (StoreLane g.row.V.Denot)). All HasRecalled l) (take_all c.loop-lane.lane-index c.args.lanes.now all) c.loop-lane.invariant
