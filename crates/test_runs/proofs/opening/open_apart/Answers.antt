use Rattle.std.proofs.Common.{rules, ◌≤◌, length}
use Rattle.test_runs.proofs.Spare.{one_less}
use Rattle.test_runs.proofs.opening.open_apart.Goals as goal

pub returns-clause-usable : goal.returns-clause-usable
returns-clause-usable g c =
    let o = c.in-Ok.opened in
    let two : 2 ≤ length o.lanes.items = search rules in
    (one_less o.store o.locks o.lanes.items c.pop.new.self.items c.in_ok-lane.lane o.lock_lanes.items c.pop-2.new.self.items c.in_ok-lock_lane.lock_lane
    c.in-Ok.ensures.usable two c.in_ok-lane.ensures.items c.in_ok-lock_lane.ensures.items).0

pub returns-clause-lane : goal.returns-clause-lane
returns-clause-lane g c =
    let o = c.in-Ok.opened in
    let two : 2 ≤ length o.lanes.items = search rules in
    (one_less o.store o.locks o.lanes.items c.pop.new.self.items c.in_ok-lane.lane o.lock_lanes.items c.pop-2.new.self.items c.in_ok-lock_lane.lock_lane
    c.in-Ok.ensures.usable two c.in_ok-lane.ensures.items c.in_ok-lock_lane.ensures.items).1

pub returns-clause-lock_lane : goal.returns-clause-lock_lane
returns-clause-lock_lane g c =
    let o = c.in-Ok.opened in
    let two : 2 ≤ length o.lanes.items = search rules in
    (one_less o.store o.locks o.lanes.items c.pop.new.self.items c.in_ok-lane.lane o.lock_lanes.items c.pop-2.new.self.items c.in_ok-lock_lane.lock_lane
    c.in-Ok.ensures.usable two c.in_ok-lane.ensures.items c.in_ok-lock_lane.ensures.items).2
