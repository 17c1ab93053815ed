use Rattle.std.proofs.Common.{◌<◌, ◌∙◌, length, arith, length-set, true}
use Rattle.std.specs.Prelude.{Some, slice_set}
use Rattle.ext_store.specs.Stores.{StoreLane}
use Rattle.ext_lifecycle.specs.declared.call.Call.{Call}
use Rattle.ext_lifecycle.specs.declared.outcome.Outcome.{Outcome}
use Rattle.ext_lifecycle.specs.Callbacks.{befores_of, afters_of, test_call}
use Rattle.ext_engine.specs.NodeRun.{TakesSet, GivesBack}
use Rattle.ext_engine.proofs.Firsts.{on-first, calls-on, same-told, still_usable}
use Rattle.ext_engine.proofs.node.node_runner.NodeRunner.run_locked.Goals as goal

pub returns-in-Ok : goal.returns-in-Ok
returns-in-Ok g c =
    let r = c.args.self.now in
    let st = r.store.now in let lk = r.locks.now in
    let registered = g.S.Callbacks.registered r.suite.now in
    let node = c.args.node in
    let parts = c.requires.parts in
    let bs = c.as_slice.ensures.value ∙ parts.befores_are in
    let as_ = c.as_slice-2.ensures.value ∙ parts.afters_are in
    let m = c.call_test-tally.ensures.calls in
    let closed = c.in-Ok.ensures.closes in
    let held = c.take_locks-held.result in
    let locked = slice_set c.args.lock_lanes.now 0 c.take_locks-held.new.lane in
    let some_locks : 0 < length c.args.lock_lanes.now = omega (arith, c.requires.lanes.some, c.requires.lanes.same) in
    let still_some : 0 < length locked = (let e = length-set c.args.lock_lanes.now 0 c.take_locks-held.new.lane in omega (arith, e, some_locks)) in
    let makes : StoreLane g.row.V.Denot → Call → Outcome → StoreLane g.row.V.Denot → Type 0 = λ a call o b. g.S.Suite.call_gives r.suite.now st node call (Some held) a o b in
    let count = c.close_node-closed.ensures.count ∙ length-set c.args.lanes.now 0 c.call_test-tally.new.lane in
    record {
      lanes = still_usable st lk _ c.close_node-closed.new.lanes c.take_locks-held.new.lane c.give_locks.new.lane c.requires.lanes count c.close_node-closed.ensures.own_lanes c.give_locks.ensures.idle;
      count = count;
      run = (
        parts.path,
        parts.path_is,
        record {
          set = c.args.parts.now.set;
          set_is = parts.set_is;
          held = held;
          locked = locked;
          takes = on-first (λ a b. TakesSet lk c.args.parts.now.set a held b) c.args.lock_lanes.now _ _ some_locks c.take_locks-held.ensures.takes;
          outcomes = m.0;
          called = slice_set c.args.lanes.now 0 c.call_test-tally.new.lane;
          calls = calls-on makes c.args.lanes.now _ _ (befores_of registered true node parts.path) (test_call node) (afters_of registered true node parts.path) m.0 bs as_ c.requires.lanes.some m.1;
          faults = closed.0;
          closes = closed.1;
          given_back = on-first (GivesBack held) locked _ _ still_some c.give_locks.ensures.gives;
          ran_is = same-told _ _ (c.result-ended.ensures m.0 closed.0 m.2 closed.2);
        },
      );
      early = tt;
    }

pub returns-in-Err : goal.returns-in-Err
returns-in-Err g c =
    let r = c.args.self.now in
    let st = r.store.now in let lk = r.locks.now in
    let registered = g.S.Callbacks.registered r.suite.now in
    let node = c.args.node in
    let parts = c.requires.parts in
    let bs = c.as_slice.ensures.value ∙ parts.befores_are in
    let as_ = c.as_slice-2.ensures.value ∙ parts.afters_are in
    let m = c.call_test-tally.ensures.calls in
    let held = c.take_locks-held.result in
    let locked = slice_set c.args.lock_lanes.now 0 c.take_locks-held.new.lane in
    let some_locks : 0 < length c.args.lock_lanes.now = omega (arith, c.requires.lanes.some, c.requires.lanes.same) in
    let still_some : 0 < length locked = (let e = length-set c.args.lock_lanes.now 0 c.take_locks-held.new.lane in omega (arith, e, some_locks)) in
    let makes : StoreLane g.row.V.Denot → Call → Outcome → StoreLane g.row.V.Denot → Type 0 = λ a call o b. g.S.Suite.call_gives r.suite.now st node call (Some held) a o b in
    let count = c.close_node-closed.ensures.count ∙ length-set c.args.lanes.now 0 c.call_test-tally.new.lane in
    record {
      lanes = still_usable st lk _ c.close_node-closed.new.lanes c.take_locks-held.new.lane c.give_locks.new.lane c.requires.lanes count c.close_node-closed.ensures.own_lanes c.give_locks.ensures.idle;
      count = count;
      run = tt;
      early = (
        parts.path,
        parts.path_is,
        record {
          set = c.args.parts.now.set;
          set_is = parts.set_is;
          held = held;
          locked = locked;
          takes = on-first (λ a b. TakesSet lk c.args.parts.now.set a held b) c.args.lock_lanes.now _ _ some_locks c.take_locks-held.ensures.takes;
          outcomes = m.0;
          called = slice_set c.args.lanes.now 0 c.call_test-tally.new.lane;
          calls = calls-on makes c.args.lanes.now _ _ (befores_of registered true node parts.path) (test_call node) (afters_of registered true node parts.path) m.0 bs as_ c.requires.lanes.some m.1;
          left_open = c.in-Err.ensures.unjoined;
          given_back = on-first (GivesBack held) locked _ _ still_some c.give_locks.ensures.gives;
        },
      );
    }
