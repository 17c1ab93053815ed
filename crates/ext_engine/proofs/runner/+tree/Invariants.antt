use Rattle.std.proofs.Common.{◌≡◌, ◌+◌, ◌*◌, ◌≤◌, ◌++◌, length, map, vec_len}
use Rattle.std.specs.Prelude.{vec_capacity}
use Rattle.std.specs.List.{flat_map}
use Rattle.ext_engine.specs.TreeRun.{setting_of, IsUsable, TreeRun, RanInTurn}
use Rattle.ext_engine.specs.InnerResults.{ran_in}
use Rattle.ext_engine.proofs.runner.+tree.Given as goal

abbrev pub decreases-TreeRunner::run_beside-run : goal.decreases-TreeRunner::run_beside-run
decreases-TreeRunner::run_beside-run g l = 8 * l.depth + 6

abbrev pub decreases-TreeRunner::run_beside : goal.decreases-TreeRunner::run_beside
decreases-TreeRunner::run_beside g l = 8 * l.depth + 7

abbrev pub decreases-TreeRunner::run_in_turn : goal.decreases-TreeRunner::run_in_turn
decreases-TreeRunner::run_in_turn g l = 8 * l.depth + 7

abbrev pub decreases-TreeRunner::run_body : goal.decreases-TreeRunner::run_body
decreases-TreeRunner::run_body g l = 8 * l.depth + 8

abbrev pub decreases-TreeRunner::run_node : goal.decreases-TreeRunner::run_node
decreases-TreeRunner::run_node g l = 8 * l.depth + 5

abbrev pub invariant-TreeRunner::run_in_turn-loop-item : goal.invariant-TreeRunner::run_in_turn-loop-item
invariant-TreeRunner::run_in_turn-loop-item g l = record {
  can : (goal.iterator-TreeRunner::run_in_turn-loop-item g).can_next l.item-iterator;
  finite : (goal.iterator-TreeRunner::run_in_turn-loop-item g).is_finite l.item-iterator;
  items : l.yielded ++ l.item-iterator.rest.items ≡ l.fn.items.items;
  lanes : IsUsable l.self.nodes.store.now l.self.nodes.locks.now (record { first = l.lanes; second = l.lock_lanes });
  count : length l.lanes ≡ length l.fn.lanes;
  run : RanInTurn (TreeRun (setting_of g.V.StoreValue.is_closeable g.S.Suite.suite_view g.S.Suite.enabled_gives g.S.Callbacks.registered g.S.Suite.call_gives g.S.Suite.action_gives g.S.Action.CloseAction.close_gives l.self.nodes.suite.now l.self.nodes.store.now l.self.nodes.locks.now) l.depth) (map (λ i. i.node) l.yielded)
      (record { first = l.fn.lanes; second = l.fn.lock_lanes }) (flat_map ran_in l.outcomes.items) (record { first = l.lanes; second = l.lock_lanes });
  given : length l.outcomes.items ≡ length l.yielded;
  room : vec_len l.fn.items ≤ vec_capacity l.outcomes;
}
