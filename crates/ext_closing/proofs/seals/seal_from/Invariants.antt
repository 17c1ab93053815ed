use Rattle.std.proofs.Common.{◌≡◌, ◌≤◌, ◌+◌, ◌-◌, ◌*◌, [], length}
use Rattle.ext_cells.specs.Lanes.{Lane}
use Rattle.ext_store.specs.Stores.{IsLaneOf, StillKeeps}
use Rattle.ext_closing.specs.InnerSteps.{BlockBegun, BlocksDone, SealsOn}
use Rattle.ext_closing.proofs.seals.seal_from.Given as goal

abbrev pub invariant-loop-block : goal.invariant-loop-block
invariant-loop-block g l = record {
  so_far : SealsOn l.store l.closer.context (l.fn.marked.block * 32) (l.block * 32) l.fn.lane.cells l.lane.cells [] l.numbers;
  done : (before : Lane) → BlockBegun l.store l.closer.context l.fn.marked.block l.fn.marked.marks before l.fn.lane.cells → BlocksDone l.store l.closer.context l.block before l.lane.cells;
  past : l.fn.marked.block + 1 ≤ l.block;
  within : l.block * 32 ≤ length l.store.id.keys;
  few : length l.numbers ≤ l.block * 32;
  steps : length l.lane.cells.view.fronts ≤ length l.fn.lane.cells.view.fronts + (l.block * (32 * (l.store.tries + 1)) + (l.block - (l.fn.marked.block + 1)));
  known : l.lane.known ≡ l.fn.lane.known;
  faults : l.lane.faults ≡ l.fn.lane.faults;
  keys : l.lane.keys ≡ l.fn.lane.keys;
  lane : IsLaneOf l.store.id l.lane;
  kept : StillKeeps l.fn.lane l.lane;
}
