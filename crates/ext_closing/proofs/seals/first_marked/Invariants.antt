use Rattle.std.proofs.Common.{◌≡◌, ◌≤◌, ◌+◌, ◌*◌, [], length}
use Rattle.ext_store.specs.Stores.{IsLaneOf, StillKeeps}
use Rattle.ext_closing.specs.InnerSteps.{BlocksDone, SealedSoFar}
use Rattle.ext_closing.proofs.seals.first_marked.Given as goal

abbrev pub invariant-loop-block : goal.invariant-loop-block
invariant-loop-block g l = record {
  so_far : SealedSoFar l.store l.closer.context (l.block * 32) l.fn.lane.cells l.lane.cells [];
  done : BlocksDone l.store l.closer.context l.block l.fn.lane.cells l.lane.cells;
  steps : length l.lane.cells.view.fronts ≤ length l.fn.lane.cells.view.fronts + l.block;
  known : l.lane.known ≡ l.fn.lane.known;
  faults : l.lane.faults ≡ l.fn.lane.faults;
  keys : l.lane.keys ≡ l.fn.lane.keys;
  lane : IsLaneOf l.store.id l.lane;
  kept : StillKeeps l.fn.lane l.lane;
}
