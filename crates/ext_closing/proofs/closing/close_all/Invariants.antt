use Rattle.std.proofs.Common.{◌≡◌, ◌≤◌, take}
use Rattle.ext_closing.specs.Closing.{ClosesNumbers}
use Rattle.ext_closing.proofs.closing.close_all.Given as goal

abbrev pub invariant-loop-number : goal.invariant-loop-number
invariant-loop-number g l = record {
  lanes : l.lanes ≡ l.fn.lanes;
  closes : ClosesNumbers g.V.StoreValue.is_closeable g.A.CloseAction.close_gives l.fn.lanes (take l.number-index l.numbers) l.fn.action l.action l.closed;
  few : l.closed.closed ≤ l.number-index;
  fewer : l.closed.more_faults ≤ l.closed.closed;
}
