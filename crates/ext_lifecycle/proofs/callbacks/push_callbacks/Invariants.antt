use Rattle.std.proofs.Common.{◌≡◌, ◌≤◌, ◌+◌, ◌++◌, vec_len}
use Rattle.std.specs.Prelude.{map}
use Rattle.std.specs.List.{range_with_len}
use Rattle.ext_lifecycle.proofs.CallLists.{callback}
use Rattle.ext_lifecycle.proofs.callbacks.push_callbacks.Given as goal

abbrev pub invariant-loop-index : goal.invariant-loop-index
invariant-loop-index g l = record {
  added : l.calls.items ≡ l.fn.calls.items ++ map (callback l.kind l.node) (range_with_len 0 l.index);
  few : vec_len l.calls ≤ vec_len l.fn.calls + l.index;
}
