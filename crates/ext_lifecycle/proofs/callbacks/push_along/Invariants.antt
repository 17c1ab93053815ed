use Rattle.std.proofs.Common.{◌≡◌, ◌≤◌, ◌+◌, ◌*◌, ◌++◌, length, take, vec_len}
use Rattle.std.specs.Prelude.{reverse}
use Rattle.std.specs.List.{flat_map}
use Rattle.ext_lifecycle.specs.Callbacks.{callbacks}
use Rattle.ext_lifecycle.proofs.callbacks.push_along.Given as goal

abbrev pub invariant-loop-node : goal.invariant-loop-node
invariant-loop-node g l = record {
  added : l.calls.items ≡ l.fn.calls.items ++ flat_map (callbacks (g.S.Callbacks.registered l.suite) l.kind) (take (length l.yielded) (reverse l.path));
  few : vec_len l.calls ≤ vec_len l.fn.calls + length l.yielded * 1048576;
}
