use Rattle.std.proofs.Common.{◌≡◌, drop}
use Rattle.std.specs.Prelude.{fold}
use Rattle.ext_plan.specs.Plans.{nodes_view}
use Rattle.ext_plan.specs.LockNames.{lock_names, named_locks, with_name}
use Rattle.ext_plan_reading.proofs.locks.locks_are_few.Given as goal

abbrev pub invariant-loop-node : goal.invariant-loop-node
invariant-loop-node l = lock_names (nodes_view l.nodes) ≡ fold with_name l.names (named_locks (nodes_view (drop l.node-index l.nodes)))
