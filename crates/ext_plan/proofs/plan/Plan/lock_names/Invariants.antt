use Rattle.std.proofs.Common.{◌≡◌, drop}
use Rattle.std.specs.Prelude.{fold, map}
use Rattle.ext_plan.specs.Plans.{nodes_view}
use Rattle.ext_plan.specs.LockNames.{lock_names, named_locks, with_name}
use Rattle.ext_plan.proofs.plan.Plan.lock_names.Given as goal

abbrev pub invariant-loop-node : goal.invariant-loop-node
invariant-loop-node l =
    lock_names (nodes_view l.self.nodes.items) ≡ fold with_name (map (λ n. n.now) l.names.items) (named_locks (nodes_view (drop l.node-index l.self.nodes.items)))
