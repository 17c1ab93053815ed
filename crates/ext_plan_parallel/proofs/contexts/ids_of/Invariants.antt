use Rattle.std.proofs.Common.{◌≡◌, ◌++◌, drop, map}
use Rattle.ext_plan_parallel.proofs.contexts.ids_of.Given as goal

abbrev pub invariant-loop-node : goal.invariant-loop-node
invariant-loop-node l = l.ids.items ++ map (λ n. n.id) (drop l.node-index l.nodes) ≡ map (λ n. n.id) l.nodes
