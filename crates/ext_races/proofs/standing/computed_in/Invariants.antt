use Rattle.std.proofs.Common.{◌≡◌, drop}
use Rattle.ext_races.specs.InnerStanding.{computed_in, computes_view}
use Rattle.ext_races.proofs.standing.computed_in.Given as goal

abbrev pub invariant-loop-node : goal.invariant-loop-node
invariant-loop-node l = computed_in (computes_view l.lists) l.key l.nodes ≡ computed_in (computes_view l.lists) l.key (drop l.node-index l.nodes)
