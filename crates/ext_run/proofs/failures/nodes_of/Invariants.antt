use Rattle.std.proofs.Common.{◌≡◌, take}
use Rattle.ext_run.specs.InnerFailures.{nodes_of}
use Rattle.ext_run.proofs.failures.nodes_of.Given as goal

abbrev pub invariant-loop-fault : goal.invariant-loop-fault
invariant-loop-fault l = l.nodes.items ≡ nodes_of (take l.fault-index l.faults)
