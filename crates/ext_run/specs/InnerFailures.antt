-- The faults of each node, gathered before they are listed.
use Rattle.std.specs.Prelude.{ℕ, List, map}
use Rattle.std.specs.List.{flat_map}
use Rattle.ext_ids.specs.Grammar.{Pair}
use Rattle.ext_run.specs.declared.failures.NodeFault.{NodeFault}
use Rattle.ext_run.specs.Failures.{Listing}

abbrev pub nodes_of : List NodeFault → List ℕ
nodes_of faults = map (λ fault. fault.node) faults

-- What is listed of these faults, all of one node.
abbrev pub lines_of : Listing → List Pair → List NodeFault → List ℕ
lines_of line id faults = flat_map (line id) faults
