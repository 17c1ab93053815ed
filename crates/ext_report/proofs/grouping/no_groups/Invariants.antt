use Rattle.std.proofs.Common.{◌≡◌, vec_len}
use Rattle.ext_report.specs.InnerPutting.{AreEmpty}
use Rattle.ext_report.proofs.grouping.no_groups.Given as goal

abbrev pub invariant-loop : goal.invariant-loop
invariant-loop g l = record { count : vec_len l.groups ≡ l.counter; empty : AreEmpty l.groups.items }
