use Rattle.std.proofs.Common.{map, string_bytes}
use Rattle.ext_locks.proofs.Merged.{MergedBelow}
use Rattle.ext_locks.proofs.merging.merge_requests.Given as goal

abbrev pub invariant-loop-at : goal.invariant-loop-at
invariant-loop-at l = MergedBelow (map string_bytes l.names) l.requests l.modes l.at
