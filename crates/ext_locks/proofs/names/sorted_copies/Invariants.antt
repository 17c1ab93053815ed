use Rattle.std.proofs.Common.{◌≡◌, take, map, length, vec_len, vec_capacity, string_bytes}
use Rattle.ext_locks.specs.Names.{texts_of}
use Rattle.ext_locks.proofs.names.sorted_copies.Given as goal

abbrev pub invariant-loop-name : goal.invariant-loop-name
invariant-loop-name l = (vec_len l.copies ≡ l.name-index) × (vec_capacity l.copies ≡ length l.names) × (map string_bytes l.copies.items ≡ take l.name-index (texts_of l.names))
