use Rattle.std.proofs.Common.{◌≡◌, vec_len, vec_capacity}
use Rattle.ext_tree.proofs.key_places.KeyPlaces.new.Given as goal

abbrev pub invariant-loop : goal.invariant-loop
invariant-loop l = record { length : vec_len l.places ≡ l.counter; room : vec_capacity l.places ≡ l.count }
