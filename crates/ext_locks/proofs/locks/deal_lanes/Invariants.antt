use Rattle.std.proofs.Common.{◌≡◌, Some, vec_len, vec_capacity}
use Rattle.ext_locks.specs.Opening.{fresh_lanes}
use Rattle.ext_locks.proofs.locks.deal_lanes.Given as goal

abbrev pub invariant-loop-number : goal.invariant-loop-number
invariant-loop-number l =
    (l.dealer.table_id ≡ l.words.table_id)
    × (l.dealer.me.0.next ≡ Some l.number)
    × (l.dealer.me.0.lanes ≡ l.lanes)
    × (vec_len l.made ≡ l.number)
    × (vec_capacity l.made ≡ l.lanes)
    × (l.made.items ≡ fresh_lanes l.words.table_id l.lanes l.number)
