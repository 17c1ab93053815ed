use Rattle.std.proofs.Common.{◌≡◌, vec_len}
use Rattle.ext_races.specs.InnerGroups.{AreEmpty, groups_view}
use Rattle.ext_races.proofs.groups.no_groups.Given as goal

abbrev pub invariant-loop : goal.invariant-loop
invariant-loop l = record { count : vec_len l.groups ≡ l.counter; empty : AreEmpty (groups_view l.groups.items) }
