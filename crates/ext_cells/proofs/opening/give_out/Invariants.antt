use Rattle.std.proofs.Common.{◌≡◌, ℕ, ◌+◌}
use Rattle.ext_cells.specs.Lanes.{fresh_lanes}
use Rattle.ext_cells.specs.InnerViews.{limits_of}
use Rattle.ext_cells.proofs.Given.{giver}
use Rattle.ext_cells.proofs.opening.give_out.Given as goal

abbrev pub invariant-loop-number : goal.invariant-loop-number
invariant-loop-number l = record {
  table : l.first.table_id ≡ l.shared.table_id;
  view : l.first.me.0 ≡ giver l.shared.key l.number;
  given : (k : ℕ) × (l.number ≡ k + 1) × (l.others.items ≡ fresh_lanes (record { table = l.shared.table_id; limits = limits_of l.shared.key }) 1 k);
}
