use Rattle.std.proofs.Common.{◌≡◌, take, vec_len}
use Rattle.ext_report.specs.Groups.{AreGrouped}
use Rattle.ext_report.proofs.grouping.grouped.Given as goal

abbrev pub invariant-loop-i : goal.invariant-loop-i
invariant-loop-i g l = record {
  count : vec_len l.groups ≡ l.count;
  groups : AreGrouped l.count (take l.i l.numbers) (take l.i l.items) l.groups.items;
}
