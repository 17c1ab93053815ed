use Rattle.std.proofs.Common.{arith}
use Rattle.ext_report.proofs.Groupings.{empty_pushed}
use Rattle.ext_report.proofs.grouping.no_groups.Goals as goal

pub loop-preserved : goal.loop-preserved
loop-preserved g c = record {
  count = omega (arith, c.loop.invariant.count, c.in_ok-push.ensures.len);
  empty = empty_pushed c.loop.groups.items c.push.new.self.items c.new.result c.loop.invariant.empty c.new.ensures.items c.in_ok-push.ensures.items;
}
