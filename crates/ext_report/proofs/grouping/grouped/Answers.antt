use Rattle.std.proofs.Common.{arith, refl}
use Rattle.ext_report.proofs.Groupings.{grouped_all, grouped_more, grouped_none}
use Rattle.ext_report.proofs.grouping.grouped.Goals as goal

pub loop-i-init : goal.loop-i-init
loop-i-init g c = record {
  count = c.in_ok-groups.ensures.count;
  groups = grouped_none c.args.count c.args.numbers.now c.args.items.now c.in_ok-groups.groups.items c.in_ok-groups.ensures.empty;
}

pub loop-i-preserved : goal.loop-i-preserved
loop-i-preserved g c =
    let so_far = c.loop-i.invariant in
    let ok = c.loop-i.groups.ok in
    let count = so_far.count in
    record {
      count = omega (arith, c.in_ok-put.ensures.count, count);
      groups = grouped_more c.args.count c.args.numbers.now c.args.items.now c.loop-i.groups.items c.put.new.groups.items c.loop-i.i _ _ (omega (arith, ok, count)) (omega arith) (omega arith) refl c.index-items-i.is so_far.groups
          c.in_ok-put.ensures.put;
    }

pub returns-clause-groups : goal.returns-clause-groups
returns-clause-groups g c =
    let past = c.loop-i-test.false in
    grouped_all c.args.count c.args.numbers.now c.args.items.now c.loop-i.groups.items c.loop-i.i c.requires (omega (arith, past)) c.loop-i.invariant.groups
