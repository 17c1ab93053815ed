use Rattle.std.proofs.Common.{◌∙◌, ap, subst}
use Rattle.std.specs.List.{flat_map}
use Rattle.ext_report.specs.Slow.{AreSlowestFirst, slow_line}
use Rattle.ext_report.proofs.Slowest.{shown-in_tree}
use Rattle.ext_report.proofs.slow.slowest_tests.Goals as goal

pub lines_of-requires : goal.lines_of-requires
lines_of-requires c = record {
  in_tree =
      shown-in_tree _ c.args.extras.now c.args.results.now c.in_ok-slow.slow.items c.sort_slowest_first.new.timed.items c.truncate.new.self.items c.as_slice.result.now c.args.most c.requires.in_tree c.in_ok-slow.ensures
      c.in_ok-sort_slowest_first.ensures.same c.truncate.ensures.items c.as_slice.ensures.value;
}

pub returns : goal.returns
returns c =
    let slow = c.sort_slowest_first.new.timed.items in
    let order = subst (λ timed. AreSlowestFirst timed slow) c.in_ok-slow.ensures c.in_ok-sort_slowest_first.ensures in
    (slow, order, c.in_ok-text.ensures ∙ ap (flat_map (slow_line c.args.tree.now)) (c.as_slice.ensures.value ∙ c.truncate.ensures.items))
