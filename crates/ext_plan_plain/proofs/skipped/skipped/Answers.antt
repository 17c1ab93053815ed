use Rattle.std.proofs.Common.{◌≡◌, ◌∙◌, is_some, ap, sym, arith, append_assoc}
use Rattle.std.specs.Prelude.{option_map}
use Rattle.ext_plan.specs.Plans.{node_view, steps_view}
use Rattle.ext_plan.proofs.Lists.{map-push, map-drop}
use Rattle.ext_lifecycle.specs.Results.{skipped_result, map_fault}
use Rattle.ext_lifecycle.specs.FaultTexts.{fault_text, result_view}
use Rattle.ext_plan_plain.proofs.Outcomes.{is_some-map}
use Rattle.ext_plan_plain.proofs.skipped.skipped.Goals as goal

pub loop-at-preserved : goal.loop-at-preserved
loop-at-preserved c =
    let node = c.index-nodes-at.result in
    let more = map-drop node_view c.args.nodes.now c.loop-at.at node (omega arith) c.index-nodes-at.is in
    let test : c.is_some.result ≡ is_some (option_map steps_view node.test) = c.is_some.ensures ∙ sym (is_some-map steps_view node.test) in
    let before = rw more at c.loop-at.invariant in
    let shown : result_view c.skipped.result ≡ skipped_result c.loop-at.at (is_some (option_map steps_view node.test)) = ap (map_fault fault_text) c.skipped.ensures ∙ ap (skipped_result c.loop-at.at) test in
    rw (c.in_ok-push.ensures.items, map-push, append_assoc, shown) before
