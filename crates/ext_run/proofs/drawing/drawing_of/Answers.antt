use Rattle.std.proofs.Common.{◌≡◌, ◌∙◌, IfOk, ap, string_bytes, subst}
use Rattle.std.specs.List.{flat_map, slice_get}
use Rattle.ext_plan_reading.specs.Plans.{nodes_view}
use Rattle.ext_report.specs.TreeLines.{depth_first}
use Rattle.ext_run.specs.Drawings.{node_line}
use Rattle.ext_run.proofs.drawing.drawing_of.Goals as goal

pub returns : goal.returns
returns c =
    let order = c.as_slice-2.ensures.value ∙ c.in_ok-order.ensures.order ∙ ap depth_first c.tree.ensures in
    subst (λ order. IfOk c.drawing_in.result (λ text. string_bytes text ≡ flat_map (λ context. node_line (slice_get (nodes_view c.args.plan.now.nodes.items) context)) order)) order
    (subst (λ nodes. IfOk c.drawing_in.result (λ text. string_bytes text ≡ flat_map (λ context. node_line (slice_get (nodes_view nodes) context)) c.as_slice-2.result.now)) c.as_slice.ensures.value c.drawing_in.ensures)
