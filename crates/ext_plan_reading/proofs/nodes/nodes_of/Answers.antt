use Rattle.std.proofs.Common.{◌∙◌, map, sym}
use Rattle.ext_plan.specs.Plans.{nodes_view}
use Rattle.ext_plan.proofs.NodeIds.{ids-map}
use Rattle.ext_plan_reading.specs.InnerSketches.{sketch_view}
use Rattle.ext_plan_reading.proofs.ReadPlans.{ids_are_kept}
use Rattle.ext_plan_reading.proofs.nodes.nodes_of.Goals as goal

pub returns-clause-contexts : goal.returns-clause-contexts
returns-clause-contexts c =
    let kept = ids_are_kept c.args.labels.now (map sketch_view c.args.sketches.now) (nodes_view c.in_ok-nodes.nodes.items) c.in_ok-nodes.ensures.exact in
    c.in_ok-tree.ensures.ids ∙ sym (ids-map c.in_ok-nodes.nodes.items ∙ kept)
