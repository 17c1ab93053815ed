use Rattle.std.proofs.Common.{None, map, sym, ◌∙◌}
use Rattle.std.proofs.lemmas.Result.{IfOk-weaker}
use Rattle.ext_plan_reading.specs.AllFaults.{faults_of_nodes, node_faults}
use Rattle.ext_plan_reading.specs.InnerSketches.{sketch_view}
use Rattle.ext_plan_reading.proofs.AllFaults.{ends, goes_on}
use Rattle.ext_plan_reading.proofs.stages.nodes.faults_of_nodes.Goals as goal

pub returns-in-Ok : goal.returns-in-Ok
unfolding faults_of_nodes
returns-in-Ok c =
    let all = map sketch_view c.args.all.now in
    IfOk-weaker c.node_faults.result _ _ (λ found is. is ∙ sym (goes_on _ _ (λ _. node_faults c.args.labels.now all None 0 all) c.in-Ok.ensures.exact)) c.node_faults.ensures

pub returns-in-Err : goal.returns-in-Err
unfolding faults_of_nodes
returns-in-Err c =
    let all = map sketch_view c.args.all.now in
    IfOk-weaker c.listed.result _ _ (λ found h. h.0 ∙ sym (ends c.in-Err.fault _ (λ _. node_faults c.args.labels.now all None 0 all) h.1 c.in-Err.ensures.exact)) c.listed.ensures
