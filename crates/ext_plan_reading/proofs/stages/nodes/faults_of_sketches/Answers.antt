use Rattle.std.proofs.Common.{◌<◌, ◌∙◌, length, map, subst, sym}
use Rattle.std.proofs.lemmas.Result.{IfOk-weaker}
use Rattle.ext_plan_reading.specs.InnerSketches.{sketch_view}
use Rattle.ext_plan_reading.specs.NodeReading.{with_repetitions}
use Rattle.ext_plan_reading.proofs.AllFaults.{too_many}
use Rattle.ext_plan_reading.proofs.stages.nodes.faults_of_sketches.Goals as goal

pub returns-in-Err : goal.returns-in-Err
returns-in-Err c =
    let all = with_repetitions (map sketch_view c.args.sketches.items) in
    IfOk-weaker c.listed.result _ _ (λ found h.
    h.0 ∙ sym (too_many c.args.size c.args.labels.now all c.in-Err.fault (λ other. let why = c.in-Err.ensures.refused other in (why.0, subst (λ most. most < length all) c.contexts.ensures why.1)) h.1)) c.listed.ensures
