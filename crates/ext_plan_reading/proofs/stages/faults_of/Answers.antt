use Rattle.std.proofs.Common.{sym, ◌∙◌}
use Rattle.std.proofs.lemmas.Result.{IfOk-weaker}
use Rattle.ext_plan_reading.specs.AllFaults.{faults_of, faults_of_tables}
use Rattle.ext_plan_reading.proofs.AllFaults.{ends, goes_on}
use Rattle.ext_plan_reading.proofs.stages.faults_of.Goals as goal

pub returns-in-Ok : goal.returns-in-Ok
unfolding faults_of
returns-in-Ok c = IfOk-weaker c.faults_of_tables.result _ _ (λ found is. is ∙ sym (goes_on _ _ (faults_of_tables c.args.size) c.in-Ok.ensures.exact)) c.faults_of_tables.ensures

pub returns-in-Err : goal.returns-in-Err
unfolding faults_of
returns-in-Err c = IfOk-weaker c.listed.result _ _ (λ found h. h.0 ∙ sym (ends c.in-Err.fault _ (faults_of_tables c.args.size) h.1 c.in-Err.ensures.exact)) c.listed.ensures
