use Rattle.std.proofs.Common.{sym, subst}
use Rattle.std.proofs.lemmas.Result.{IfOk-weaker}
use Rattle.ext_plan_reading.specs.AllFaults.{BeginAs}
use Rattle.ext_plan_reading.specs.Reading.{plan_of_text}
use Rattle.ext_plan_reading.proofs.AllFaults.{text_begins}
use Rattle.ext_plan_reading.proofs.stages.all_faults.Goals as goal

pub returns-clause-first : goal.returns-clause-first
returns-clause-first c =
    let read = plan_of_text c.args.size c.args.text.now in
    IfOk-weaker c.faults_in.result _ _ (λ found is. subst (λ l. BeginAs read l) (sym is) (text_begins c.args.size c.args.text.now)) c.faults_in.ensures
