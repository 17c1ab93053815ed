use Rattle.std.proofs.Common.{ap, subst, sym}
use Rattle.std.specs.Prelude.{IfErr, IfOk}
use Rattle.extrun.specs.Tasks.{AppendsFor, IsDone, IsOneDone, IsUndoneRequest}
use Rattle.extrun.proofs.Outcomes.{plan-done, plan-one_done, plan-undone}
use Rattle.extrun.proofs.plans.outcome_of_plan.Goals as goal

pub returns-clause-done : goal.returns-clause-done
returns-clause-done g c =
    let contents = g.W.Write.contents in
    let task = c.args.task in
    let input = c.args.input.now in
    let old = contents c.args.writer.now in
    let new = contents c.write_time.new.writer in
    subst (λ told. IfOk told (λ summary. IsDone task input summary (AppendsFor task old new))) (sym c.printed_done.ensures)
    (plan-done task input old (contents c.outcome_of_task-done.new.writer) new (λ others. ap contents (c.write_time.ensures others)) c.outcome_of_task-done.result c.outcome_of_task-done.ensures.done)

pub returns-clause-one_report : goal.returns-clause-one_report
returns-clause-one_report g c =
    let contents = g.W.Write.contents in
    let task = c.args.task in
    let input = c.args.input.now in
    let old = contents c.args.writer.now in
    let new = contents c.write_time.new.writer in
    subst (λ told. IfOk told (λ summary. IsOneDone task input summary (AppendsFor task old new))) (sym c.printed_done.ensures)
    (plan-one_done task input old (contents c.outcome_of_task-done.new.writer) new (λ others. ap contents (c.write_time.ensures others)) c.outcome_of_task-done.result c.outcome_of_task-done.ensures.one_report)

pub returns-clause-refused : goal.returns-clause-refused
returns-clause-refused g c =
    subst (λ told. IfErr told (λ fault. IsUndoneRequest c.args.task c.args.input.now fault)) (sym c.printed_done.ensures)
    (plan-undone c.args.task c.args.input.now c.outcome_of_task-done.result c.outcome_of_task-done.ensures.refused)
