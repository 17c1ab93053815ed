use Rattle.std.proofs.Common.{◌++◌, ◌∙◌, ap, arith, string_bytes, sym, take}
use Rattle.ext_report.specs.Groups.{shown}
use Rattle.ext_report.proofs.Lines.{joined}
use Rattle.ext_run.specs.FailureForms.{line_in}
use Rattle.ext_run.specs.InnerFailures.{lines_of}
use Rattle.ext_run.proofs.FaultGroups.{lines_more}
use Rattle.ext_run.proofs.failures.write_failures.Goals as goal

pub loop-fault-preserved : goal.loop-fault-preserved
loop-fault-preserved c =
    let line = line_in c.args.form c.args.tree.now in
    let id = c.args.id.now in
    let refs = c.args.faults.now in
    let at = c.loop-fault.fault-index in
    let ref = c.fault-item.result in
    joined (string_bytes c.args.text.now) (string_bytes c.loop-fault.text) _ (lines_of line id (shown (take at refs))) (line id ref.now) c.loop-fault.invariant c.in_ok-write_in_form.ensures
    ∙ ap (λ t. string_bytes c.args.text.now ++ t) (sym (lines_more line id refs at ref (omega arith) c.fault-item.is))
