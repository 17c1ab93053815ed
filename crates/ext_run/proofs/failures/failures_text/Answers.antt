use Rattle.std.proofs.Common.{◌∙◌, ◌++◌, ap}
use Rattle.ext_run.specs.FailureForms.{line_in, lost_as}
use Rattle.ext_run.specs.Failures.{failures_of}
use Rattle.ext_run.proofs.failures.failures_text.Goals as goal

pub returns : goal.returns
returns c =
    let form = c.args.form in
    let reported = c.args.reported.now in
    let shown = ap (failures_of (line_in form c.tree.result.now) c.tree.result.now) c.as_slice.ensures.value in
    let lines = c.in_ok-text.ensures ∙ shown ∙ ap (λ ids. failures_of (line_in form ids) ids reported.faults.items) c.tree.ensures in
    c.in_ok-write_lost.ensures ∙ ap (λ text. text ++ lost_as form reported.lost) lines
