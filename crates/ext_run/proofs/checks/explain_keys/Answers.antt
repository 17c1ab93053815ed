use Rattle.std.proofs.Common.{rules, ◌≡◌, ◌∙◌, Some, ap, append_assoc, sym}
use Rattle.std.specs.Prelude.{Ok, string_bytes}
use Rattle.ext_run.specs.Checks.{too_many_line}
use Rattle.ext_run.proofs.KeyLines.{many}
use Rattle.ext_run.proofs.checks.explain_keys.Goals as goal

pub returns-in_ok-format-in-None : goal.returns-in_ok-format-in-None
returns-in_ok-format-in-None c =
    let line : string_bytes c.in_ok-format-in-None.field-0 ≡ too_many_line = search (rules, append_assoc) in
    record { explained = ap Some line ∙ sym (many _ c.args.plan.now.key_places c.requires.plan.runnable.places.few (c.in_ok-keys.ensures.many (ap Ok c.in-None.is))) }
