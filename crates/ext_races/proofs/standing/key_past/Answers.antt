use Rattle.std.proofs.Common.{◌∙◌, ap, sym}
use Rattle.std.specs.Prelude.{◌&&◌}
use Rattle.ext_races.specs.InnerStanding.{is_number}
use Rattle.ext_races.proofs.Removed.{and_false, and_true}
use Rattle.ext_races.proofs.standing.key_past.Goals as goal

pub returns-then-is_on : goal.returns-then-is_on
returns-then-is_on c = λ number. sym (ap (λ b. is_number c.args.key number && b) (sym c.is_on.ensures ∙ c.if-is_on.true) ∙ and_true (is_number c.args.key number))

pub returns : goal.returns
returns c = λ number. sym (ap (λ b. is_number c.args.key number && b) (sym c.is_on.ensures ∙ c.if-is_on.false) ∙ and_false (is_number c.args.key number))
