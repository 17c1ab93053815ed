use Rattle.std.proofs.Common.{◌∙◌, [], ap, codes, sym}
use Rattle.std.specs.Prelude.{if◌then◌else◌}
use Rattle.ext_races.specs.RaceLines.{lock_text}
use Rattle.ext_races.proofs.text.lock_text.Goals as goal

pub returns-then-locked_apart : goal.returns-then-locked_apart
unfolding lock_text
returns-then-locked_apart c = sym (ap (λ b. if b then codes ": a lock keeps them apart, not in order" else []) (sym c.locked_apart.ensures ∙ c.if-locked_apart.true))

pub returns-else-locked_apart : goal.returns-else-locked_apart
unfolding lock_text
returns-else-locked_apart c = sym (ap (λ b. if b then codes ": a lock keeps them apart, not in order" else []) (sym c.locked_apart.ensures ∙ c.if-locked_apart.false))
