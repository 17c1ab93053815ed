use Rattle.std.proofs.Common.{true, false, [], ◌∷◌, ◌∙◌, ap, refl, sym, append-nil}
use Rattle.ext_lifecycle.specs.Lifecycle.{tally_of}
use Rattle.ext_lifecycle.proofs.lifecycle.run_body.Goals as goal

pub returns-then-is_successful-clause-calls : goal.returns-then-is_successful-clause-calls
returns-then-is_successful-clause-calls g c = (
  true,
  c.call-outcome.result ∷ [],
  record { made = λ _. (c.call-outcome.result, [], c.call-outcome.new.self, refl, c.call-outcome.ensures.call, (refl, refl)); skipped = λ bad. absurd cc },
  (λ before is. (sym c.if-is_successful.true ∙ c.is_successful.ensures before is, c.add.ensures.tally before is)),
)

pub returns-else-is_successful-clause-calls : goal.returns-else-is_successful-clause-calls
returns-else-is_successful-clause-calls g c = (
  false,
  [],
  record { made = λ bad. absurd cc; skipped = λ _. (refl, refl) },
  (λ before is. (sym c.if-is_successful.false ∙ c.is_successful.ensures before is, is ∙ ap tally_of (sym (append-nil before)))),
)
