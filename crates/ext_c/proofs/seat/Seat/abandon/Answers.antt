use Rattle.std.proofs.Common.{◌∙◌, sym, refl}
use Rattle.ext_c.specs.Answers.{AbandonSays}
use Rattle.ext_c.proofs.seat.Seat.abandon.Goals as goal

pub returns-clause-says : goal.returns-clause-says
returns-clause-says c = AbandonSays.given_up c.in-Some.claim (sym c.replace.ensures.value ∙ c.in-Some.is) c.abandon_quietly.ensures.abandoned refl
