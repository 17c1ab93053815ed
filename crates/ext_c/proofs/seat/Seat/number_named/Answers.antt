use Rattle.std.proofs.Common.{refl}
use Rattle.ext_c.specs.Answers.{NamesKey}
use Rattle.ext_c.proofs.seat.Seat.number_named.Goals as goal

pub returns-in-Ok-clause-says : goal.returns-in-Ok-clause-says
returns-in-Ok-clause-says c = NamesKey.named c.in-Ok.ensures.texts c.in-Ok.key c.in-Ok.ensures.named c.number_of.ensures.says

pub returns-in-Err-clause-says : goal.returns-in-Err-clause-says
returns-in-Err-clause-says c = NamesKey.unnamed c.in-Err.ensures.refused refl refl
