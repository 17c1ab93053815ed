use Rattle.std.proofs.Common.{◌∙◌, subst}
use Rattle.ext_races.specs.InnerStanding.{IsNumber}
use Rattle.ext_races.proofs.Above.{number_is}
use Rattle.ext_races.proofs.standing.number_in.Goals as goal

pub returns : goal.returns
returns c =
    subst (λ key. IsNumber c.args.directory.now key c.number_of.result) (c.key.ensures ∙ c.in_ok-called.ensures.key)
    (number_is c.args.directory.now c.key.result.now c.number_of.result c.number_of.ensures.found c.number_of.ensures.absent)
