use Rattle.std.proofs.Common.{codes, refl, subst}
use Rattle.clap.specs.Matches.{found_of}
use Rattle.clap.proofs.WalkLemmas.{one_text-rows}
use Rattle.extrun.specs.Flags.{IsFlag}
use Rattle.extrun.proofs.command.plan_request.Goals as goal

pub returns : goal.returns
returns c =
    let found = found_of c.args.words.now in
    ((refl, refl), subst (λ text. IsFlag text c.is_set.result) (one_text-rows found (codes "brief")) c.is_set.ensures)
