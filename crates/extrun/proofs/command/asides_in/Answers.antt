use Rattle.std.proofs.Common.{codes, refl, subst}
use Rattle.clap.specs.Matches.{found_of}
use Rattle.clap.proofs.WalkLemmas.{one_text-rows}
use Rattle.extrun.specs.Flags.{IsFlag}
use Rattle.extrun.proofs.command.asides_in.Goals as goal

pub returns : goal.returns
returns c =
    let found = found_of c.args.words.now in
    record {
      progress = subst (λ text. IsFlag text c.is_set.result) (one_text-rows found (codes "progress")) c.is_set.ensures;
      durations = subst (λ text. IsFlag text c.is_set-2.result) (one_text-rows found (codes "durations")) c.is_set-2.ensures;
      failures = subst (λ text. IsFlag text c.is_set-3.result) (one_text-rows found (codes "failures")) c.is_set-3.ensures;
      for_terminal = refl;
    }
