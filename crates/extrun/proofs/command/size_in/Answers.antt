use Rattle.std.proofs.Common.{codes, subst}
use Rattle.clap.specs.Matches.{found_of}
use Rattle.clap.proofs.WalkLemmas.{one_text-rows}
use Rattle.extrun.specs.Flags.{IsFlag}
use Rattle.extrun.proofs.command.size_in.Goals as goal

pub returns : goal.returns
returns c =
    record {
      large = c.is_set.result;
      asked = subst (λ text. IsFlag text c.is_set.result) (one_text-rows (found_of c.args.words.now) (codes "large")) c.is_set.ensures;
      size_is = c.size_of.ensures;
    }
