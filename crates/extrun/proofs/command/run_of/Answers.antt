use Rattle.std.proofs.Common.{codes, subst}
use Rattle.clap.specs.Matches.{found_of}
use Rattle.clap.proofs.WalkLemmas.{first_value-rows}
use Rattle.extrun.specs.RunWords.{IsColor}
use Rattle.extrun.proofs.command.run_of.Goals as goal

pub returns : goal.returns
returns c =
    let found = found_of c.args.words.now in
    record {
      options = c.options_in.ensures;
      form_asked = c.asks_for_form.ensures;
      color = subst (λ text. IsColor text c.color_in.result) (first_value-rows found (codes "color")) c.color_in.ensures;
      beside = c.asides_in.ensures;
    }
