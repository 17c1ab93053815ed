use Rattle.std.proofs.Common.{codes, ◌∙◌}
use Rattle.clap.specs.Matches.{found_of}
use Rattle.clap.proofs.WalkLemmas.{first_value-rows}
use Rattle.extrun.proofs.command.run_files.Goals as goal

pub returns : goal.returns
returns c =
    let found = found_of c.args.words.now in
    record {
      plan = c.in_ok-file_of.ensures ∙ first_value-rows found (codes "FILE");
      junit = c.in_ok-file_of-2.ensures ∙ first_value-rows found (codes "junit");
      json = c.in_ok-file_of-3.ensures ∙ first_value-rows found (codes "json");
      html = c.in_ok-file_of-4.ensures ∙ first_value-rows found (codes "html");
    }
