use Rattle.std.proofs.Common.{codes, refl, ◌∙◌}
use Rattle.clap.specs.Matches.{found_of}
use Rattle.clap.proofs.WalkLemmas.{first_value-rows}
use Rattle.extrun.proofs.command.plan_alone.Goals as goal

pub returns : goal.returns
returns c = record { plan = c.in_ok-file_of.ensures ∙ first_value-rows (found_of c.args.words.now) (codes "FILE"); junit = refl; json = refl; html = refl }
