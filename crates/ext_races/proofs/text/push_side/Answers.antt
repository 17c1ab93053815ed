use Rattle.std.proofs.Common.{rules, append_assoc}
use Rattle.ext_races.specs.RaceLines.{side_text}
use Rattle.ext_races.proofs.text.push_side.Goals as goal

pub returns : goal.returns
unfolding side_text
returns c = search (rules, append_assoc)
