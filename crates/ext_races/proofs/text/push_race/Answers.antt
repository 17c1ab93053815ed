use Rattle.std.proofs.Common.{rules, append_assoc}
use Rattle.ext_races.specs.RaceLines.{race_line}
use Rattle.ext_races.proofs.text.push_race.Goals as goal

pub returns : goal.returns
unfolding race_line
returns c = search (rules, append_assoc)
