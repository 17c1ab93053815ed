use Rattle.std.proofs.Common.{rules, append_assoc}
use Rattle.ext_races.proofs.text.push_places.Goals as goal

pub returns : goal.returns
returns c = search (rules, append_assoc)
