use Rattle.std.proofs.Common.{rules, append_assoc}
use Rattle.ext_races.proofs.text.push_numbers.Goals as goal

pub returns : goal.returns
returns c = rw (← c.numbers.ensures) (search (rules, append_assoc))
