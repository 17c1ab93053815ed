use Rattle.std.proofs.Common.{rules, append_assoc}
use Rattle.ext_run.specs.Checks.{raise_line}
use Rattle.ext_run.proofs.checks.raise_line.Goals as goal

pub returns : goal.returns
unfolding raise_line
returns c = search (rules, append_assoc)
