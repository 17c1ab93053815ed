use Rattle.std.proofs.Common.{rules, append_assoc}
use Rattle.ext_report.specs.Extras.{seconds}
use Rattle.ext_report.proofs.extra.write_seconds.Goals as goal

pub returns : goal.returns
unfolding seconds
returns c = search (rules, append_assoc)
