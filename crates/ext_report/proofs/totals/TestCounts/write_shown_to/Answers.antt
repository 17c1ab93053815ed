use Rattle.std.proofs.Common.{rules, append_assoc}
use Rattle.ext_report.proofs.totals.TestCounts.write_shown_to.Goals as goal

pub returns : goal.returns
returns c = search (rules, append_assoc)
