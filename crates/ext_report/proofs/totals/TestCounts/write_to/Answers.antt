use Rattle.std.proofs.Common.{rules, append_assoc}
use Rattle.ext_report.specs.Report.{counts_line}
use Rattle.ext_report.proofs.totals.TestCounts.write_to.Goals as goal

pub returns : goal.returns
unfolding counts_line
returns c = search (rules, append_assoc)
