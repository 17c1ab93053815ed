use Rattle.std.proofs.Common.{rules, append_assoc}
use Rattle.ext_report.specs.JsonLines.{count_totals}
use Rattle.ext_report.proofs.totals.TestCounts.write_members_to.Goals as goal

pub returns : goal.returns
unfolding count_totals
returns c = search (rules, append_assoc)
