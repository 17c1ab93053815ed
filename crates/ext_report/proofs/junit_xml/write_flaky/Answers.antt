use Rattle.std.proofs.Common.{map, string_bytes}
use Rattle.ext_report.proofs.Attempts.{attempt-more, no-attempt}
use Rattle.ext_report.proofs.junit_xml.write_flaky.Goals as goal

pub loop-before-init : goal.loop-before-init
loop-before-init c = no-attempt (map string_bytes c.args.said.now) (string_bytes c.args.text.now)

pub loop-before-preserved : goal.loop-before-preserved
loop-before-preserved c =
    attempt-more (map string_bytes c.args.said.now) (string_bytes c.args.text.now) (string_bytes c.loop-before.text) _ c.loop-before.before _ c.loop-before.invariant c.said_at.ensures c.in_ok-write_failed_attempt.ensures
