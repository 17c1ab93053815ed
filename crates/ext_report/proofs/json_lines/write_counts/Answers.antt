use Rattle.std.proofs.Common.{◌++◌, codes}
use Rattle.ext_report.specs.JsonLines.{count_member}
use Rattle.ext_report.proofs.Lines.{joined}
use Rattle.ext_report.proofs.json_lines.write_counts.Goals as goal

pub returns-clause-tokens : goal.returns-clause-tokens
returns-clause-tokens c =
    let node = c.args.node.now in
    let more = count_member (codes "more") node.more in
    let computed = count_member (codes "computed") node.computed in
    let found = count_member (codes "found") node.found in
    let closed = count_member (codes "closed") node.closed in
    let faults = count_member (codes "close_faults") node.close_faults in
    let two = joined _ _ _ more computed c.in_ok-write_count.ensures.tokens c.in_ok-write_count-2.ensures.tokens in
    let three = joined _ _ _ (more ++ computed) found two c.in_ok-write_count-3.ensures.tokens in
    let four = joined _ _ _ ((more ++ computed) ++ found) closed three c.in_ok-write_count-4.ensures.tokens in
    joined _ _ _ (((more ++ computed) ++ found) ++ closed) faults four c.in_ok-write_count-5.ensures.tokens
