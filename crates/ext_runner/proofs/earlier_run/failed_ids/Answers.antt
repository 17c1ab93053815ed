use Rattle.std.proofs.Common.{◌≡◌, ◌∙◌, ap, is_some, rules, subst, sym, true}
use Rattle.std.specs.Prelude.{All}
use Rattle.std.specs.Str.Iter.{lines_rest}
use Rattle.std.proofs.lemmas.Iterator.Consumers.{YieldsList-end}
use Rattle.std.proofs.lemmas.Iterator.Splits.{YieldsList-from_lines}
use Rattle.serde_json.specs.Read.{read}
use Rattle.ext_runner.specs.InnerEarlierRuns.{failed_ids}
use Rattle.ext_runner.proofs.EarlierLines.{failed-more, read-more}
use Rattle.ext_runner.proofs.earlier_run.failed_ids.Goals as goal

pub loop-line-preserved : goal.loop-line-preserved
loop-line-preserved c = record {
  ids = failed-more c.args.are_tests _ _ c.loop-line.yielded c.in-Some.line c.loop-line.invariant.ids c.in-Ok-true.ensures.ids;
  all_read = read-more c.loop-line.yielded c.in-Some.line c.loop-line.invariant.all_read (sym c.in-Ok-true.ensures.read ∙ c.in-Ok-true.field-0-test);
}

pub returns-clause-ids : goal.returns-clause-ids
returns-clause-ids c =
    let starts : lines_rest c.into_iter-line-iterator.result ≡ c.args.report.now = search rules in
    let all = YieldsList-end (YieldsList-from_lines {s = c.into_iter-line-iterator.result} c.args.report.now starts) c.loop-line.yielded c.loop-line.line-iterator c.loop-line.yielded_by c.next.result c.next.new.self c.in-None.is c.next.ensures.steps in
    c.loop-line.invariant.ids ∙ ap (failed_ids c.args.are_tests) all.0

pub returns-clause-all_read : goal.returns-clause-all_read
returns-clause-all_read c =
    let starts : lines_rest c.into_iter-line-iterator.result ≡ c.args.report.now = search rules in
    let all = YieldsList-end (YieldsList-from_lines {s = c.into_iter-line-iterator.result} c.args.report.now starts) c.loop-line.yielded c.loop-line.line-iterator c.loop-line.yielded_by c.next.result c.next.new.self c.in-None.is c.next.ensures.steps in
    subst (All (λ line. is_some (read line) ≡ true)) all.0 c.loop-line.invariant.all_read
