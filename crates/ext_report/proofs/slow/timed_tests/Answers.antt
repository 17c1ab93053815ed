use Rattle.std.proofs.Common.{◌∙◌, ◌++◌, ap, arith, sym}
use Rattle.ext_lifecycle.specs.FaultTexts.{result_view}
use Rattle.ext_report.specs.Slow.{timed_test}
use Rattle.ext_report.proofs.Lines.{results-more}
use Rattle.ext_report.proofs.slow.timed_tests.Goals as goal

pub loop-node-preserved : goal.loop-node-preserved
loop-node-preserved c =
    let tell = timed_test c.args.extras.now in
    c.in_ok-push_timed.ensures ∙ ap (λ timed. timed ++ tell (result_view c.node-item.result)) c.loop-node.invariant
    ∙ sym (results-more tell c.args.results.now c.loop-node.node-index c.node-item.result (omega arith) c.node-item.is)
