use Rattle.std.proofs.Common.{arith, subst}
use Rattle.std.specs.List.{AllZip}
use Rattle.std.proofs.lemmas.List.{take_all}
use Rattle.ext_report.specs.InnerSuites.{IsSuiteOf}
use Rattle.ext_report.proofs.SuiteCases.{suites_of_more}
use Rattle.ext_report.proofs.cases.suite_numbers.Goals as goal

pub loop-node-preserved : goal.loop-node-preserved
loop-node-preserved c =
    suites_of_more c.args.tree.now c.args.results.now c.loop-node.numbers.items c.push.new.self.items c.loop-node.node-index c.suite_of.result c.node-item.result (omega arith) c.node-item.is c.in_ok-push.ensures.items
    c.suite_of.ensures c.loop-node.invariant

pub returns : goal.returns
returns c =
    let past = c.loop-node-test.false in
    subst (λ rs. AllZip (IsSuiteOf c.args.tree.now) rs c.loop-node.numbers.items) (take_all c.loop-node.node-index c.args.results.now past) c.loop-node.invariant
