use Rattle.std.proofs.Common.{◌∙◌, subst, sym}
use Rattle.ext_report.specs.InnerSuites.{IsSuiteOf}
use Rattle.ext_report.proofs.SuiteCases.{below_root, no_suite_of, own_suite, parents_suite}
use Rattle.ext_report.proofs.cases.suite_of.Goals as goal

pub parent_of-requires-clause-below : goal.parent_of-requires-clause-below
parent_of-requires-clause-below c = below_root c.args.node.now (sym c.is_test_below.ensures ∙ c.if-is_test_below.true)

pub returns-then-is_test_below : goal.returns-then-is_test_below
returns-then-is_test_below c =
    parents_suite c.args.tree.now c.len-none.ensures.tree c.args.node.now c.parent_of.result (sym c.is_test_below.ensures ∙ c.if-is_test_below.true) c.parent_of.ensures

pub returns-then-is_case : goal.returns-then-is_case
returns-then-is_case c =
    own_suite c.args.tree.now c.len-none.ensures.tree c.args.node.now (sym c.is_test_below.ensures ∙ c.if-is_test_below.false) (sym c.is_case.ensures ∙ c.if-is_case.true)

pub returns : goal.returns
returns c =
    subst (IsSuiteOf c.args.tree.now c.args.node.now) (sym c.len-none.ensures.count)
    (no_suite_of c.args.tree.now c.len-none.ensures.tree c.args.node.now (sym c.is_test_below.ensures ∙ c.if-is_test_below.false) (sym c.is_case.ensures ∙ c.if-is_case.false))
