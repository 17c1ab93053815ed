use Rattle.std.proofs.Common.{sym, subst, arith}
use Rattle.std.specs.List.{AllZip}
use Rattle.std.proofs.lemmas.Slice.Zip.{AllZip-long}
use Rattle.ext_report.specs.Groups.{group_at}
use Rattle.ext_report.specs.InnerSuites.{IsSuiteOf}
use Rattle.ext_report.proofs.SuiteCases.{cases_are}
use Rattle.ext_report.proofs.cases.cases_by_suite.Goals as goal

pub grouped-requires : goal.grouped-requires
grouped-requires c = AllZip-long (IsSuiteOf c.args.tree.now) c.args.results.now c.as_slice.result.now (subst (AllZip (IsSuiteOf c.args.tree.now) c.args.results.now) (sym c.as_slice.ensures.value) c.in_ok-numbers.ensures)

pub returns-clause-cases : goal.returns-clause-cases
returns-clause-cases c = record {
  each = λ k less.
      let count = c.len.ensures.count in
      cases_are c.args.tree.now k c.as_slice.result.now c.args.results.now (group_at c.in_ok-suites.suites.items k) less
      (subst (AllZip (IsSuiteOf c.args.tree.now) c.args.results.now) (sym c.as_slice.ensures.value) c.in_ok-numbers.ensures) (c.in_ok-suites.ensures.groups.each k (omega (arith, less, count)));
}
