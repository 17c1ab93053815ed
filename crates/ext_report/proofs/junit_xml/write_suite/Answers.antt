use Rattle.std.proofs.Common.{◌∙◌, length, string_bytes, sym}
use Rattle.std.proofs.lemmas.Bool.{eqb-false, eqb-true}
use Rattle.ext_report.specs.Extras.{texts_view}
use Rattle.ext_report.proofs.SuiteCases.{none_filled, some_filled}
use Rattle.ext_report.proofs.junit_xml.write_suite.Goals as goal

pub returns-then-is_empty : goal.returns-then-is_empty
returns-then-is_empty c = none_filled c.args.extras.now (texts_view c.args.earlier.now) c.args.tree.now c.args.suite c.args.cases.now (string_bytes c.args.text.now) (eqb-true (length c.args.cases.now) 0 (sym c.is_empty.ensures ∙ c.if-is_empty.true))

pub returns : goal.returns
returns c =
    some_filled c.args.extras.now (texts_view c.args.earlier.now) c.args.tree.now c.args.suite c.args.cases.now (string_bytes c.args.text.now) _ (eqb-false (length c.args.cases.now) 0 (sym c.is_empty.ensures ∙ c.if-is_empty.false)) c.in_ok-write_filled_suite.ensures
