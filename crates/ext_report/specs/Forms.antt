-- The forms of a report.
use Rattle.std.specs.Prelude.{ℕ, List}
use Rattle.ext_ids.specs.Grammar.{Pair}
use Rattle.ext_lifecycle.specs.FaultTexts.{NodeOutcome}
use Rattle.ext_report.specs.declared.form.ReportForm.{ReportForm}
use Rattle.ext_report.specs.declared.form.ReportForm.TheVariants as forms
use Rattle.ext_report.specs.Report.{report_of}
use Rattle.ext_report.specs.JsonLines.{json_report}
use Rattle.ext_report.specs.TreeLines.{tree_of}
use Rattle.ext_report.specs.JunitXml.{junit_xml}
use Rattle.ext_report.specs.TerminalLines.{terminal_of}

abbrev pub report_in : ReportForm → List (List Pair) → List NodeOutcome → List ℕ
report_in forms.Text ids rs = report_of ids rs
report_in forms.Json ids rs = json_report ids rs
report_in forms.Tree ids rs = tree_of ids rs
report_in forms.Junit ids rs = junit_xml ids rs
report_in (forms.Terminal colored) ids rs = terminal_of colored ids rs
