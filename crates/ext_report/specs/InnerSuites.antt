-- The cases of each suite of a report in JUnit's XML, gathered before it is written.
use Rattle.std.specs.Prelude.{◌≡◌, ℕ, ◌<◌, ◌==◌, codes, List, [], ◌∷◌, ◌++◌, filter, length, map}
use Rattle.std.specs.Borrow.{Bor}
use Rattle.std.specs.Global.{Vec}
use Rattle.std.specs.List.{count_by, flat_map}
use Rattle.ext_tree.specs.Trees.{Id, children_of, id_at}
use Rattle.ext_lifecycle.specs.declared.node_result.NodeResult.{NodeResult}
use Rattle.ext_lifecycle.specs.declared.status.Status.TheVariants as statuses
use Rattle.ext_lifecycle.specs.FaultTexts.{NodeOutcome, result_view}
use Rattle.ext_report.specs.declared.cases.CaseCounts.{CaseCounts}
use Rattle.ext_report.specs.declared.extra.Extra.{Extra}
use Rattle.ext_report.specs.Groups.{group_at}
use Rattle.ext_report.specs.JunitCases.{case_element, suite_name}
use Rattle.ext_report.specs.JunitXml.{count_attributes, is_left_out, stands_in, suite_time}
use Rattle.ext_report.specs.Report.{is_status}

-- The result is a case of the suite of the context with this number and of no other; of none if no context has it.
pub record IsSuiteOf (ids : List Id) (r : NodeResult) (suite : ℕ) : Type 0 where
  pub each : (k : ℕ) → k < length ids → stands_in (children_of ids k) k (result_view r) ≡ (suite == k)

-- The cases of a suite.
abbrev pub cases_of : List Id → ℕ → List NodeOutcome → List NodeOutcome
cases_of ids suite rs = filter (stands_in (children_of ids suite) suite) rs

-- The cases that references show.
abbrev pub cases_view : List (Bor NodeResult) → List NodeOutcome
cases_view cases = map (λ case. result_view case.now) cases

-- The first lists, one for each context, show the cases of its suite.
pub record AreSuites (ids : List Id) (rs : List NodeOutcome) (suites : List (Vec (Bor NodeResult))) : Type 0 where
  pub each : (k : ℕ) → k < length ids → cases_view (group_at suites k) ≡ cases_of ids k rs

-- How many of these cases there are, and how many of them failed or were left out.
abbrev pub counts_of_cases : List NodeOutcome → CaseCounts
counts_of_cases cases = record {
  tests = length cases;
  failures = count_by (λ r. is_status r.status statuses.Failed) cases;
  skipped = count_by (λ r. is_left_out r.status) cases;
}

-- The element of a suite with these cases.
abbrev pub suite_with : List Extra → List (List (List ℕ)) → List Id → ℕ → List NodeOutcome → List ℕ
suite_with extras earlier ids suite cases =
    codes "  <testsuite name=\"" ++ suite_name (id_at ids suite) ++ codes "\"" ++ suite_time extras suite
    ++ count_attributes (counts_of_cases cases) ++ flat_map (case_element extras earlier ids (suite_name (id_at ids suite))) cases
    ++ codes "  </testsuite>\n"

-- The same, if it has a case.
abbrev pub suite_if_filled : List Extra → List (List (List ℕ)) → List Id → ℕ → List NodeOutcome → List ℕ
suite_if_filled extras earlier ids suite [] = []
suite_if_filled extras earlier ids suite (first ∷ more) = suite_with extras earlier ids suite (first ∷ more)
