-- The report of a run in JUnit's XML, as servers of continuous integration read it: as a function of the tree's ids and
-- of the list of results. From a run of `[engine:x]/[class:A]` with two methods,
--
--     <?xml version="1.0" encoding="UTF-8"?>
--     <testsuites tests="2" failures="1" errors="0" skipped="0">
--       <testsuite name="A" tests="2" failures="1" errors="0" skipped="0">
--         <testcase classname="A" name="a()"></testcase>
--         <testcase classname="A" name="b()"><failure type="failed" message="LINE">TEXT&#10;(+1)</failure></testcase>
--       </testsuite>
--     </testsuites>
--
-- There is one suite for each context that has a case, in the order of the tree, and none stands in another. A test is
-- a case of its parent's suite. A container that failed or aborted itself, in a call of its own or in its close, is a
-- case of its own suite, as with Maven's Surefire; and so is a test without a parent. Cases come in the order of the
-- list.
--
-- A suite is named like a class in Java: by the values of the segments of its context's id below the engine, joined by
-- dots, or, of the root, by the engine's value. That name is the class of its cases, and a case is named by the value of
-- the last segment of its id. Ids that differ in nothing but the types of their segments have one name.
--
-- The first line of a fault's text is the message of a `failure`, or of a `skipped` if the node aborted, and the whole
-- text stands in the element; how many more faults and aborts came follows on a line of its own. No case is an `error`.
-- A line ends with one line feed, and numbers are decimal. `JunitCases` has a case, and `Xml` how texts are written.
--
-- Where a node's time is known (`Extras`), the suite of its context has it, and so has the case of a test; the root's is
-- that of all. A container that is a case has it at its suite alone. A successful case that took several attempts has a
-- `flakyFailure` for each before the last, as with Surefire: where it is known what the attempt said, the first line of
-- that is its message, and all of it stands in its `stackTrace`. What a skipped case has for its fault says why it was.
--
--     <testcase classname="A" name="a()" time="0.123"><flakyFailure type="failed" message="failed at attempt 1"/></testcase>
--     <testcase classname="A" name="b()"><flakyFailure type="failed" message="LINE"><stackTrace>TEXT</stackTrace></flakyFailure></testcase>
use Rattle.std.specs.Prelude.{ℕ, zero, suc, Bool, true, false, not, ◌==◌, ◌&&◌, ◌||◌, codes, List, [], ◌++◌, length, if◌then◌else◌}
use Rattle.std.specs.List.{count_by, flat_map, list_any}
use Rattle.std.specs.Fmt.{decimal}
use Rattle.ext_tree.specs.Trees.{Id, children_of, id_at}
use Rattle.ext_lifecycle.specs.declared.status.Status.{Status}
use Rattle.ext_lifecycle.specs.declared.status.Status.TheVariants as statuses
use Rattle.ext_lifecycle.specs.FaultTexts.{NodeOutcome}
use Rattle.ext_report.specs.declared.cases.CaseCounts.{CaseCounts}
use Rattle.ext_report.specs.declared.extra.Extra.{Extra}
use Rattle.ext_report.specs.Extras.{extra_of}
use Rattle.ext_report.specs.JunitCases.{case_element, suite_name, time_attribute}
use Rattle.ext_report.specs.Report.{is_status, tells_fault}

-- ---- which cases there are

-- Each test is a case, and each container that failed or aborted itself.
abbrev pub is_case : NodeOutcome → Bool
is_case r = r.is_test || tells_fault r.status

-- A test below the root stands in its parent's suite, any other case in its own. The root is context 0, and the suite
-- that of a context with these children.
abbrev pub stands_in : List ℕ → ℕ → NodeOutcome → Bool
stands_in children suite r =
    if r.is_test && not (r.node == 0) then list_any (λ child. child == r.node) children else (r.node == suite)
    && is_case r

-- A case that aborted or was skipped, which are one in JUnit's XML.
abbrev pub is_left_out : Status → Bool
is_left_out statuses.Successful = false
is_left_out statuses.Aborted = true
is_left_out statuses.Failed = false
is_left_out statuses.Skipped = true

-- How many cases there are, and how many of them failed or were left out.
abbrev pub counts_where : (NodeOutcome → Bool) → List NodeOutcome → CaseCounts
counts_where is_counted rs = record {
  tests = count_by is_counted rs;
  failures = count_by (λ r. is_counted r && is_status r.status statuses.Failed) rs;
  skipped = count_by (λ r. is_counted r && is_left_out r.status) rs;
}

-- ---- a suite

abbrev pub case_in : List Extra → List (List (List ℕ)) → List Id → ℕ → NodeOutcome → List ℕ
case_in extras earlier ids suite r =
    if stands_in (children_of ids suite) suite r then case_element extras earlier ids (suite_name (id_at ids suite)) r else []

-- The counts of a suite, or of all, and the end of their line.
unfoldable pub count_attributes : CaseCounts → List ℕ
count_attributes n =
    codes " tests=\"" ++ decimal n.tests ++ codes "\" failures=\"" ++ decimal n.failures
    ++ codes "\" errors=\"0\" skipped=\"" ++ decimal n.skipped ++ codes "\">\n"

-- The time of a context's suite, or of all, at the root.
abbrev pub suite_time : List Extra → ℕ → List ℕ
suite_time extras suite = time_attribute (extra_of extras suite).millis

abbrev pub suite_element : List Extra → List (List (List ℕ)) → List Id → List NodeOutcome → ℕ → List ℕ
suite_element extras earlier ids rs suite =
    codes "  <testsuite name=\"" ++ suite_name (id_at ids suite) ++ codes "\"" ++ suite_time extras suite
    ++ count_attributes (counts_where (stands_in (children_of ids suite) suite) rs)
    ++ flat_map (case_in extras earlier ids suite) rs ++ codes "  </testsuite>\n"

-- The suite of a context, if it has a case.
abbrev pub suite_if_any : List Extra → List (List (List ℕ)) → List Id → List NodeOutcome → ℕ → List ℕ
suite_if_any extras earlier ids rs suite = if count_by (stands_in (children_of ids suite) suite) rs == 0 then []
    else suite_element extras earlier ids rs suite

-- The suites of the first `n` contexts, in order.
unfoldable pub suites_below : List Extra → List (List (List ℕ)) → List Id → List NodeOutcome → ℕ → List ℕ
suites_below extras earlier ids rs zero = []
suites_below extras earlier ids rs (suc n) = suites_below extras earlier ids rs n ++ suite_if_any extras earlier ids rs n

-- ---- the report

-- The report where this is known of the nodes, and of what their attempts before the last said.
abbrev pub junit_with : List Extra → List (List (List ℕ)) → List Id → List NodeOutcome → List ℕ
junit_with extras earlier ids rs =
    codes "<?xml version=\"1.0\" encoding=\"UTF-8\"?>\n<testsuites" ++ suite_time extras 0
    ++ count_attributes (counts_where is_case rs) ++ suites_below extras earlier ids rs (length ids) ++ codes "</testsuites>\n"

-- The report where nothing is.
abbrev pub junit_xml : List Id → List NodeOutcome → List ℕ
junit_xml ids rs = junit_with [] [] ids rs
