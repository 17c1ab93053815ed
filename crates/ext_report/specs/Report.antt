-- The report of a run, as a function of the tree's ids and of the list of results.
--
-- There is one line for each result, in the order of the list:
--
--     ID STATUS closed N
--
-- ID is the node's id as it is written, STATUS one of `successful`, `aborted`, `failed` and `skipped`, and N how many
-- values were closed with the node's context. If the node aborted or failed, its fault follows as `: FAULT`, and then
-- ` (+M)` if M more faults and aborts came. A lack of memory is the fault `no memory`; a fault's text stands as it is.
-- No fault follows if an aborted or failed node has none, or if a node is successful or skipped, whatever its fault and
-- its M. What is known of the node beside its result comes before the fault (`Extras`).
--
-- Two lines of totals follow, the first of tests alone, the second of all nodes:
--
--     tests N successful N aborted N failed N skipped N
--     computed N found N closed N close faults N
--
-- Each line ends with one line feed. Numbers are decimal. The format is not from JUnit.
use Rattle.std.specs.Prelude.{ℕ, Bool, true, false, ◌&&◌, ◌==◌, codes, List, [], ◌++◌, Option, Some, None, if◌then◌else◌}
use Rattle.std.specs.List.{flat_map, slice_index_or, sum_by, count_by, list_any}
use Rattle.std.specs.Fmt.{decimal}
use Rattle.ext_ids.specs.Grammar.{Pair, id_text}
use Rattle.ext_lifecycle.specs.declared.status.Status.{Status}
use Rattle.ext_lifecycle.specs.declared.status.Status.TheVariants as statuses
use Rattle.ext_lifecycle.specs.FaultTexts.{NodeOutcome}
use Rattle.ext_report.specs.declared.extra.Extra.{Extra}
use Rattle.ext_report.specs.Extras.{extra_of, extra_part}
use Rattle.ext_report.specs.declared.totals.TestCounts.{TestCounts}
use Rattle.ext_report.specs.declared.totals.NodeSums.{NodeSums}

abbrev pub status_text : Status → List ℕ
status_text statuses.Successful = codes "successful"
status_text statuses.Aborted = codes "aborted"
status_text statuses.Failed = codes "failed"
status_text statuses.Skipped = codes "skipped"

-- How many more faults and aborts there are, if any.
abbrev pub further_faults : ℕ → List ℕ
further_faults more = if more == 0 then [] else codes " (+" ++ decimal more ++ codes ")"

-- A fault and the number of further ones, if there is a fault.
abbrev pub fault_and_further : Option (List ℕ) → ℕ → List ℕ
fault_and_further None more = []
fault_and_further (Some fault) more = codes ": " ++ fault ++ further_faults more

-- The line of a node with this status has its fault.
abbrev pub tells_fault : Status → Bool
tells_fault statuses.Successful = false
tells_fault statuses.Aborted = true
tells_fault statuses.Failed = true
tells_fault statuses.Skipped = false

-- The fault of a node's line.
abbrev pub fault_part : NodeOutcome → List ℕ
fault_part r = if tells_fault r.status then fault_and_further r.fault r.more else []

-- How a node ended, and the end of its line.
abbrev pub outcome_part : List Extra → NodeOutcome → List ℕ
outcome_part extras r =
    codes " " ++ status_text r.status ++ codes " closed " ++ decimal r.closed
    ++ extra_part r.status (extra_of extras r.node) ++ fault_part r ++ codes "\n"

abbrev pub line_of : List Extra → List Pair → NodeOutcome → List ℕ
line_of extras id r = id_text id ++ outcome_part extras r

-- The lines of the nodes, in the order of the list.
abbrev pub lines_of : List Extra → List (List Pair) → List NodeOutcome → List ℕ
lines_of extras ids rs = flat_map (λ r. line_of extras (slice_index_or ids r.node []) r) rs

abbrev pub is_status : Status → Status → Bool
is_status statuses.Successful statuses.Successful = true
is_status statuses.Aborted statuses.Aborted = true
is_status statuses.Failed statuses.Failed = true
is_status statuses.Skipped statuses.Skipped = true
is_status _ _ = false

-- How many tests ended with this status.
abbrev pub tests_with : Status → List NodeOutcome → ℕ
tests_with status rs = count_by (λ r. r.is_test && is_status r.status status) rs

-- How many tests there are, and how many ended in each way.
abbrev pub counts_of : List NodeOutcome → TestCounts
counts_of rs = record {
  tests = count_by (λ r. r.is_test) rs;
  successful = tests_with statuses.Successful rs;
  aborted = tests_with statuses.Aborted rs;
  failed = tests_with statuses.Failed rs;
  skipped = tests_with statuses.Skipped rs;
}

-- The sums over all nodes, tests or not.
abbrev pub sums_of : List NodeOutcome → NodeSums
sums_of rs = record {
  computed = sum_by (λ r. r.computed) rs;
  found = sum_by (λ r. r.found) rs;
  closed = sum_by (λ r. r.closed) rs;
  close_faults = sum_by (λ r. r.close_faults) rs;
}

unfoldable pub counts_line : TestCounts → List ℕ
counts_line n =
    codes "tests " ++ decimal n.tests ++ codes " successful " ++ decimal n.successful
    ++ codes " aborted " ++ decimal n.aborted ++ codes " failed " ++ decimal n.failed
    ++ codes " skipped " ++ decimal n.skipped ++ codes "\n"

unfoldable pub sums_line : NodeSums → List ℕ
sums_line n =
    codes "computed " ++ decimal n.computed ++ codes " found " ++ decimal n.found
    ++ codes " closed " ++ decimal n.closed ++ codes " close faults " ++ decimal n.close_faults ++ codes "\n"

-- The report where this is known of the nodes.
abbrev pub report_with : List Extra → List (List Pair) → List NodeOutcome → List ℕ
report_with extras ids rs = lines_of extras ids rs ++ counts_line (counts_of rs) ++ sums_line (sums_of rs)

-- The report where nothing is.
abbrev pub report_of : List (List Pair) → List NodeOutcome → List ℕ
report_of ids rs = report_with [] ids rs

-- A node failed, whether a test or a container.
abbrev pub any_failed : List NodeOutcome → Bool
any_failed rs = list_any (λ r. is_status r.status statuses.Failed) rs
