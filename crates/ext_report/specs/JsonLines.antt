-- The report of a run for machines, as a function of the tree's ids and of the list of results: in JSON, one object a
-- line for each result, in the order of the list,
--
--     {"id":"[engine:x]","test":false,"status":"failed","fault":"TEXT","more":1,"computed":0,"found":0,"closed":2,"close_faults":1}
--
-- with no space between tokens and a line feed after each object. The members come in this order. `fault` is null if
-- the node has none, and a lack of memory is the fault `no memory`. The other values are those of the report's text
-- (`Report`). `print` of the kit's JSON says how a text is written, and `JsonTexts` which characters it escapes besides; a
-- text reads back as it was.
--
-- What is known of the node beside its result (`Extras`) comes last: `millis`, how long it took, where that is known, and
-- `attempt`, at which attempt it passed, of a successful node and from the second on:
--
--     {"id":"[engine:x]/[test:a]", .. ,"close_faults":0,"millis":1234,"attempt":3}
--
-- The last line has the version of this form and the totals:
--
--     {"version":1,"totals":{"tests":1,"successful":0,"aborted":0,"failed":1,"skipped":0,"computed":0,"found":0,"closed":2,"close_faults":1}}
--
-- The format is not from JUnit.
use Rattle.std.specs.Prelude.{ℕ, ◌&&◌, codes, if◌then◌else◌, List, [], ◌∷◌, ◌++◌, nat_lt, Option, Some, None}
use Rattle.std.specs.List.{flat_map, slice_index_or}
use Rattle.std.specs.Fmt.{decimal}
use Rattle.json.specs.Token.{Token, begin_object, end_object, key, string, number, boolean, null}
use Rattle.json.specs.Print.{print}
use Rattle.ext_ids.specs.Grammar.{Pair, id_text}
use Rattle.ext_lifecycle.specs.declared.status.Status.{Status}
use Rattle.ext_lifecycle.specs.declared.status.Status.TheVariants as statuses
use Rattle.ext_lifecycle.specs.FaultTexts.{NodeOutcome}
use Rattle.ext_report.specs.declared.extra.Extra.{Extra}
use Rattle.ext_report.specs.Extras.{extra_of}
use Rattle.ext_report.specs.JsonTexts.{json_text}
use Rattle.ext_report.specs.Report.{counts_of, is_status, status_text, sums_of}
use Rattle.ext_report.specs.declared.totals.TestCounts.{TestCounts}
use Rattle.ext_report.specs.declared.totals.NodeSums.{NodeSums}

abbrev pub fault_token : Option (List ℕ) → Token
fault_token None = null
fault_token (Some fault) = string fault

-- A member whose value is a count.
abbrev pub count_member : List ℕ → ℕ → List Token
count_member name count = key name ∷ number (decimal count) ∷ []

-- The members that say what a node is and how it ended.
abbrev pub ending_members : List ℕ → NodeOutcome → List Token
ending_members id r =
    key (codes "id") ∷ string id ∷ key (codes "test") ∷ boolean r.is_test ∷ key (codes "status")
    ∷ string (status_text r.status) ∷ key (codes "fault") ∷ fault_token r.fault ∷ []

-- The members that count.
abbrev pub count_members : NodeOutcome → List Token
count_members r =
    count_member (codes "more") r.more ++ count_member (codes "computed") r.computed
    ++ count_member (codes "found") r.found ++ count_member (codes "closed") r.closed
    ++ count_member (codes "close_faults") r.close_faults

-- How long the node took.
abbrev pub time_member : Option ℕ → List Token
time_member None = []
time_member (Some millis) = count_member (codes "millis") millis

-- At which attempt the node passed, if it did, and not at the first.
abbrev pub attempt_member : Status → ℕ → List Token
attempt_member status attempt = if is_status status statuses.Successful && nat_lt 1 attempt
    then count_member (codes "attempt") attempt else []

-- The members of what is known beside the result.
abbrev pub extra_members : Status → Extra → List Token
extra_members status extra = time_member extra.millis ++ attempt_member status extra.attempt

-- The object of a node with this id, of which this is known, as it is written.
unfoldable pub node_object : List ℕ → Extra → NodeOutcome → List Token
node_object id extra r =
    begin_object ∷ (ending_members id r ++ (count_members r ++ (extra_members r.status extra ++ end_object ∷ [])))

abbrev pub json_line : List Extra → List Pair → NodeOutcome → List ℕ
json_line extras id r = json_text (print (node_object (id_text id) (extra_of extras r.node) r)) ++ codes "\n"

-- The lines of the nodes, in the order of the list.
abbrev pub json_lines : List Extra → List (List Pair) → List NodeOutcome → List ℕ
json_lines extras ids rs = flat_map (λ r. json_line extras (slice_index_or ids r.node []) r) rs

-- How many tests there are, and how many ended in each way.
unfoldable pub count_totals : TestCounts → List ℕ
count_totals n =
    codes "\"tests\":" ++ decimal n.tests ++ codes ",\"successful\":" ++ decimal n.successful
    ++ codes ",\"aborted\":" ++ decimal n.aborted ++ codes ",\"failed\":" ++ decimal n.failed
    ++ codes ",\"skipped\":" ++ decimal n.skipped

-- The sums over all nodes.
unfoldable pub sum_totals : NodeSums → List ℕ
sum_totals n =
    codes ",\"computed\":" ++ decimal n.computed ++ codes ",\"found\":" ++ decimal n.found
    ++ codes ",\"closed\":" ++ decimal n.closed ++ codes ",\"close_faults\":" ++ decimal n.close_faults

-- The last line.
abbrev pub totals_line : List NodeOutcome → List ℕ
totals_line rs =
    codes "{\"version\":1,\"totals\":{" ++ count_totals (counts_of rs) ++ sum_totals (sums_of rs) ++ codes "}}\n"

-- The report where this is known of the nodes.
abbrev pub json_with : List Extra → List (List Pair) → List NodeOutcome → List ℕ
json_with extras ids rs = json_lines extras ids rs ++ totals_line rs

-- The report where nothing is.
abbrev pub json_report : List (List Pair) → List NodeOutcome → List ℕ
json_report ids rs = json_with [] ids rs
