-- A case of a suite in JUnit's XML (`JunitXml`): its names, its time, and how it ended.
use Rattle.std.specs.Prelude.{ℕ, zero, suc, ◌+◌, ◌-◌, Bool, true, false, ◌==◌, codes, List, [], ◌∷◌, ◌++◌, length, Option, Some, None, if◌then◌else◌, slice_get}
use Rattle.std.specs.List.{before_first, join_by, slice_index_or}
use Rattle.std.specs.Fmt.{decimal}
use Rattle.ext_tree.specs.Trees.{Id, id_at}
use Rattle.ext_lifecycle.specs.declared.status.Status.{Status}
use Rattle.ext_lifecycle.specs.declared.status.Status.TheVariants as statuses
use Rattle.ext_lifecycle.specs.FaultTexts.{NodeOutcome}
use Rattle.ext_report.specs.declared.extra.Extra.{Extra}
use Rattle.ext_report.specs.Extras.{earlier_of, extra_of, seconds}
use Rattle.ext_report.specs.Xml.{xml_text}

-- ---- how it ended

-- What stands before the first line feed, or the whole text.
abbrev pub first_line : List ℕ → List ℕ
first_line text = before_first (λ b. b == 10) text

-- How many more faults and aborts there are, if any, on a line of their own.
abbrev pub further_line : ℕ → List ℕ
further_line more = if more == 0 then [] else codes "&#10;(+" ++ decimal more ++ codes ")"

-- An element with a fault, if there is one: its first line is the message, and the text is all of it. `kind` is the
-- attribute of the element's type, which may be empty.
abbrev pub fault_element : List ℕ → List ℕ → Option (List ℕ) → ℕ → List ℕ
fault_element name kind None more = codes "<" ++ name ++ kind ++ codes "/>"
fault_element name kind (Some fault) more =
    codes "<" ++ name ++ kind ++ codes " message=\"" ++ xml_text (first_line fault) ++ codes "\">" ++ xml_text fault
    ++ further_line more ++ codes "</" ++ name ++ codes ">"

-- An attempt that failed and said this.
abbrev pub said_element : List ℕ → List ℕ
said_element text =
    codes "<flakyFailure type=\"failed\" message=\"" ++ xml_text (first_line text) ++ codes "\"><stackTrace>"
    ++ xml_text text ++ codes "</stackTrace></flakyFailure>"

-- An attempt that failed, with what it said, if that is known.
abbrev pub flaky_element : ℕ → Option (List ℕ) → List ℕ
flaky_element attempt None =
    codes "<flakyFailure type=\"failed\" message=\"failed at attempt " ++ decimal attempt ++ codes "\"/>"
flaky_element attempt (Some text) = said_element text

-- The first `n` attempts, all of which failed.
unfoldable pub flaky_elements : List (List ℕ) → ℕ → List ℕ
flaky_elements said zero = []
flaky_elements said (suc n) = flaky_elements said n ++ flaky_element (n + 1) (slice_get said n)

-- How a case ended. The fault of a skipped one is why it was, if that is known, and of a successful one the attempts
-- before it passed are told, which said this.
abbrev pub ending_element : List (List ℕ) → ℕ → Status → Option (List ℕ) → ℕ → List ℕ
ending_element said attempt statuses.Successful fault more = flaky_elements said (attempt - 1)
ending_element said attempt statuses.Aborted fault more = fault_element (codes "skipped") [] fault more
ending_element said attempt statuses.Failed fault more = fault_element (codes "failure") (codes " type=\"failed\"") fault more
ending_element said attempt statuses.Skipped fault more = fault_element (codes "skipped") [] fault more

-- ---- times

abbrev pub time_attribute : Option ℕ → List ℕ
time_attribute None = []
time_attribute (Some millis) = codes " time=\"" ++ seconds millis ++ codes "\""

-- The time of a case: a container that is one has none.
abbrev pub case_time : Bool → Option ℕ → List ℕ
case_time true millis = time_attribute millis
case_time false millis = []

-- ---- names

-- The values of an id's segments below the engine, decoded and joined by dots: of the root's id the engine's own.
abbrev pub class_name : Id → List ℕ
class_name [] = []
class_name (engine ∷ []) = engine.1
class_name (engine ∷ first ∷ more) = join_by (λ segment. segment.1) (codes ".") (first ∷ more)

-- The name of a context's suite, which is the class of its cases.
abbrev pub suite_name : Id → List ℕ
suite_name id = xml_text (class_name id)

-- The name of a case: the value of its last segment, decoded.
abbrev pub case_name : Id → List ℕ
case_name id = xml_text (slice_index_or id (length id - 1) ([], [])).1

-- What follows a case's name.
abbrev pub case_end : Extra → List (List ℕ) → NodeOutcome → List ℕ
case_end extra said r =
    codes "\"" ++ case_time r.is_test extra.millis ++ codes ">"
    ++ ending_element said extra.attempt r.status r.fault r.more ++ codes "</testcase>\n"

-- A case of the suite with this name.
abbrev pub case_element : List Extra → List (List (List ℕ)) → List Id → List ℕ → NodeOutcome → List ℕ
case_element extras earlier ids suite r =
    codes "    <testcase classname=\"" ++ suite ++ codes "\" name=\"" ++ case_name (id_at ids r.node)
    ++ case_end (extra_of extras r.node) (earlier_of earlier r.node) r
