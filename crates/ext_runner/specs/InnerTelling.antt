-- What is reported of a run, and how the program ends. `ext_report` has the forms of a report.
use Rattle.std.specs.Prelude.{ℕ, ◌==◌, ◌&&◌, nat_lt, Bool, true, false, codes, encode_utf8, List, ◌++◌, map, Option, Some, None, if◌then◌else◌, slice_get, string_bytes}
use Rattle.std.specs.List.{flat_map}
use Rattle.std.specs.Str.{chars}
use Rattle.ext_lifecycle.specs.FaultTexts.{NodeOutcome}
use Rattle.ext_lifecycle.specs.Results.{map_fault}
use Rattle.ext_lifecycle.specs.declared.node_result.NodeResult.{NodeResult}
use Rattle.ext_report.specs.Extras.{extra_by}
use Rattle.ext_report.specs.Report.{any_failed}
use Rattle.ext_report.specs.declared.extra.Extra.{Extra}
use Rattle.ext_table.specs.declared.listener.LeftOut.{LeftOut}
use Rattle.ext_table.specs.declared.listener.LeftOut.TheVariants as left_out
use Rattle.ext_runner.specs.declared.node_log.NodeLog.{NodeLog}
use Rattle.ext_runner.specs.declared.ending.Ending.{Ending}
use Rattle.ext_runner.specs.declared.ending.Ending.TheVariants.{Failed, NothingSelected, NotRun, Passed, WrongWords}

-- ---- which results are reported

-- Whether a node came: one in reserve may not.
abbrev pub comes : Option LeftOut → Bool
comes None = true
comes (Some left_out.Stopped) = true
comes (Some left_out.DidNotCome) = false

abbrev pub has_come : Option NodeLog → Bool
has_come None = false
has_come (Some log) = comes log.left_out

-- Whether a result is reported in a tree of so many nodes, by what is known of each.
abbrev pub is_reported : ℕ → List NodeLog → NodeResult → Bool
is_reported count logs r = nat_lt r.node count && has_come (slice_get logs r.node)

-- What is reported of a node beside its fault: how it ended, and what it counted.
abbrev pub without_faults : NodeResult → NodeResult
without_faults r = record r { fault = None; more = 0 }

-- What is reported of a node beside its result.
abbrev pub extra_of : NodeLog → Extra
extra_of log = extra_by log.took log.attempt

-- What the attempts of each node before its last said.
abbrev pub earlier_texts : List NodeLog → List (List (List ℕ))
earlier_texts logs = map (λ log. map string_bytes log.earlier.items) logs

-- ---- texts

-- A character of a text of several lines. In ASCII 10 is the line feed.
abbrev pub indented_character : ℕ → List ℕ
indented_character c = encode_utf8 c ++ (if c == 10 then codes "    " else codes "")

-- The text, whose lines behind the first are indented.
abbrev pub indented : List ℕ → List ℕ
indented text = flat_map indented_character (chars text)

abbrev pub with_indented_fault : NodeOutcome → NodeOutcome
with_indented_fault r = map_fault indented r

-- ---- endings

-- How the program ends after a run with these results, where all files were written, or not all.
abbrev pub ending_of : Bool → List NodeOutcome → Ending
ending_of false rs = NotRun
ending_of true rs = if any_failed rs then Failed else Passed

-- The exit status of the program.
abbrev pub exit_code : Ending → ℕ
exit_code Passed = 0
exit_code Failed = 1
exit_code WrongWords = 2
exit_code NotRun = 3
exit_code NothingSelected = 4
