-- What an engine knows of its nodes beside their results: how long a node took, by a clock of the engine's, and at which
-- attempt it passed. The list has one entry a context, in the order of the contexts. Of a context past its end nothing is
-- known, so of none where the list is empty.
--
-- A time is told in seconds with three decimals, and in JSON in milliseconds. An attempt is told of a successful node
-- alone, and from the second on: one that passed at its first attempt is told like one of which nothing is known. JUnit
-- has neither.
use Rattle.std.specs.Prelude.{ℕ, ◌/◌, ◌%◌, ◌^◌, codes, List, [], ◌++◌, map, Option, Some, None, String, string_bytes, if◌then◌else◌, nat_lt}
use Rattle.std.specs.Borrow.{Bor}
use Rattle.std.specs.Global.{Global}
use Rattle.std.specs.List.{slice_index_or}
use Rattle.std.specs.Fmt.{decimal}
use Rattle.std.specs.Duration.{as_nanos}
use Rattle.std.specs.declared.time.Duration.{Duration}
use Rattle.ext_lifecycle.specs.declared.status.Status.{Status}
use Rattle.ext_lifecycle.specs.declared.status.Status.TheVariants as statuses
use Rattle.ext_report.specs.declared.extra.Extra.{Extra}

abbrev pub nothing_known : Extra
nothing_known = record { millis = None; attempt = 0 }

abbrev pub extra_of : List Extra → ℕ → Extra
extra_of extras node = slice_index_or extras node nothing_known

-- What the attempts of a context before its last said, one after another: of one past the end of the list nothing is
-- known.
abbrev pub earlier_of : List (List (List ℕ)) → ℕ → List (List ℕ)
earlier_of earlier node = slice_index_or earlier node []

-- The texts of these attempts.
abbrev pub texts_view : List (Bor (List (String Global))) → List (List (List ℕ))
texts_view earlier = map (λ texts. map string_bytes texts.now) earlier

-- How long a node took in whole milliseconds, if it is known, and they fit 64 bits.
abbrev pub whole_millis : Option Duration → Option ℕ
whole_millis None = None
whole_millis (Some took) = if nat_lt (as_nanos took / 1_000_000) (2 ^ 64) then Some (as_nanos took / 1_000_000) else None

-- What is known of a node by its time and its last attempt.
abbrev pub extra_by : Option Duration → ℕ → Extra
extra_by took attempt = record { millis = whole_millis took; attempt = attempt }

-- So many milliseconds in seconds, as `0.123`.
unfoldable pub seconds : ℕ → List ℕ
seconds millis =
    decimal (millis / 1000) ++ codes "." ++ decimal (millis / 100 % 10) ++ decimal (millis / 10 % 10) ++ decimal (millis % 10)

-- How long a node took, in its line.
abbrev pub time_part : Option ℕ → List ℕ
time_part None = []
time_part (Some millis) = codes " took " ++ seconds millis ++ codes " s"

-- At which attempt a node passed, if not at the first.
abbrev pub flaky_part : ℕ → List ℕ
flaky_part attempt = if nat_lt 1 attempt then codes " flaky, passed at attempt " ++ decimal attempt else []

abbrev pub attempt_part : Status → ℕ → List ℕ
attempt_part statuses.Successful attempt = flaky_part attempt
attempt_part statuses.Aborted attempt = []
attempt_part statuses.Failed attempt = []
attempt_part statuses.Skipped attempt = []

-- What a node's line tells of it.
abbrev pub extra_part : Status → Extra → List ℕ
extra_part status extra = time_part extra.millis ++ attempt_part status extra.attempt
