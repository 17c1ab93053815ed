-- How a time is told. Times are numbers of nanoseconds.
use Rattle.std.specs.Prelude.{ℕ, ◌/◌, codes, List, ◌++◌}
use Rattle.ext_report.specs.Extras.{seconds}

-- In seconds, for instance `0.123 s`, without what is less than a millisecond.
abbrev pub seconds_text : ℕ → List ℕ
seconds_text nanos = seconds (nanos / 1000000) ++ codes " s"
