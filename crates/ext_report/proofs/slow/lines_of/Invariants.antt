use Rattle.std.proofs.Common.{◌≡◌, string_bytes, take}
use Rattle.std.specs.List.{flat_map}
use Rattle.ext_report.specs.Slow.{slow_line}
use Rattle.ext_report.proofs.slow.lines_of.Given as goal

abbrev pub invariant-loop-timed : goal.invariant-loop-timed
invariant-loop-timed l = string_bytes l.text ≡ flat_map (slow_line l.tree) (take l.timed-index l.slow)
