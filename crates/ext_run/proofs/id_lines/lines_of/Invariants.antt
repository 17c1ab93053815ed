use Rattle.std.proofs.Common.{◌≡◌, ◌++◌, drop, string_bytes}
use Rattle.std.specs.List.{flat_map}
use Rattle.ext_run.specs.IdText.{pair_line}
use Rattle.ext_run.proofs.id_lines.lines_of.Given as goal

abbrev pub invariant-loop-i : goal.invariant-loop-i
invariant-loop-i l = string_bytes l.lines ++ flat_map pair_line (drop l.i l.id) ≡ flat_map pair_line l.id
