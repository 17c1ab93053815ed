use Rattle.std.proofs.Common.{◌≡◌, ◌++◌, drop, string_bytes}
use Rattle.std.specs.List.{flat_map}
use Rattle.ext_report.specs.JunitCases.{class_name}
use Rattle.ext_report.proofs.ClassNames.{behind}
use Rattle.ext_report.proofs.names.class_name.Given as goal

abbrev pub invariant-loop-further : goal.invariant-loop-further
invariant-loop-further l = string_bytes l.name ++ flat_map behind (drop l.further l.id) ≡ class_name l.id
