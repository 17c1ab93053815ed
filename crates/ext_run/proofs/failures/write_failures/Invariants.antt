use Rattle.std.proofs.Common.{◌≡◌, ◌++◌, string_bytes, take}
use Rattle.ext_report.specs.Groups.{shown}
use Rattle.ext_run.specs.FailureForms.{line_in}
use Rattle.ext_run.specs.InnerFailures.{lines_of}
use Rattle.ext_run.proofs.failures.write_failures.Given as goal

abbrev pub invariant-loop-fault : goal.invariant-loop-fault
invariant-loop-fault l = string_bytes l.text ≡ string_bytes l.initial.text ++ lines_of (line_in l.form l.tree) l.id (shown (take l.fault-index l.faults))
