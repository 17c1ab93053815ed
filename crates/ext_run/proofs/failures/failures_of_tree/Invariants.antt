use Rattle.std.proofs.Common.{◌≡◌, string_bytes}
use Rattle.ext_run.specs.Failures.{failures_below}
use Rattle.ext_run.specs.FailureForms.{line_in}
use Rattle.ext_run.proofs.failures.failures_of_tree.Given as goal

abbrev pub invariant-loop-node : goal.invariant-loop-node
invariant-loop-node l = string_bytes l.text ≡ failures_below (line_in l.form l.tree) l.tree l.faults l.node
