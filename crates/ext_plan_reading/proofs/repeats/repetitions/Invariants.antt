use Rattle.std.proofs.Common.{◌≡◌, map}
use Rattle.ext_plan_reading.specs.InnerSketches.{sketch_view}
use Rattle.ext_plan_reading.specs.NodeReading.{repetitions}
use Rattle.ext_plan_reading.proofs.repeats.repetitions.Given as goal

abbrev pub invariant-loop-before : goal.invariant-loop-before
invariant-loop-before l = map sketch_view l.tests.items ≡ repetitions (sketch_view l.test) l.before
