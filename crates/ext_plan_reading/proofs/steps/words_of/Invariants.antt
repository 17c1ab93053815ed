use Rattle.std.proofs.Common.{◌≡◌}
use Rattle.ext_plan_reading.proofs.steps.words_of.Given as goal

abbrev pub invariant-loop-word : goal.invariant-loop-word
invariant-loop-word l = l.words.items ≡ l.yielded
