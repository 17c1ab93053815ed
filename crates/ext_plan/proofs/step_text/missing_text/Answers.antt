use Rattle.std.proofs.Common.{rules, append_assoc}
use Rattle.ext_plan.specs.StepTexts.{missing_text}
use Rattle.ext_plan.proofs.step_text.missing_text.Goals as goal

pub returns : goal.returns
unfolding missing_text
returns c = search (rules, append_assoc)
