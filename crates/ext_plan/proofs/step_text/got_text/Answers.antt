use Rattle.std.proofs.Common.{rules, append_assoc}
use Rattle.ext_plan.specs.StepTexts.{got_text}
use Rattle.ext_plan.proofs.step_text.got_text.Goals as goal

pub returns : goal.returns
unfolding got_text
returns c = search (rules, append_assoc)
