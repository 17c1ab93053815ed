use Rattle.std.proofs.Common.{rules, append_assoc}
use Rattle.ext_plan.specs.StepTexts.{refused_text}
use Rattle.ext_plan.proofs.step_text.refused_text.Goals as goal

pub returns : goal.returns
unfolding refused_text
returns c = search (rules, append_assoc)
