use Rattle.std.proofs.Common.{◌∙◌}
use Rattle.ext_plan_reading.proofs.StepWords.{no_height}
use Rattle.ext_plan_reading.proofs.steps.height_of.Goals as goal

pub returns-in_err-index : goal.returns-in_err-index
returns-in_err-index c = c.from_residual.ensures ∙ no_height c.args.word.now c.args.number.now c.in_err-index.ensures.index
