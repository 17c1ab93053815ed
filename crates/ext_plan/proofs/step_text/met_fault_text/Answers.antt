use Rattle.std.proofs.Common.{rules, append_assoc}
use Rattle.ext_plan.specs.StepTexts.{met_fault_text}
use Rattle.ext_plan.proofs.step_text.met_fault_text.Goals as goal

pub returns : goal.returns
unfolding met_fault_text
returns c = search (rules, append_assoc)
