use Rattle.std.proofs.Common.{rules, append_assoc}
use Rattle.ext_lint.specs.NoteLines.{node_step_words}
use Rattle.ext_lint.proofs.text.push_node_step.Goals as goal

pub returns : goal.returns
unfolding node_step_words
returns c = search (rules, append_assoc)
