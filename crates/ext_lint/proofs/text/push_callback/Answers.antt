use Rattle.std.proofs.Common.{rules, append_assoc}
use Rattle.ext_lint.specs.NoteLines.{callback_note}
use Rattle.ext_lint.proofs.text.push_callback.Goals as goal

pub returns : goal.returns
unfolding callback_note
returns c = search (rules, append_assoc)
