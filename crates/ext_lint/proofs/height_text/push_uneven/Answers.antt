use Rattle.std.proofs.Common.{rules, append_assoc}
use Rattle.ext_lint.specs.NoteLines.{uneven_note}
use Rattle.ext_lint.proofs.height_text.push_uneven.Goals as goal

pub returns : goal.returns
unfolding uneven_note
returns c = search (rules, append_assoc)
