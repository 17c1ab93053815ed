use Rattle.std.proofs.Common.{rules, append_assoc}
use Rattle.ext_lint.specs.NoteLines.{missing_note}
use Rattle.ext_lint.proofs.text.push_missing.Goals as goal

pub returns : goal.returns
unfolding missing_note
returns c = search (rules, append_assoc)
