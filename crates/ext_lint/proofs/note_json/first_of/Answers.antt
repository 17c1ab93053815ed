use Rattle.ext_lint.proofs.Lines.{first_taken}
use Rattle.ext_lint.proofs.note_json.first_of.Goals as goal

pub returns : goal.returns
returns c = first_taken c.args.notes.now c.min.result c.min.ensures
