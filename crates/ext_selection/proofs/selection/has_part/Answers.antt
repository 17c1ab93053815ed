use Rattle.std.proofs.lemmas.Str.Pattern.{contains_text}
use Rattle.ext_selection.proofs.Texts.{has_part_is}
use Rattle.ext_selection.proofs.selection.has_part.Goals as goal

pub returns : goal.returns
returns c = has_part_is c.args.text.now c.args.id.now c.contains.result
    (contains_text c.contains.result c.args.text.now c.args.id.now c.contains.ensures.cases)
