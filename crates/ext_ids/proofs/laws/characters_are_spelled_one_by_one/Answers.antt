use Rattle.ext_ids.proofs.GrammarLaws.{spells_characters}
use Rattle.ext_ids.proofs.laws.characters_are_spelled_one_by_one.Goals as goal

pub returns : goal.returns
returns c = spells_characters
