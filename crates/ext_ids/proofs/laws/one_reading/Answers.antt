use Rattle.ext_ids.proofs.GrammarLaws.{text_tells_pairs}
use Rattle.ext_ids.proofs.laws.one_reading.Goals as goal

pub returns : goal.returns
returns c = text_tells_pairs
