use Rattle.ext_ids.proofs.GrammarLaws.{each_text_is_decided}
use Rattle.ext_ids.proofs.laws.id_or_fault.Goals as goal

pub returns : goal.returns
returns c = each_text_is_decided
