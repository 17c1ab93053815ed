use Rattle.ext_ids.proofs.MadeIds.{fault_free, is_id}
use Rattle.ext_ids.proofs.laws.parts_or_fault.Goals as goal

pub returns : goal.returns
returns c = λ parts. (is_id parts, fault_free parts)
