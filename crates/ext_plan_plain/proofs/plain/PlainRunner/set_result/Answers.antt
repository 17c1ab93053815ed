use Rattle.std.proofs.Common.{refl}
use Rattle.std.proofs.lemmas.List.{map-set}
use Rattle.ext_plan_plain.proofs.plain.PlainRunner.set_result.Goals as goal

pub returns-then-node-len-clause-results : goal.returns-then-node-len-clause-results
returns-then-node-len-clause-results g c = rw map-set refl
