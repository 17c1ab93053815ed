use Rattle.std.proofs.Common.{inr, refl, subst, sym}
use Rattle.ext_ids.specs.Grammar.{IsId}
use Rattle.ext_ids.proofs.MadeIds.{is_id}
use Rattle.ext_ids.proofs.id.UniqueId.from_parts.Goals as goal

pub invariant_of-result : goal.invariant_of-result
invariant_of-result c = subst IsId (sym c.in-Ok.ensures) (is_id _ (sym c.in_default.ensures))

pub returns-in-Ok : goal.returns-in-Ok
returns-in-Ok c = record { made = (is_id _ (sym c.in_default.ensures), c.in-Ok.ensures) }

pub returns-in-Err : goal.returns-in-Err
returns-in-Err c = record { made = inr (refl, is_id _ (sym c.in_default.ensures)) }
