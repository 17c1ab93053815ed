use Rattle.std.proofs.Common.{◌∙◌, subst}
use Rattle.ext_c.specs.Faults.{IsFaultOf}
use Rattle.ext_c.proofs.Faults.{not_read, read_back}
use Rattle.ext_c.proofs.fault.handle_of.Goals as goal

pub returns-in-Ok-clause-handle : goal.returns-in-Ok-clause-handle
returns-in-Ok-clause-handle c =
    λ own few is. read_back (Unit {0}) own c.in-Ok.handle c.deref.result.now few (c.deref.ensures ∙ subst (IsFaultOf own) c.in-Text.is is) c.in-Ok.ensures.value.0

pub returns-in-Err-clause-none : goal.returns-in-Err-clause-none
returns-in-Err-clause-none c =
    λ own few is. not_read (Unit {0}) own c.deref.result.now _ few (c.deref.ensures ∙ subst (IsFaultOf own) c.in-Text.is is) c.in-Err.ensures.value.0
