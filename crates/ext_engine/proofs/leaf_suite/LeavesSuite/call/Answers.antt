use Rattle.std.proofs.Common.{refl}
use Rattle.std.specs.Prelude.{Ok, Err}
use Rattle.ext_engine.proofs.leaf_suite.LeavesSuite.call.Goals as goal

pub returns-in-Ok-clause-call : goal.returns-in-Ok-clause-call
returns-in-Ok-clause-call g c = record { answer = Ok c.in-Ok.outcome; gives = c.in-Ok.ensures.run; outcome_is = refl }

pub returns-in-Err-clause-call : goal.returns-in-Err-clause-call
returns-in-Err-clause-call g c = record { answer = Err c.in-Err.why; gives = c.in-Err.ensures.run; outcome_is = refl }
