use Rattle.std.proofs.Common.{refl}
use Rattle.std.specs.Prelude.{Ok, Err}
use Rattle.ext_table.proofs.suite.TableSuite.made_of.Goals as goal

pub returns-in-Ok : goal.returns-in-Ok
returns-in-Ok g c = record { made = Ok c.in-Ok.shared; gives = c.in-Ok.ensures; kept_is = refl }

pub returns-in-Err : goal.returns-in-Err
returns-in-Err g c = record { made = Err c.in-Err.stop; gives = c.in-Err.ensures; kept_is = (c.fault.result, c.fault.ensures, refl) }
