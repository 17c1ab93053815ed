use Rattle.ext_store_core.proofs.Waited.{Waited}
use Rattle.ext_store_core.proofs.store_core.StoreCore.put_wait.Given as goal

abbrev pub invariant-loop : goal.invariant-loop
invariant-loop g l = Waited l.fn.lane l.lane
