use Rattle.ext_store_core.proofs.DrawnAgain.{DrawsAgain}
use Rattle.ext_store_core.proofs.store_core.StoreCore.keep_wait.Given as goal

abbrev pub invariant-loop : goal.invariant-loop
invariant-loop l = DrawsAgain l.fn.lane l.lane l.counter
