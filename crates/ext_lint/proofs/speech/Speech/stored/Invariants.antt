use Rattle.std.proofs.Common.{◌≡◌, ◌++◌, drop, map}
use Rattle.ext_lint.specs.InnerLists.{declared_in, said_view}
use Rattle.ext_lint.specs.NodeSteps.{node_step_view}
use Rattle.ext_lint.specs.Said.{said_by, stores}
use Rattle.ext_lint.proofs.speech.Speech.stored.Given as goal

abbrev pub invariant-loop-node_step : goal.invariant-loop-node_step
invariant-loop-node_step l = said_by (declared_in l.self) l.self.directory.now stores (map node_step_view l.node_steps)
    ≡ map said_view l.stored.items ++ said_by (declared_in l.self) l.self.directory.now stores (map node_step_view (drop l.node_step-index l.node_steps))
