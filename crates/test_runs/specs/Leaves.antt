-- The nodes of the suites of the tests: a node with nothing below it is a test, and may run beside others.
-- JUnit 5 User Guide, "Parallel Execution" and "Synchronization".
use Rattle.std.specs.Prelude.{false, List}
use Rattle.ext_tree.specs.Trees.{Id}
use Rattle.ext_engine.specs.Leaves.{is_leaf}
use Rattle.ext_engine.specs.Suites.{Asked, SuiteView}

-- such contexts are tests, which may run beside one another; no node is isolated, and each names these locks
abbrev pub leaves_with : List Id → List Asked → SuiteView
leaves_with ids locks =
    record { is_concurrent = is_leaf ids; is_isolated = λ node. false; is_test = is_leaf ids; locks = λ node. locks }
