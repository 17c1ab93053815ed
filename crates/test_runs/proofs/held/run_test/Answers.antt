use Rattle.ext_engine.proofs.Named.{one_name}
use Rattle.test_runs.proofs.held.run_test.Goals as goal

pub leaf_laws-requires-clause-names : goal.leaf_laws-requires-clause-names
leaf_laws-requires-clause-names g c κs inside node within = one_name c.args.locks.now _ _ c.requires.lock
