use Rattle.std.proofs.Common.{refl}
use Rattle.ext_table.proofs.Runnable.{table_runnable}
use Rattle.ext_table.proofs.table_run.table_laws.Goals as goal

pub returns : goal.returns
returns g c = record { runnable = table_runnable c.args.suite.now.store.now c.args.locks.now c.args.suite.now.rows.now c.args.suite.now.names.now c.args.suite.now.store.now.tree refl c.requires.known c.requires.names }
