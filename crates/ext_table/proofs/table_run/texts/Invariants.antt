use Rattle.std.proofs.Common.{◌≡◌, take}
use Rattle.ext_locks.specs.Names.{texts_of}
use Rattle.ext_table.specs.Tables.{texts_in}
use Rattle.ext_table.proofs.table_run.texts.Given as goal

abbrev pub invariant-loop-name : goal.invariant-loop-name
invariant-loop-name l = texts_of l.texts.items ≡ texts_in (take l.name-index l.names)
