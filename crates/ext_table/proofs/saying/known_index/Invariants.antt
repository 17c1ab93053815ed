use Rattle.std.proofs.Common.{◌≢◌, ◌<◌, ℕ, [], get_or}
use Rattle.ext_table.specs.Tables.{texts_in}
use Rattle.ext_table.proofs.saying.known_index.Given as goal

abbrev pub invariant-loop-index : goal.invariant-loop-index
invariant-loop-index l = (k : ℕ) → k < l.index → get_or (texts_in l.names) k [] ≢ l.name
