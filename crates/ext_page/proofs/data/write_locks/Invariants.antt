use Rattle.std.proofs.Common.{◌≡◌, ◌++◌, take}
use Rattle.std.specs.List.{flat_map}
use Rattle.ext_page.specs.Data.{lock_tokens}
use Rattle.ext_page.proofs.data.write_locks.Given as goal

abbrev pub invariant-loop-name : goal.invariant-loop-name
invariant-loop-name l = record {
  before : l.writer.before ≡ l.initial.writer.before;
  tokens : l.writer.tokens ≡ l.initial.writer.tokens ++ flat_map lock_tokens (take l.name-index l.names);
}
