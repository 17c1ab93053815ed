use Rattle.std.proofs.Common.{◌≡◌, drop}
use Rattle.ext_model.specs.State.{lookup}
use Rattle.ext_model.specs.Plain.{state_of, under}
use Rattle.ext_model.proofs.plain.PlainStore.get.Given as goal

abbrev pub invariant-loop-context : goal.invariant-loop-context
invariant-loop-context l = lookup (under (state_of l.self) l.key) l.path ≡ lookup (under (state_of l.self) l.key) (drop l.context-index l.path)
