use Rattle.std.proofs.Common.{◌≡◌, drop}
use Rattle.ext_model.specs.State.{lookup}
use Rattle.ext_model.specs.Plain.{under}
use Rattle.ext_plan_plain.specs.InnerPlaces.{shown}
use Rattle.ext_plan_plain.proofs.place_store.PlaceStore.get.Given as goal

abbrev pub invariant-loop-context : goal.invariant-loop-context
invariant-loop-context l = lookup (under (shown l.self) l.key) l.path ≡ lookup (under (shown l.self) l.key) (drop l.context-index l.path)
