use Rattle.std.proofs.Common.{ap}
use Rattle.ext_model.specs.State.{State}
use Rattle.ext_model.specs.Plain.{Place}
use Rattle.ext_plan_plain.proofs.place_store.PlaceStore.new.Goals as goal

pub invariant_of-result : goal.invariant_of-result
invariant_of-result c = record { few = c.requires; noted = record { empty = λ place _. ap (λ (s : State Place). s.slots place) c.new.ensures.state } }
