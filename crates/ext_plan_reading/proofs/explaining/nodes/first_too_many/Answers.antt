use Rattle.ext_plan.specs.StoreKeys.{HasParts}
use Rattle.ext_plan.specs.Plans.{key_view}
use Rattle.ext_plan.proofs.Lists.{All-map-at}
use Rattle.ext_plan_reading.proofs.explaining.nodes.first_too_many.Goals as goal

pub declare-requires-clause-parts : goal.declare-requires-clause-parts
declare-requires-clause-parts c = All-map-at HasParts key_view c.args.keys.now c.loop-key.key-index c.key-item.result c.loop-key-test.true c.key-item.is c.requires.parts
