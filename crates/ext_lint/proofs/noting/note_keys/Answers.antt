use Rattle.ext_plan.specs.Plans.{key_view}
use Rattle.ext_plan.specs.StoreKeys.{HasParts}
use Rattle.ext_plan.proofs.Lists.{All-map-at}
use Rattle.ext_lint.proofs.noting.note_keys.Goals as goal

pub note_key-requires : goal.note_key-requires
note_key-requires c = All-map-at HasParts key_view c.args.keys.now c.loop-key.key-index c.key-item.result c.loop-key-test.true c.key-item.is c.requires
