use Rattle.ext_plan.specs.StoreKeys.{HasParts}
use Rattle.ext_plan.specs.Plans.{key_view}
use Rattle.ext_plan.proofs.Lists.{All-map-at}
use Rattle.ext_plan.proofs.KeysMade.{one_more_key}
use Rattle.ext_plan.proofs.keys.store_keys_of.Goals as goal

pub store_key-requires : goal.store_key-requires
store_key-requires c = All-map-at HasParts key_view c.args.keys.now c.loop-key.key-index c.key-item.result c.loop-key-test.true c.key-item.is c.requires

pub loop-key-preserved : goal.loop-key-preserved
loop-key-preserved c =
    one_more_key c.args.keys.now c.loop-key.key-index c.key-item.result c.loop-key.list.items c.push.new.self.items c.in-Ok.key c.loop-key-test.true c.key-item.is c.loop-key.invariant c.in-Ok.ensures.value c.in_ok-push-in-Ok.ensures.items
