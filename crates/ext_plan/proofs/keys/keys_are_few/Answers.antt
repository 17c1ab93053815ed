use Rattle.std.proofs.Common.{◌+◌, ◌∙◌, ap, arith, drop, Err}
use Rattle.ext_plan.specs.Plans.{key_view, keys_view}
use Rattle.ext_plan.specs.StoreKeys.{keys_with, HasParts}
use Rattle.ext_plan.proofs.Lists.{map-drop, All-map-at}
use Rattle.ext_plan.proofs.Counted.{are_many}
use Rattle.ext_plan.proofs.keys.keys_are_few.Goals as goal

pub declare-requires-clause-parts : goal.declare-requires-clause-parts
declare-requires-clause-parts c = All-map-at HasParts key_view c.args.keys.now c.loop-key.key-index c.key-item.result c.loop-key-test.true c.key-item.is c.requires.parts

pub returns-in-Err-TooMany : goal.returns-in-Err-TooMany
returns-in-Err-TooMany c =
    let keys = c.args.keys.now in
    let i = c.loop-key.key-index in
    let more = map-drop key_view keys i c.key-item.result (omega arith) c.key-item.is in
    let many = c.declare.ensures.full (c.in-Err-TooMany.is ∙ ap Err c.in-Err-TooMany.field-0-is) in
    are_many c.loop-key.directory _ (key_view c.key-item.result) c.args.most (keys_view (drop (i + 1) keys)) (c.loop-key.invariant.rest ∙ ap (keys_with c.loop-key.directory) more) many
