use Rattle.std.proofs.Common.{◌∙◌, sym}
use Rattle.ext_model.specs.Plain.{under}
use Rattle.ext_plan_plain.specs.InnerPlaces.{shown}
use Rattle.ext_plan_plain.proofs.Places.{look_decides, look_passes}
use Rattle.ext_plan_plain.proofs.place_store.PlaceStore.get.Goals as goal

pub returns-in_default : goal.returns-in_default
returns-in_default c =
    look_decides (under (shown c.args.self.now) c.args.key) c.args.path.now c.loop-context.context-index c.look_in.result c.loop-context-test.true c.look_in.ensures c.in_default.not-Absent
    ∙ sym c.loop-context.invariant

pub loop-context-preserved : goal.loop-context-preserved
loop-context-preserved c =
    c.loop-context.invariant
    ∙ look_passes (under (shown c.args.self.now) c.args.key) c.args.path.now c.loop-context.context-index c.loop-context-test.true (sym c.in-Absent.is ∙ c.look_in.ensures)
