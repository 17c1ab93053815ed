use Rattle.std.proofs.Common.{◌≡◌, drop, map, []}
use Rattle.ext_plan.specs.Plans.{callbacks_view}
use Rattle.ext_plan_reading.specs.CallbackReading.{callbacks_after}
use Rattle.ext_plan_reading.specs.InnerSketches.{words_view}
use Rattle.ext_plan_reading.proofs.callbacks.callbacks_in_order.Given as goal

abbrev pub invariant-loop-texts : goal.invariant-loop-texts
invariant-loop-texts l =
    callbacks_after l.labels l.depth l.node [] (map words_view l.lists) ≡ callbacks_after l.labels l.depth l.node (callbacks_view l.callbacks) (map words_view (drop l.texts-index l.lists))
