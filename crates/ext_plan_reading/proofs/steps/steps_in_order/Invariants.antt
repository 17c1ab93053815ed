use Rattle.std.proofs.Common.{◌≡◌, drop, map, []}
use Rattle.ext_plan.specs.Plans.{steps_view}
use Rattle.ext_plan_reading.specs.StepReading.{steps_after}
use Rattle.ext_plan_reading.proofs.steps.steps_in_order.Given as goal

abbrev pub invariant-loop-text : goal.invariant-loop-text
invariant-loop-text l =
    steps_after l.labels l.depth l.node [] (map (λ t. t.now) l.texts) ≡ steps_after l.labels l.depth l.node (steps_view l.steps) (map (λ t. t.now) (drop l.text-index l.texts))
