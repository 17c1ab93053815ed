use Rattle.std.proofs.Common.{◌≡◌, drop, map, []}
use Rattle.ext_plan.specs.Plans.{locks_view}
use Rattle.ext_plan_reading.specs.LockReading.{locks_after}
use Rattle.ext_plan_reading.proofs.locks.locks_in_order.Given as goal

abbrev pub invariant-loop-text : goal.invariant-loop-text
invariant-loop-text l = locks_after l.node [] (map (λ t. t.now) l.texts) ≡ locks_after l.node (locks_view l.locks) (map (λ t. t.now) (drop l.text-index l.texts))
