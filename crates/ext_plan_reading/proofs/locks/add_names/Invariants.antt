use Rattle.std.proofs.Common.{◌≡◌, drop}
use Rattle.std.specs.Prelude.{fold, map}
use Rattle.ext_plan.specs.Plans.{lock_view}
use Rattle.ext_plan.specs.LockNames.{lock_name, with_name}
use Rattle.ext_plan_reading.proofs.locks.add_names.Given as goal

abbrev pub invariant-loop-lock : goal.invariant-loop-lock
invariant-loop-lock l =
    fold with_name l.initial.names (map (λ k. lock_name (lock_view k)) l.locks) ≡ fold with_name l.names (map (λ k. lock_name (lock_view k)) (drop l.lock-index l.locks))
