use Rattle.std.proofs.Common.{◌≡◌, drop}
use Rattle.std.specs.Prelude.{fold, map}
use Rattle.ext_plan.specs.Plans.{lock_view}
use Rattle.ext_plan.specs.LockNames.{lock_name, with_name}
use Rattle.ext_plan.proofs.lock_names.add_names.Given as goal

abbrev pub invariant-loop-lock : goal.invariant-loop-lock
invariant-loop-lock l =
    fold with_name (map (λ n. n.now) l.initial.names.items) (map (λ k. lock_name (lock_view k)) l.locks) ≡ fold with_name (map (λ n. n.now) l.names.items) (map (λ k. lock_name (lock_view k)) (drop l.lock-index l.locks))
