use Rattle.std.proofs.Common.{◌≡◌, ◌++◌, string_bytes, take}
use Rattle.std.specs.List.{flat_map}
use Rattle.ext_plan_reading.specs.Plans.{lock_view}
use Rattle.ext_run.specs.Drawings.{lock_words}
use Rattle.ext_run.proofs.drawing.write_locks.Given as goal

abbrev pub invariant-loop-lock : goal.invariant-loop-lock
invariant-loop-lock l = string_bytes l.text ≡ string_bytes l.initial.text ++ flat_map (λ lock. lock_words (lock_view lock)) (take l.lock-index l.locks)
