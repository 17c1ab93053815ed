-- Whether a node may run beside its siblings, and in which order a single lane runs children (JUnit 5 User Guide,
-- "Parallel Execution"). That concurrent children run before the others is not from JUnit.
use Rattle.std.specs.Prelude.{ℕ, Bool, true, false, not, List, ◌++◌, filter}
use Rattle.ext_lifecycle.specs.declared.mode.Mode.{Mode}
use Rattle.ext_lifecycle.specs.declared.mode.Mode.TheVariants as modes

-- The node may run beside its siblings.
abbrev pub is_concurrent : Mode → Bool
is_concurrent modes.SameThread = false
is_concurrent modes.Concurrent = true

-- First the concurrent children in order, then the others in order.
abbrev pub in_run_order : (ℕ → Bool) → List ℕ → List ℕ
in_run_order concurrent children = filter concurrent children ++ filter (λ child. not (concurrent child)) children
