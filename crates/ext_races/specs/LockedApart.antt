-- Which tests never run at one moment: both take one lock, one of them to write, or one of the two is isolated (JUnit 5
-- User Guide, "Synchronization"). Either of them may go first all the same, so they may race. A test takes the locks that
-- are named at it and above it, and a container takes none.
use Rattle.std.specs.Prelude.{ℕ, Bool, true, false, ◌&&◌, ◌||◌, List, is_some}
use Rattle.std.specs.List.{list_any}
use Rattle.std.specs.Str.{bytes_eq}
use Rattle.ext_plan.specs.LockNames.{lock_name}
use Rattle.ext_plan.specs.PlanCalls.{isolated_of, locks_of, test_of}
use Rattle.ext_plan.specs.Plans.{LockText, PlanText, read, read_write}
use Rattle.ext_races.specs.MadeSteps.{plan_path}

abbrev pub writes : LockText → Bool
writes (read name) = false
writes (read_write name) = true

-- The locks have one name, and one of them is for writing.
abbrev pub excludes : LockText → LockText → Bool
excludes lock other = (writes lock || writes other) && bytes_eq (lock_name lock) (lock_name other)

module _ (plan : PlanText) where
  -- The node names a lock that excludes this one.
  abbrev pub node_excludes : LockText → ℕ → Bool
  node_excludes lock node = list_any (λ other. excludes lock other) (locks_of plan node)

  -- A node of this path does so.
  abbrev pub path_excludes : List ℕ → LockText → Bool
  path_excludes path lock = list_any (λ node. node_excludes lock node) path

  -- A lock of the one path excludes one of the other.
  abbrev pub locks_exclude : List ℕ → List ℕ → Bool
  locks_exclude path other = list_any (λ node. list_any (λ lock. path_excludes other lock) (locks_of plan node)) path

  abbrev pub is_isolated : List ℕ → Bool
  is_isolated path = list_any (λ node. isolated_of plan node) path

  -- Tests with these paths never run at one moment.
  abbrev pub paths_exclude : List ℕ → List ℕ → Bool
  paths_exclude path other = is_isolated path || is_isolated other || locks_exclude path other

  -- So do two nodes of the plan, both of them tests.
  abbrev pub locked_apart : ℕ → ℕ → Bool
  locked_apart first second = is_some (test_of plan first) && is_some (test_of plan second)
      && paths_exclude (plan_path plan first) (plan_path plan second)
