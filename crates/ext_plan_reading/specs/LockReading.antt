-- The resource locks that a plan's nodes name: texts `READ NAME` and `READ_WRITE NAME`, two words with exactly one
-- space between them (JUnit 5 User Guide, "Synchronization"). The texts are not from JUnit.
use Rattle.std.specs.Prelude.{ℕ, ◌==◌, codes, List, [], ◌∷◌, ◌++◌, length, Option, Some, None, Result, Ok, if◌then◌else◌}
use Rattle.std.specs.List.{slice_split}
use Rattle.std.specs.Str.{bytes_eq}
use Rattle.ext_plan.specs.Plans.{LockText, read, read_write}
use Rattle.ext_plan_reading.specs.declared.fault.PlanFault.{PlanFault}
use Rattle.ext_plan_reading.specs.declared.fault.PlanFault.TheVariants as faults
use Rattle.ext_plan_reading.specs.Faults.{some_or, ◌>>=◌}

-- The lock with this mode and name. The name must not be empty.
abbrev pub lock_named : List ℕ → List ℕ → Option LockText
lock_named mode name =
    if length name == 0 then None
    else if bytes_eq mode (codes "READ") then Some (read name)
    else if bytes_eq mode (codes "READ_WRITE") then Some (read_write name)
    else None

abbrev pub lock_of_words : List (List ℕ) → Option LockText
lock_of_words (mode ∷ name ∷ []) = lock_named mode name
lock_of_words _ = None

-- The lock that a text writes.
unfoldable pub lock_of : List ℕ → Option LockText
lock_of text = lock_of_words (slice_split (λ b. b == 32) text)

-- The same, in the node with this number.
unfoldable pub lock_at : ℕ → List ℕ → Result LockText PlanFault
lock_at node text = some_or (faults.BadLock node) (lock_of text)

-- These locks, followed by those that the texts write.
unfoldable pub locks_after : ℕ → List LockText → List (List ℕ) → Result (List LockText) PlanFault
locks_after node before [] = Ok before
locks_after node before (text ∷ more) = do
  lock ← lock_at node text
  locks_after node (before ++ lock ∷ []) more

-- The locks of a node. It names none if the field is left out.
unfoldable pub locks_at : ℕ → Option (List (List ℕ)) → Result (List LockText) PlanFault
locks_at node None = Ok []
locks_at node (Some texts) = locks_after node [] texts
