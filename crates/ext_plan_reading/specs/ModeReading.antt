-- The modes of nodes by their texts (JUnit 5 User Guide, "Parallel Execution"). The texts are not from JUnit.
use Rattle.std.specs.Prelude.{ℕ, codes, List, Option, Some, None, Result, Ok, if◌then◌else◌}
use Rattle.std.specs.Str.{bytes_eq}
use Rattle.ext_lifecycle.specs.declared.mode.Mode.{Mode}
use Rattle.ext_lifecycle.specs.declared.mode.Mode.TheVariants as modes
use Rattle.ext_plan_reading.specs.declared.fault.PlanFault.{PlanFault}
use Rattle.ext_plan_reading.specs.declared.fault.PlanFault.TheVariants as faults
use Rattle.ext_plan_reading.specs.Faults.{some_or}

-- The mode that a text writes.
abbrev pub mode_of : List ℕ → Option Mode
mode_of text =
    if bytes_eq text (codes "same_thread") then Some modes.SameThread
    else if bytes_eq text (codes "concurrent") then Some modes.Concurrent
    else None

-- The mode of the node with this number. If the field is left out it runs on its parent's thread.
abbrev pub mode_at : ℕ → Option (List ℕ) → Result Mode PlanFault
mode_at node None = Ok modes.SameThread
mode_at node (Some text) = some_or (faults.BadLock node) (mode_of text)
