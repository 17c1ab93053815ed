-- Which faults tell that a call of a store lacked something: memory, a number, a key, a place, or being shown what stood
-- in its place. A text tells it if it is that of a lack of memory, or ends with `: ` and the words of such a refusal. A
-- caller's own text may end like that too. JUnit has no such faults.
use Rattle.std.specs.Prelude.{ℕ, codes, nat_eq, string_bytes, Bool, true, false, ◌||◌, ◌++◌, List, Option, Some, None}
use Rattle.std.specs.List.{ends_with, list_any}
use Rattle.std.specs.Str.{bytes_eq}
use Rattle.ext_model.specs.declared.look.Fault.{Fault}
use Rattle.ext_model.specs.declared.look.Fault.TheVariants as faults

-- The text ends like that of a call that was refused with these words.
abbrev pub ends_as_refused : List ℕ → List ℕ → Bool
ends_as_refused text words = ends_with nat_eq text (codes ": " ++ words)

abbrev pub tells_lack : List ℕ → Bool
tells_lack text =
    bytes_eq text (codes "no memory")
    || ends_as_refused text (codes "exhausted")
    || ends_as_refused text (codes "numbers full")
    || ends_as_refused text (codes "directory full")
    || ends_as_refused text (codes "unplaced")
    || ends_as_refused text (codes "not shown")

abbrev pub fault_tells_lack : Fault → Bool
fault_tells_lack (faults.Text text) = tells_lack (string_bytes text)
fault_tells_lack faults.Memory = true

-- The same of a fault that there may be.
abbrev pub may_tell : {F : Type 0} → (F → Bool) → Option F → Bool
may_tell tells None = false
may_tell tells (Some fault) = tells fault

-- One of these faults tells it.
abbrev pub one_tells : {F : Type 0} → (F → Bool) → List (Option F) → Bool
one_tells tells faults = list_any (may_tell tells) faults
