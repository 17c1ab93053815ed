-- How the closes of several values ended, in order: each is `None` or the fault with which it failed. A report says how
-- many there were, the first fault, how many more faults there were, and whether one of all tells of a lack (`Lacks`).
-- JUnit closes values by Javadoc `ExtensionContext.Store.CloseableResource`; it doesn't count faults like this.
use Rattle.std.specs.Prelude.{ℕ, ◌-◌, List, [], ◌∷◌, length, Option, Some, None, is_some}
use Rattle.std.specs.List.{count_by}
use Rattle.ext_model.specs.declared.closed.Closed.{Closed}
use Rattle.ext_model.specs.declared.look.Fault.{Fault}
use Rattle.ext_model.specs.Lacks.{fault_tells_lack, one_tells}

module _ {F : Type 0} where
  -- The first fault of the two.
  abbrev pub or_else : Option F → Option F → Option F
  or_else None second = second
  or_else (Some fault) second = Some fault

  -- The fault of the first close that failed.
  abbrev pub first_of : List (Option F) → Option F
  first_of [] = None
  first_of (close ∷ more) = or_else close (first_of more)

  -- The number of closes that failed.
  abbrev pub close_faults : List (Option F) → ℕ
  close_faults closes = count_by is_some closes

abbrev pub closed_of : List (Option Fault) → Closed
closed_of closes = record {
  closed = length closes;
  first_fault = first_of closes;
  more_faults = close_faults closes - 1;
  lacked = one_tells fault_tells_lack closes;
}
