-- How a node's calls ended, and their total. A node with a failed call is failed, with the first fault; otherwise a
-- node with an aborted call is aborted, with the first abort; otherwise it is successful. Each further fault or abort
-- is counted, and one of all may tell of a lack. Calls fail or abort as in Javadoc `TestExecutionResult`; which fault is reported and what is counted are
-- chosen here. A fault is an `F`: a `Fault` of ext_model for a call that was made, a text where a definition says what
-- a run gives.
use Rattle.std.specs.Prelude.{ℕ, ◌-◌, Bool, true, false, not, ◌&&◌, List, [], ◌∷◌, Option, Some, None, option_map}
use Rattle.std.specs.List.{count_by, list_any}
use Rattle.ext_model.specs.Closed.{or_else}
use Rattle.ext_lifecycle.specs.declared.status.Status.{Status}
use Rattle.ext_lifecycle.specs.declared.status.Status.TheVariants as statuses

-- How a call ended.
pub data Ending (F : Type 0) : Type 0 where
  successful : Ending F
  aborted : F → Ending F
  failed : F → Ending F

-- A node's status, the fault that is reported for it, and how many more faults and aborts there were.
pub record Total (F : Type 0) : Type 0 where
  pub status : Status
  pub fault : Option F
  pub more : ℕ

module _ {F : Type 0} where
  abbrev pub is_successful : Ending F → Bool
  is_successful successful = true
  is_successful (aborted fault) = false
  is_successful (failed fault) = false

  abbrev pub all_successful : List (Ending F) → Bool
  all_successful [] = true
  all_successful (ending ∷ more) = is_successful ending && all_successful more

  abbrev pub fault_in : Ending F → Option F
  fault_in successful = None
  fault_in (aborted fault) = None
  fault_in (failed fault) = Some fault

  abbrev pub abort_in : Ending F → Option F
  abort_in successful = None
  abort_in (aborted fault) = Some fault
  abort_in (failed fault) = None

  abbrev pub first_fault : List (Ending F) → Option F
  first_fault [] = None
  first_fault (ending ∷ more) = or_else (fault_in ending) (first_fault more)

  abbrev pub first_abort : List (Ending F) → Option F
  first_abort [] = None
  first_abort (ending ∷ more) = or_else (abort_in ending) (first_abort more)

  -- How many calls were not successful.
  abbrev pub unsuccessful : List (Ending F) → ℕ
  unsuccessful endings = count_by (λ e. not (is_successful e)) endings

  -- Whether the fault of a call tells of a lack, where `tells` says which do.
  abbrev pub ending_tells : (F → Bool) → Ending F → Bool
  ending_tells tells successful = false
  ending_tells tells (aborted fault) = tells fault
  ending_tells tells (failed fault) = tells fault

  abbrev pub endings_tell : (F → Bool) → List (Ending F) → Bool
  endings_tell tells endings = list_any (ending_tells tells) endings

  -- The total, by the first fault, the first abort, and how many there are of both.
  abbrev pub total_by : Option F → Option F → ℕ → Total F
  total_by (Some fault) abort count = record { status = statuses.Failed; fault = Some fault; more = count - 1 }
  total_by None (Some abort) count = record { status = statuses.Aborted; fault = Some abort; more = count - 1 }
  total_by None None count = record { status = statuses.Successful; fault = None; more = 0 }

  abbrev pub total_of : List (Ending F) → Total F
  total_of endings = total_by (first_fault endings) (first_abort endings) (unsuccessful endings)

-- ---- the same with each fault converted, for instance to its text

abbrev pub with_fault : {F G : Type 0} → (F → G) → Ending F → Ending G
with_fault to successful = successful
with_fault to (aborted fault) = aborted (to fault)
with_fault to (failed fault) = failed (to fault)

abbrev pub with_fault_in_total : {F G : Type 0} → (F → G) → Total F → Total G
with_fault_in_total to t = record { status = t.status; fault = option_map to t.fault; more = t.more }
