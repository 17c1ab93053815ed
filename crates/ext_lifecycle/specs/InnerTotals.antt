-- How private functions count calls and closes. No public contract cites it.
use Rattle.std.specs.Prelude.{ℕ, ◌+◌, Option, Some, None}
use Rattle.ext_model.specs.declared.look.Fault.{Fault}
use Rattle.ext_lifecycle.specs.declared.status.Status.{Status}
use Rattle.ext_lifecycle.specs.declared.status.Status.TheVariants as statuses
use Rattle.ext_lifecycle.specs.declared.tally.Tally.{Tally}
use Rattle.ext_lifecycle.specs.Endings.{Ending, successful, aborted, failed, Total}

abbrev pub total_in : Tally → Total Fault
total_in t = record { status = t.status; fault = t.fault; more = t.more }

module _ {F : Type 0} where
  -- One more abort.
  abbrev pub with_abort : Status → Total F → F → Total F
  with_abort statuses.Successful t fault = record { status = statuses.Aborted; fault = Some fault; more = t.more }
  with_abort statuses.Aborted t fault = record { status = t.status; fault = t.fault; more = t.more + 1 }
  with_abort statuses.Failed t fault = record { status = t.status; fault = t.fault; more = t.more + 1 }
  with_abort statuses.Skipped t fault = record { status = t.status; fault = t.fault; more = t.more + 1 }

  -- One more fault.
  abbrev pub with_failure : Status → Total F → F → Total F
  with_failure statuses.Successful t fault = record { status = statuses.Failed; fault = Some fault; more = t.more }
  with_failure statuses.Aborted t fault = record { status = statuses.Failed; fault = Some fault; more = t.more + 1 }
  with_failure statuses.Failed t fault = record { status = t.status; fault = t.fault; more = t.more + 1 }
  with_failure statuses.Skipped t fault = record { status = t.status; fault = t.fault; more = t.more + 1 }

  -- One more call.
  abbrev pub with_ending : Total F → Ending F → Total F
  with_ending t successful = t
  with_ending t (aborted fault) = with_abort t.status t fault
  with_ending t (failed fault) = with_failure t.status t fault

  -- `count` more faults.
  abbrev pub with_faults : Total F → ℕ → Total F
  with_faults t count = record { status = t.status; fault = t.fault; more = t.more + count }

  -- The closes after the calls: the first fault of one, if any, and how many more there are.
  abbrev pub with_closes : Total F → Option F → ℕ → Total F
  with_closes t None count = t
  with_closes t (Some fault) count = with_faults (with_ending t (failed fault)) count
