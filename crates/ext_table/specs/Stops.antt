-- Why a test does not pass, and the verdict on it (Javadoc `TestExecutionResult`). That a `?` takes errors of anyhow and
-- of files is not from JUnit.
use Rattle.std.specs.Prelude.{◌≡◌, Result, Ok, Err}
use Rattle.anyhow.specs.Error.{error_message}
use Rattle.ext_model.specs.declared.look.Fault.{Fault}
use Rattle.ext_lifecycle.specs.declared.outcome.Verdict.{Verdict}
use Rattle.ext_lifecycle.specs.declared.outcome.Verdict.TheVariants as verdicts
use Rattle.ext_store.specs.FaultTexts.{IsTold}
use Rattle.ext_table.specs.declared.stop.Stop.{Stop}
use Rattle.ext_table.specs.declared.stop.Stop.TheVariants.{Failed, Aborted, Error, Io}

-- A call that stopped like this has this fault. An error that a `?` took is printed; what an error of a file prints is
-- not specified.
abbrev pub StopsWith : Stop → Fault → Type 0
StopsWith (Failed why) fault = fault ≡ why
StopsWith (Aborted why) fault = fault ≡ why
StopsWith (Error why) fault = IsTold (error_message why) fault
StopsWith (Io why) fault = Unit {0}

-- The answer of a test that failed.
abbrev pub IsFailed : Result (Unit {0}) Stop → Type 0
IsFailed (Ok done) = ⊥
IsFailed (Err (Failed fault)) = Unit {0}
IsFailed (Err (Aborted fault)) = ⊥
IsFailed (Err (Error why)) = Unit {0}
IsFailed (Err (Io why)) = Unit {0}

-- The verdict on an answer.
abbrev pub IsVerdictOf : Result (Unit {0}) Stop → Verdict → Type 0
IsVerdictOf (Ok done) verdict = verdict ≡ verdicts.Successful
IsVerdictOf (Err (Failed fault)) verdict = verdict ≡ verdicts.Failed fault
IsVerdictOf (Err (Aborted fault)) verdict = verdict ≡ verdicts.Aborted fault
IsVerdictOf (Err (Error why)) verdict = (fault : Fault) × StopsWith (Error why) fault × (verdict ≡ verdicts.Failed fault)
IsVerdictOf (Err (Io why)) verdict = (fault : Fault) × StopsWith (Io why) fault × (verdict ≡ verdicts.Failed fault)

-- What the close of a value comes to.
abbrev pub IsCloseOf : Result (Unit {0}) Stop → Result (Unit {0}) Fault → Type 0
IsCloseOf (Ok done) closed = closed ≡ Ok tt
IsCloseOf (Err stop) closed = (fault : Fault) × StopsWith stop fault × (closed ≡ Err fault)

-- The engine closed a value. `Gives` says what it may answer.
pub record IsClosed (Gives : Result (Unit {0}) Stop → Type 0) (closed : Result (Unit {0}) Fault) : Type 0 where
  pub answer : Result (Unit {0}) Stop
  pub gives : Gives answer
  pub closed_is : IsCloseOf answer closed
