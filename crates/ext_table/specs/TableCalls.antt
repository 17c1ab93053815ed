-- What a call of a node of a table does (JUnit 5 User Guide, "Test Lifecycle Callbacks"; Javadoc `TestExecutionResult`).
-- That a test is run again is an own rule.
use Rattle.std.specs.Prelude.{◌≡◌, ◌⊎◌, ℕ, ◌≤◌, Option, Some, None, List, [], ◌∷◌, ◌++◌, All, length, max, Result, slice_get, unwrap_or}
use Rattle.ext_model.specs.declared.look.Fault.{Fault}
use Rattle.ext_model.specs.declared.look.Fault.TheVariants as faults
use Rattle.ext_lifecycle.specs.declared.call.Call.{Call}
use Rattle.ext_lifecycle.specs.declared.call.Kind.{Kind}
use Rattle.ext_lifecycle.specs.declared.call.Kind.TheVariants as kinds
use Rattle.ext_lifecycle.specs.declared.outcome.Outcome.{Outcome}
use Rattle.ext_lifecycle.specs.declared.outcome.Verdict.{Verdict}
use Rattle.ext_lifecycle.specs.declared.outcome.Verdict.TheVariants as verdicts
use Rattle.ext_store.specs.Stores.{StoreLane, StoreView}
use Rattle.ext_table.specs.Lending.{IsLent}
use Rattle.ext_table.specs.Sharing.{Handed, HandsAll, MissesOne, nothing_handed}
use Rattle.ext_table.specs.Stops.{IsFailed, IsVerdictOf}
use Rattle.ext_table.specs.Tables.{callbacks_in}
use Rattle.ext_table.specs.declared.engine.Kept.{Kept}
use Rattle.ext_table.specs.declared.row.Row.{Row}
use Rattle.ext_table.specs.declared.stop.Stop.{Stop}

-- ---- a test

-- A test was run so often at most, until it did not fail. `Gives` says what it may answer, and `Moves` what it may do to
-- the lane that it is lent, which was lent once for each answer.
pub record IsTried {L : Type 0} (Gives : Result (Unit {0}) Stop → Type 0) (Moves : L → L → Type 0) (most : ℕ) (before : L)
    (verdict : Verdict) (after : L) : Type 0 where
  pub earlier : List (Result (Unit {0}) Stop)
  pub last : Result (Unit {0}) Stop
  pub all_failed : All IsFailed earlier
  pub each : All Gives (earlier ++ last ∷ [])
  pub few : length (earlier ++ last ∷ []) ≤ most
  pub lent : IsLent Moves (length (earlier ++ last ∷ [])) before after
  -- A test that failed at last was run as often as it may.
  pub to_the_end : IsFailed last → length (earlier ++ last ∷ []) ≡ most
  pub verdict_is : IsVerdictOf last verdict

-- How often a test is run at most: as its row says, or else as the run does, and once for 0.
abbrev pub most_attempts : ℕ → Option ℕ → ℕ
most_attempts attempts own = max (unwrap_or own attempts) 1

-- ---- a callback

-- A callback was made. `Gives` says what it may answer.
pub record IsAnswered (Gives : Result (Unit {0}) Stop → Type 0) (verdict : Verdict) : Type 0 where
  pub answer : Result (Unit {0}) Stop
  pub gives : Gives answer
  pub verdict_is : IsVerdictOf answer verdict

-- ---- a call

-- A callback is made with these values, if there is one.
abbrev pub CallsBack : {T S : Type 0} → (T → List S → Result (Unit {0}) Stop → Type 0) → Option T → List S → Verdict → Type 0
CallsBack Gives None values verdict = verdict ≡ verdicts.Successful
CallsBack Gives (Some given) values verdict = IsAnswered (Gives given values) verdict

module _ {T S L : Type 0} (Gives : T → List S → Result (Unit {0}) Stop → Type 0) (Moves : L → L → Type 0) (attempts : ℕ) where
  -- The test of a row is run with these values, if the row has one, on a lane from one state to another.
  abbrev pub TriesTest : Option T → Option ℕ → List S → L → Verdict → L → Type 0
  TriesTest None own values before verdict after = (verdict ≡ verdicts.Successful) × (after ≡ before)
  TriesTest (Some given) own values before verdict after =
      IsTried (Gives given values) Moves (most_attempts attempts own) before verdict after

  abbrev pub TriesRow : Option (Row T) → List S → L → Verdict → L → Type 0
  TriesRow None values before verdict after = (verdict ≡ verdicts.Successful) × (after ≡ before)
  TriesRow (Some row) values before verdict after = TriesTest row.test row.attempts values before verdict after

module _ {T S L : Type 0} (Gives : T → List S → Result (Unit {0}) Stop → Type 0) (rows : List (Row T)) where
  -- The callback at this index is made with these values. It is lent no lane.
  abbrev pub CallsBackAt : Kind → ℕ → ℕ → List S → L → Verdict → L → Type 0
  CallsBackAt kind from index values before verdict after =
      CallsBack Gives (slice_get (callbacks_in kind (slice_get rows from)) index) values verdict × (after ≡ before)

module _ {T S L : Type 0} (Gives : T → List S → Result (Unit {0}) Stop → Type 0) (Moves : L → L → Type 0) (attempts : ℕ)
    (rows : List (Row T)) where
  -- The call with these values, on a lane from one state to another.
  abbrev pub CallsKind : Kind → ℕ → ℕ → List S → L → Verdict → L → Type 0
  CallsKind kinds.Test from index values before verdict after =
      TriesRow Gives Moves attempts (slice_get rows from) values before verdict after
  CallsKind kinds.BeforeAll from index values before verdict after =
      CallsBackAt Gives rows kinds.BeforeAll from index values before verdict after
  CallsKind kinds.BeforeEach from index values before verdict after =
      CallsBackAt Gives rows kinds.BeforeEach from index values before verdict after
  CallsKind kinds.AfterEach from index values before verdict after =
      CallsBackAt Gives rows kinds.AfterEach from index values before verdict after
  CallsKind kinds.AfterAll from index values before verdict after =
      CallsBackAt Gives rows kinds.AfterAll from index values before verdict after

-- The outcome of a call to which this was handed.
abbrev pub outcome_of : {S : Type 0} → Verdict → Handed S → Outcome
outcome_of verdict handed = record { verdict = verdict; computed = handed.computed; found = handed.found }

module _ {T S : Type 0} (Gives : T → List S → Result (Unit {0}) Stop → Type 0)
    (Makes : T → List S → Result S Stop → Type 0) (Moves : ℕ → StoreLane (Kept S) → StoreLane (Kept S) → Type 0)
    (rows : List (Row T)) (attempts : ℕ) where
  -- The call was handed all that the nodes on its node's path share, and was made with it.
  pub record CallIsMade (store : StoreView) (node : ℕ) (call : Call) (before : StoreLane (Kept S)) (outcome : Outcome)
      (after : StoreLane (Kept S)) : Type 0 where
    pub handed : Handed S
    pub hands : HandsAll rows store Makes node before handed
    pub verdict : Verdict
    pub calls : CallsKind Gives (Moves node) attempts rows call.kind call.from call.index handed.values handed.lane verdict after
    pub outcome_is : outcome ≡ outcome_of verdict handed

  -- What a node on the path shares was not to be had. The call fails with that fault, and was not made.
  pub record CallMisses (store : StoreView) (node : ℕ) (before : StoreLane (Kept S)) (outcome : Outcome)
      (after : StoreLane (Kept S)) : Type 0 where
    pub why : Fault
    pub handed : Handed S
    pub misses : MissesOne rows store Makes node before why handed after
    pub outcome_is : outcome ≡ outcome_of (verdicts.Failed why) handed

  -- There was no memory for the list of what is shared. Nothing was done.
  pub record CallHasNoMemory (before : StoreLane (Kept S)) (outcome : Outcome) (after : StoreLane (Kept S)) : Type 0 where
    pub untouched : after ≡ before
    pub outcome_is : outcome ≡ outcome_of (verdicts.Failed faults.Memory) (nothing_handed before)

  abbrev pub TableCall : StoreView → ℕ → Call → StoreLane (Kept S) → Outcome → StoreLane (Kept S) → Type 0
  TableCall store node call before outcome after =
      CallIsMade store node call before outcome after
      ⊎ (CallMisses store node before outcome after ⊎ CallHasNoMemory before outcome after)
