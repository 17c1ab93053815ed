-- Which calls of the close action a close makes, and how it counts their answers. JUnit closes the closeable values of
-- a context in the inverse order in which they were added (User Guide, "Keeping State in Extensions"; Javadoc
-- `ExtensionContext.Store.CloseableResource`). Here the greatest number is the latest value. That faults are counted,
-- and that one does not stop the other closes, are chosen here.
use Rattle.std.specs.Prelude.{ℕ, ◌≡◌, Bool, true, false, List, [], ◌∷◌, ◌++◌, map, Option, Some, None, Result, Ok, Err}
use Rattle.std.specs.List.{FoldsTo}
use Rattle.ext_model.specs.declared.closed.Closed.{Closed}
use Rattle.ext_model.specs.declared.look.Fault.{Fault}
use Rattle.ext_model.specs.Closed.{closed_of}
use Rattle.ext_store.specs.Stores.{StoreLane}
use Rattle.ext_closing.specs.declared.fault.CloseFault.{CloseFault}
use Rattle.ext_closing.specs.declared.fault.CloseFault.TheVariants.{Busy, Contended, Unjoined}
use Rattle.ext_closing.specs.Lanes.{IsKnown, IsGreatestUnjoined}

-- ---- answers

-- What a call of the action answers.
abbrev pub Answer : Type 0
Answer = Result (Unit {0}) Fault

-- The fault of a call that failed.
abbrev pub fault_in : Answer → Option Fault
fault_in (Ok done) = None
fault_in (Err fault) = Some fault

-- What is reported of the answers: how many calls there were, the first fault, and how many more faults.
abbrev pub counted : List Answer → Closed
counted answers = closed_of (map fault_in answers)

-- ---- calls

-- The action's state, and the answers of its calls so far.
pub record Closing (A : Type 0) : Type 0 where
  pub action : A
  pub answers : List Answer

-- `is_closeable` says which values the action closes, and `gives` what a call of the action may answer.
module _ {V A : Type 0} (is_closeable : V → Bool) (gives : A → ℕ → V → Answer → A → Type 0) where
  -- If the value is closeable, one call with the number and the value; otherwise no call.
  abbrev pub CallIf : Bool → ℕ → V → Closing A → Closing A → Type 0
  CallIf true number value before after = (answer : Answer) × gives before.action number value answer after.action
      × (after.answers ≡ before.answers ++ answer ∷ [])
  CallIf false number value before after = after ≡ before

  -- What a close does for one number: a lane in hand knows its value, and the action is called with both if the value
  -- is closeable.
  abbrev pub ClosesOne : List (StoreLane V) → Closing A → ℕ → Closing A → Type 0
  ClosesOne lanes before number after = (value : V) × IsKnown lanes number value
      × CallIf (is_closeable value) number value before after

  -- The action goes from its first to its last state by these calls for the numbers, in order, and this is reported of
  -- their answers.
  pub record ClosesNumbers (lanes : List (StoreLane V)) (numbers : List ℕ) (first last : A) (closed : Closed)
      : Type 0 where
    pub answers : List Answer
    pub calls : FoldsTo (ClosesOne lanes) (record { action = first; answers = [] }) numbers
        (record { action = last; answers = answers })
    pub counts : closed ≡ counted answers

-- The closeable ones among these numbers, in order, judged by a value that a lane in hand knows.
module _ {V : Type 0} (is_closeable : V → Bool) where
  abbrev pub if_closeable : Bool → ℕ → List ℕ → List ℕ
  if_closeable true number more = number ∷ more
  if_closeable false number more = more

  abbrev pub AreCloseable : List (StoreLane V) → List ℕ → List ℕ → Type 0
  AreCloseable lanes [] closeable = closeable ≡ []
  AreCloseable lanes (number ∷ numbers) closeable =
      (value : V) × IsKnown lanes number value
      × ((more : List ℕ) × AreCloseable lanes numbers more
      × (closeable ≡ if_closeable (is_closeable value) number more))

-- ---- refusals

-- A close refused as `Unjoined` names the greatest remaining number whose value no lane in hand knows.
abbrev pub NamesUnjoined : {V : Type 0} → List (StoreLane V) → List ℕ → CloseFault → Type 0
NamesUnjoined lanes numbers (Busy key) = Unit {0}
NamesUnjoined lanes numbers (Contended key) = Unit {0}
NamesUnjoined lanes numbers (Unjoined number) = IsGreatestUnjoined lanes numbers number
