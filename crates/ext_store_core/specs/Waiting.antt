-- What waiting forms promise beyond their plain forms: what they never answer, and what a waiting claim may do before
-- it answers. JUnit waits for a running factory, too. That a compute claims its cell and gives the claim up before it
-- waits is not from JUnit.
use Rattle.std.specs.Prelude.{ℕ, zero, suc, ◌≡◌, Bool, not, List, Result, Ok, Err}
use Rattle.ext_model.specs.declared.look.Look.{Look}
use Rattle.ext_model.specs.declared.look.Look.TheVariants as look
use Rattle.ext_model.specs.CallActs.{LaneView}
use Rattle.ext_store_core.specs.declared.fault.Refusal.{Refusal}
use Rattle.ext_store_core.specs.declared.fault.Refusal.TheVariants as refusal
use Rattle.ext_store_core.specs.declared.claim.Unused.{Unused}
use Rattle.ext_store_core.specs.declared.claim.Unused.TheVariants as unused
use Rattle.ext_store_core.specs.ContextCalls.{ContextCells}
use Rattle.ext_store_core.specs.Claiming.{ClaimsAlong}

-- ---- what a waiting form never answers

-- No running factory decides the look-up.
abbrev pub IsDecidedLook : Look → Type 0
IsDecidedLook (look.Found at number) = Unit {0}
IsDecidedLook (look.Fault at number) = Unit {0}
IsDecidedLook look.Absent = Unit {0}
IsDecidedLook (look.Busy at) = ⊥
IsDecidedLook (look.Closed at) = Unit {0}

-- A look-up that a running factory decides counts as refused for it.
abbrev pub busy_refused : Result Look Refusal → Result Look Refusal
busy_refused (Ok (look.Found at number)) = Ok (look.Found at number)
busy_refused (Ok (look.Fault at number)) = Ok (look.Fault at number)
busy_refused (Ok look.Absent) = Ok look.Absent
busy_refused (Ok (look.Busy at)) = Err (refusal.Busy at)
busy_refused (Ok (look.Closed at)) = Ok (look.Closed at)
busy_refused (Err why) = Err why

-- The call is refused neither for a running factory nor because other lanes were in the way.
abbrev pub IsDecided : Refusal → Type 0
IsDecided (refusal.Busy at) = ⊥
IsDecided (refusal.Closed at) = Unit {0}
IsDecided refusal.Contended = ⊥
IsDecided refusal.DirectoryFull = Unit {0}
IsDecided refusal.Unplaced = Unit {0}
IsDecided refusal.Memory = Unit {0}
IsDecided refusal.Exhausted = Unit {0}

-- The reason why no factory is called is neither of these two.
abbrev pub IsDecidedUnused : Unused → Type 0
IsDecidedUnused (unused.Found at number) = Unit {0}
IsDecidedUnused (unused.FaultStands at number) = Unit {0}
IsDecidedUnused (unused.Refused why) = IsDecided why

-- ---- between two tries

-- Whether the lane has announced that it waits, after a refusal for this reason. The first refusal for a running
-- factory makes it announce itself, and the second makes it sleep.
abbrev pub announced_after : Refusal → Bool → Bool
announced_after (refusal.Busy at) announced = not announced
announced_after (refusal.Closed at) announced = announced
announced_after refusal.Contended announced = announced
announced_after refusal.DirectoryFull announced = announced
announced_after refusal.Unplaced announced = announced
announced_after refusal.Memory announced = announced
announced_after refusal.Exhausted announced = announced

-- ---- what may come before the answer of a claim that waits

-- What one attempt says of the lane before and after it, and of its result.
abbrev pub Attempt : Type 1
Attempt = LaneView → LaneView → Result ℕ Unused → Type 0

-- An attempt in vain: the claim was refused for a running factory, or because other lanes were in the way, and the lane
-- gave up what it had claimed.
pub record VainAttempt (Claims : Attempt) (before after : LaneView) : Type 0 where
  pub why : Refusal
  pub undecided : IsDecided why → ⊥
  pub refused : Claims before after (Err (unused.Refused why))

-- `attempts` of these, one directly after the other, and nothing else.
abbrev pub VainAttempts : Attempt → ℕ → LaneView → LaneView → Type 0
VainAttempts Claims zero before after = after ≡ before
VainAttempts Claims (suc attempts) before after = (between : LaneView)
    × VainAttempts Claims attempts before between × VainAttempt Claims between after

-- The call first made some attempts in vain, and `Then` is said of the lane as it was after them.
pub record Waits (Claims : Attempt) (before : LaneView) (Then : LaneView → Type 0) : Type 0 where
  pub attempts : ℕ
  pub between : LaneView
  pub in_vain : VainAttempts Claims attempts before between
  pub then_is : Then between

-- Before its last attempt the lane may have claimed the cell of the first context of the path and given it up several
-- times. The last attempt is the claim of a missing value.
abbrev pub ClaimsAlongAfterWaits : ContextCells → List ℕ → ℕ → LaneView → LaneView → Result ℕ Unused → Type 0
ClaimsAlongAfterWaits store path key before after result =
    Waits (ClaimsAlong store path key) before (λ between. ClaimsAlong store path key between after result)
