-- How the run of one node ends early: memory is refused before anything of it is done, or its context can't be closed
-- after everything that comes before its close. And which of several refusals a run reports.
-- The order of calls is that of the JUnit 5 User Guide, "Relative Execution Order of User Code and Extensions" and
-- "Keeping State in Extensions". How a run ends early is not from JUnit.
use Rattle.std.specs.Prelude.{◌≡◌, ℕ, Bool, true, false, None, Some, List, ◌∷◌, ◌++◌, map, All, Result, Ok, Err}
use Rattle.std.specs.List.{FoldsTo}
use Rattle.ext_lifecycle.specs.declared.outcome.Outcome.{Outcome}
use Rattle.ext_lifecycle.specs.Callbacks.{befores_of, afters_of, test_call}
use Rattle.ext_lifecycle.specs.Lifecycle.{MakesAll, MakesCalls}
use Rattle.ext_store.specs.Stores.{StoreView, StoreLane, CloserView, IsCloserOf, IsLaneOf}
use Rattle.ext_closing.specs.declared.fault.CloseFault.{CloseFault}
use Rattle.ext_closing.specs.declared.fault.CloseFault.TheVariants as close_faults
use Rattle.ext_closing.specs.Closing.{Answer}
use Rattle.ext_closing.specs.Closes.{IsRefused}
use Rattle.ext_locks.specs.declared.event.LockMode.{LockMode}
use Rattle.ext_locks.specs.Sets.{HeldView}
use Rattle.ext_locks.specs.Views.{Lane}
use Rattle.ext_engine.specs.declared.node.fault.EngineFault.{EngineFault}
use Rattle.ext_engine.specs.declared.node.fault.EngineFault.TheVariants as faults
use Rattle.ext_engine.specs.NodeRun.{TreeSetting, Lanes, OnFirst, MakesOn, TakesSet, GivesBack}
use Rattle.ext_engine.specs.Suites.{locks_on, IsSetOf}

-- Closes by one closer were refused any number of times, for whatever reasons, and the last as `Unjoined` with this
-- number: it remains in the context, and no lane in hand knows its value. The action was not called.
pub record IsLeftOpen {V A : Type 0} (is_closeable : V → Bool) (gives : A → ℕ → V → Answer → A → Type 0)
    (store : StoreView) (closer : CloserView) (action : A)
    (before : List (StoreLane V)) (number : ℕ) (after : List (StoreLane V)) : Type 0 where
  pub refusals : List CloseFault
  pub asked : List (StoreLane V)
  pub refused : FoldsTo (IsRefused is_closeable gives store closer action) before refusals asked
  pub own_lanes : All (IsLaneOf store.id) asked
  pub unjoined : IsRefused is_closeable gives store closer action asked (close_faults.Unjoined number) after

-- Memory was refused before anything was done: the lanes are as they were.
pub record IsNotBegun {V : Type 0} (before : Lanes V) (why : EngineFault) (after : Lanes V) : Type 0 where
  pub told : why ≡ faults.Memory
  pub untouched : after ≡ before

module _ {V A : Type 0} (t : TreeSetting V A) where
  -- The node's context could not be closed. The fault names the context and the number that remained in it.
  pub record LeavesOpen (node : ℕ) (before : List (StoreLane V)) (why : EngineFault) (after : List (StoreLane V))
      : Type 0 where
    pub closer : CloserView
    pub closer_is : IsCloserOf t.store closer
    pub context_is : closer.context ≡ node
    pub action : A
    pub action_is : t.action_gives node action
    pub number : ℕ
    pub left_open : IsLeftOpen t.is_closeable t.close_gives t.store closer action before number after
    pub told : why ≡ faults.Unjoined node number

  -- A test's locks were taken and all its calls made, its context could not be closed, and its locks were given back.
  pub record TestEndsEarly (node : ℕ) (path : List ℕ) (before : Lanes V) (why : EngineFault) (after : Lanes V)
      : Type 0 where
    pub set : List (ℕ × LockMode)
    pub set_is : IsSetOf t.locks.names (locks_on t.suite path) set
    pub held : HeldView
    pub locked : List Lane
    pub takes : OnFirst (λ a b. TakesSet t.locks set a held b) before.second locked
    pub outcomes : List Outcome
    pub called : List (StoreLane V)
    pub calls : OnFirst (λ a b. MakesCalls (MakesOn t node (Some held)) (befores_of t.registered true node path)
        (test_call node) (afters_of t.registered true node path) a outcomes b) before.first called
    pub left_open : LeavesOpen node called why after.first
    pub given_back : OnFirst (GivesBack held) locked after.second

  -- After a container's children all its after-callbacks were made, and its context could not be closed.
  pub record IsLeftUnclosed (node : ℕ) (path : List ℕ) (before : List (StoreLane V)) (why : EngineFault)
      (after : List (StoreLane V)) : Type 0 where
    pub afters : List Outcome
    pub called : List (StoreLane V)
    pub afters_made : OnFirst
        (λ a b. MakesAll (MakesOn t node None) (afters_of t.registered false node path) a afters b) before called
    pub left_open : LeavesOpen node called why after

-- ---- several nodes

-- This refusal is the first among the outcomes.
pub record IsFirstRefusal {X : Type 0} (outcomes : List (Result X EngineFault)) (why : EngineFault) : Type 0 where
  pub before : List X
  pub rest : List (Result X EngineFault)
  pub outcomes_are : outcomes ≡ map (λ x. Ok x) before ++ Err why ∷ rest
