-- What a call is handed: a value for each node of its node's path that shares something, the outermost first. Each is
-- computed in the node that shares it, under the key of that node's level (Javadoc `ExtensionContext.Store`,
-- `getOrComputeIfAbsent`; JUnit 5 User Guide, "Keeping State in Extensions"). That values come along the path, and the
-- keys of levels, are not from JUnit.
use Rattle.std.specs.Prelude.{◌≡◌, ℕ, ◌+◌, ◌-◌, ◌++◌, Bool, true, false, not, codes, Option, Some, None, List, [], ◌∷◌, length, reverse, Result, Ok, Err, slice_get}
use Rattle.std.specs.Fmt.{decimal}
use Rattle.std.specs.List.{FoldsTo}
use Rattle.ext_model.specs.declared.look.Fault.{Fault}
use Rattle.ext_tree.specs.Keys.{KeyValue, global_namespace, key_of}
use Rattle.ext_tree.specs.Trees.{Id, IsPathOf, id_at}
use Rattle.ext_store.specs.Computing.{Uses}
use Rattle.ext_store.specs.FoundOrMade.{IsFaultOf, IsMadeOf}
use Rattle.ext_store.specs.LaneCalls.{OfKey}
use Rattle.ext_store.specs.Stores.{StoreLane, StoreView}
use Rattle.ext_store.specs.Waiting.{ComputesAfterWaits}
use Rattle.ext_store.specs.declared.computed.Compute.{Compute}
use Rattle.ext_store.specs.declared.computed.Compute.TheVariants.{Refused}
use Rattle.ext_table.specs.Stops.{StopsWith}
use Rattle.ext_table.specs.declared.engine.Kept.{Kept}
use Rattle.ext_table.specs.declared.row.Row.{Row}
use Rattle.ext_table.specs.declared.stop.Stop.{Stop}

-- ---- the keys

-- The key of what the nodes of a level share. The root is level 0.
abbrev pub level_key : ℕ → KeyValue
level_key level = key_of global_namespace (codes "shared " ++ decimal level)

-- The key of what this node shares. The root's id has one segment.
abbrev pub key_in : List Id → ℕ → KeyValue
key_in ids node = level_key (length (id_at ids node) - 1)

-- ---- one value

-- Of what the value is made that a node shares.
abbrev pub share_in : {T : Type 0} → Option (Row T) → Option T
share_in None = None
share_in (Some row) = row.share

-- What is kept of what an engine made: the value, or the fault with which it stopped.
abbrev pub IsKeptOf : {S : Type 0} → Result S Stop → Result (Kept S) Fault → Type 0
IsKeptOf (Ok value) kept = kept ≡ Ok (record { 0 = value })
IsKeptOf (Err stop) kept = (fault : Fault) × StopsWith stop fault × (kept ≡ Err fault)

-- The engine made it. `Made` says what it may make.
pub record IsMade {S : Type 0} (Made : Result S Stop → Type 0) (kept : Result (Kept S) Fault) : Type 0 where
  pub made : Result S Stop
  pub gives : Made made
  pub kept_is : IsKeptOf made kept

-- The lane computes a value in this node, and waits where another lane computes it. A value that is not found is made.
pub record Asks {S : Type 0} (store : StoreView) (Made : Result S Stop → Type 0) (node : ℕ)
    (before : StoreLane (Kept S)) (answer : Compute (Kept S) (Unit {0})) (after : StoreLane (Kept S)) : Type 0 where
  pub computed : OfKey before after (key_in store.tree node) (λ why. answer ≡ Refused why tt)
      (λ number. ComputesAfterWaits store node number before.cells after.cells answer)
  pub makes : Uses (IsMade Made) before after answer

-- The lane found the value or made it, and is shown it.
pub record Hands {S : Type 0} (store : StoreView) (Made : Result S Stop → Type 0) (node : ℕ)
    (before : StoreLane (Kept S)) (is_new : Bool) (value : S) (after : StoreLane (Kept S)) : Type 0 where
  pub answer : Compute (Kept S) (Unit {0})
  pub asked : StoreLane (Kept S)
  pub asks : Asks store Made node before answer asked
  pub number : ℕ
  pub shown : IsMadeOf asked after answer number is_new (record { 0 = value })

-- There is no value for the lane, for this fault.
pub record Misses {S : Type 0} (store : StoreView) (Made : Result S Stop → Type 0) (node : ℕ)
    (before : StoreLane (Kept S)) (why : Fault) (after : StoreLane (Kept S)) : Type 0 where
  pub answer : Compute (Kept S) (Unit {0})
  pub asked : StoreLane (Kept S)
  pub asks : Asks store Made node before answer asked
  pub fault : IsFaultOf asked after answer why

-- ---- the values along a path

-- What was handed so far, how many of the values were computed, and how many were found; and the lane.
pub record Handed (S : Type 0) : Type 0 where
  pub values : List S
  pub computed : ℕ
  pub found : ℕ
  pub lane : StoreLane (Kept S)

abbrev pub nothing_handed : {S : Type 0} → StoreLane (Kept S) → Handed S
nothing_handed lane = record { values = []; computed = 0; found = 0; lane = lane }

abbrev pub count_if : Bool → ℕ
count_if true = 1
count_if false = 0

module _ {T S : Type 0} (rows : List (Row T)) (store : StoreView) (Makes : T → List S → Result S Stop → Type 0) where
  -- The value that a node shares of what it is given comes behind the others. What was handed before is above it.
  pub record HandsOne (given : T) (before : Handed S) (node : ℕ) (after : Handed S) : Type 0 where
    pub value : S
    pub is_new : Bool
    pub hands : Hands store (Makes given before.values) node before.lane is_new value after.lane
    pub values_are : after.values ≡ before.values ++ value ∷ []
    pub computed_is : after.computed ≡ before.computed + count_if is_new
    pub found_is : after.found ≡ before.found + count_if (not is_new)

  -- The same for a node that shares nothing: nothing is done.
  abbrev pub HandsOf : Option T → Handed S → ℕ → Handed S → Type 0
  HandsOf None before node after = after ≡ before
  HandsOf (Some given) before node after = HandsOne given before node after

  abbrev pub HandsAt : Handed S → ℕ → Handed S → Type 0
  HandsAt before node after = HandsOf (share_in (slice_get rows node)) before node after

  -- All that the nodes on the path of this node share, the outermost first.
  pub record HandsAll (node : ℕ) (lane : StoreLane (Kept S)) (handed : Handed S) : Type 0 where
    pub path : List ℕ
    pub path_is : IsPathOf store.tree node path
    pub each : FoldsTo HandsAt (nothing_handed lane) (reverse path) handed

  -- What the outer nodes of the path share was handed, and then there was no value for this one.
  pub record MissesOne (node : ℕ) (lane : StoreLane (Kept S)) (why : Fault) (handed : Handed S)
      (after : StoreLane (Kept S)) : Type 0 where
    pub path : List ℕ
    pub path_is : IsPathOf store.tree node path
    pub outer : List ℕ
    pub missed : ℕ
    pub inner : List ℕ
    pub path_parts : reverse path ≡ outer ++ missed ∷ inner
    pub each : FoldsTo HandsAt (nothing_handed lane) outer handed
    pub given : T
    pub shares : share_in (slice_get rows missed) ≡ Some given
    pub misses : Misses store (Makes given handed.values) missed handed.lane why after
