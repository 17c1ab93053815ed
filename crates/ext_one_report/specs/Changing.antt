-- Nodes that keep to cells of their own. While a node runs, it is alone on the cells that no node beside it changes
-- (JUnit 5 User Guide, "Parallel Execution"; JUnit has no such rule).
use Rattle.std.specs.Prelude.{◌≡◌, ◌≢◌, ℕ, ◌<◌, List, [], ◌∷◌, ◌++◌, length, filter, nat_eq, All, Option, Some, IfSome, Contains, slice_get}
use Rattle.ext_history.specs.Histories.{seen_by}
use Rattle.ext_model.specs.CallActs.{Calls, IsPointAfter, events_by}
use Rattle.ext_model.specs.declared.event.Act.{Act}
use Rattle.ext_model.specs.declared.event.Event.{Event}
use Rattle.ext_model.specs.Events.{is_on, place_of}
use Rattle.ext_model.specs.History.{History, Limits}
use Rattle.ext_lifecycle.specs.declared.call.Call.{Call}
use Rattle.ext_lifecycle.specs.declared.outcome.Outcome.{Outcome}
use Rattle.ext_lifecycle.specs.Callbacks.{befores_of, afters_of, test_call}
use Rattle.ext_tree.specs.Trees.{IsPathOf, IsTree}
use Rattle.ext_store.specs.Stores.{StoreLane, StoreView, cell_in}
use Rattle.ext_locks.specs.Opening.{LocksView}
use Rattle.ext_locks.specs.Sets.{HeldView}
use Rattle.ext_engine.specs.RunLaws.{IsAtOrBelow}
use Rattle.ext_engine.specs.Meeting.{HasSeenWithin}
use Rattle.ext_engine.specs.Order.{CallsGoOn, ChildRun, IsMadeBy, IsMadeIn}
use Rattle.ext_engine.specs.TreeRun.{Lanes, Ran, TreeRun, TreeSetting, concurrent_children, with_calls}
use Rattle.ext_one_report.specs.Alone.{IsAloneButBeside, IsSeenMeanwhile, RunsAlone}

-- ---- cells

-- The events on one cell, in order.
abbrev pub events_at : ℕ → History → History
events_at cell h = filter (λ e. is_on nat_eq cell e.act) h

-- ---- calls

-- Each event that the lane makes between these two states of it is on no cell, or on one of these.
pub record MakesOnly {V : Type 0} (cells : List ℕ) (before after : StoreLane V) : Type 0 where
  pub each : (index cell : ℕ) → (made : IsMadeBy (seen_by after.cells.view) index before after)
      → place_of made.event.act ≡ Some cell → Contains cells cell

-- A call whose acts are only on such cells makes only such events.
abbrev pub ActsAreOnly : Type 0 → Type 0
ActsAreOnly V = (limits : Limits) (cells : List ℕ) (acts : List (Act ℕ)) (before after : StoreLane V)
    → Calls limits before.cells.view after.cells.view acts
    → All (λ act. IfSome (place_of act) (λ cell. Contains cells cell)) acts → MakesOnly cells before after

-- ---- nodes

module _ {V A : Type 0} (t : TreeSetting V A) where
  -- The cell is one of the node's own or of a node below it.
  pub record IsBelow (cells : ℕ → List ℕ) (node cell : ℕ) : Type 0 where
    pub one : ℕ
    pub below : IsAtOrBelow t.store.tree node one
    pub has : Contains (cells one) cell

  -- No node changes a cell at which a node looks that may run beside it. This is true of all nodes below two different
  -- concurrent children of a container.
  pub record AreApart (looked changed : ℕ → List ℕ) : Type 0 where
    pub apart : (container child other : ℕ) → Contains (concurrent_children t container) child
        → Contains (concurrent_children t container) other → child ≢ other
        → (cell : ℕ) → IsBelow looked child cell → IsBelow changed other cell → ⊥

  -- A call of the node: a callback before or after its body, or the body.
  pub record IsCallOf (node : ℕ) (call : Call) : Type 0 where
    pub path : List ℕ
    pub path_is : IsPathOf t.store.tree node path
    pub among : Contains (befores_of t.registered (t.suite.is_test node) node path ++ test_call node
        ∷ afters_of t.registered (t.suite.is_test node) node path) call

  module _ (changed : ℕ → List ℕ) where
    -- Each node changes only cells of these. Its calls make events on no others, and the cells of its context, which
    -- its close seals, are among them.
    pub record NodesChangeOnly : Type 0 where
      pub calls : (node : ℕ) (call : Call) → IsCallOf node call
          → (held : Option HeldView) (before : StoreLane V) (outcome : Outcome) (after : StoreLane V)
          → t.call_gives node call held before outcome after
          → MakesOnly (changed node) before after
      pub closes : (node key : ℕ) → node < length t.store.tree → key < length t.store.id.keys
          → Contains (changed node) (cell_in t.store key node)

    -- The cell is left to the node: no node that may run beside it changes the cell, nor does a node below such a one.
    pub record IsLeftTo (node cell : ℕ) : Type 0 where
      pub left : (container child other : ℕ) → Contains (concurrent_children t container) child
          → Contains (concurrent_children t container) other → child ≢ other
          → IsAtOrBelow t.store.tree child node → IsBelow changed other cell → ⊥

    -- The lanes are alone on the cells that are left to the node: each event there that is seen meanwhile was made by
    -- one of these lanes between the two states.
    pub record IsAloneOnCells (h : History) (node : ℕ) (before after : List (StoreLane V)) : Type 0 where
      pub each : (index cell : ℕ) (event : Event ℕ) → IsSeenMeanwhile index before after
          → slice_get h index ≡ Some event → place_of event.act ≡ Some cell → IsLeftTo node cell
          → IsMadeIn h index before after

    -- What a call of a node does to a lane that is alone meanwhile on the cells left to the node.
    pub record CallsAloneOnCells (h : History) (node : ℕ) (call : Call) (held : Option HeldView) (before : StoreLane V)
        (outcome : Outcome) (after : StoreLane V) : Type 0 where
      pub makes : t.call_gives node call held before outcome after
      pub within : HasSeenWithin h after
      pub alone : IsAloneOnCells h node (before ∷ []) (after ∷ [])

    -- ---- laws

    -- Each event made in a run of a node is on no cell, or on one that the node or a node below it changes.
    abbrev pub RunsChangeOnly : Type 0
    RunsChangeOnly = IsTree t.store.tree → NodesChangeOnly
        → (h : History) (depth node : ℕ) (before : Lanes V) (ran : List Ran) (after : Lanes V)
        → ChildRun t depth node before ran after
        → All (HasSeenWithin h) after.first → (index cell : ℕ) (event : Event ℕ)
        → IsMadeIn h index before.first after.first → slice_get h index ≡ Some event → place_of event.act ≡ Some cell
        → IsBelow changed node cell

    -- A node, or a part of it, that is alone except for nodes beside it is alone on the cells left to it.
    abbrev pub AloneOnCells : Type 0
    AloneOnCells = IsTree t.store.tree → NodesChangeOnly → (h : History) (node : ℕ) (before after : List (StoreLane V))
        → IsAloneButBeside t h node before after → IsAloneOnCells h node before after

    -- A node that runs alone except for nodes beside it is run with calls that are alone on the cells left to it, and
    -- so are the nodes below it.
    abbrev pub CallsAreAloneOnCells : Type 0
    CallsAreAloneOnCells = IsTree t.store.tree → NodesChangeOnly
        → (h : History) (depth node : ℕ) (before : Lanes V) (ran : List Ran) (after : Lanes V)
        → RunsAlone t h depth node before ran after
        → TreeRun (with_calls (CallsAloneOnCells h) t) depth node before ran after

    -- A lane that is alone on the cells left to the node sees on each of them the events that it saw there before the
    -- call, and then its own: at any point of the call at which it had made exactly these acts.
    abbrev pub AloneSeesItsOwn : Type 0
    AloneSeesItsOwn = (h : History) (node : ℕ) (before after : StoreLane V) → HasSeenWithin h after
        → IsAloneOnCells h node (before ∷ []) (after ∷ [])
        → (acts : List (Act ℕ)) (p : History) → IsPointAfter before.cells.view after.cells.view acts p → (cell : ℕ)
        → IsLeftTo node cell
        → events_at cell p ≡ events_at cell (seen_by before.cells.view ++ events_by before.cells.view.number acts)

    -- If nodes that may run beside one another are apart, each cell at which a node or a node below it looks is left to
    -- it.
    abbrev pub ApartIsLeft : Type 0
    ApartIsLeft = IsTree t.store.tree → (looked : ℕ → List ℕ) → AreApart looked changed → (node cell : ℕ)
        → IsBelow looked node cell → IsLeftTo node cell

-- The law holds of runs by each suite of a type whose calls let lanes go on, whatever cells the nodes change.
abbrev pub OfCells : {V S A : Type 0} → (S → StoreView → LocksView → TreeSetting V A)
    → (TreeSetting V A → (ℕ → List ℕ) → Type 0) → Type 0
OfCells {V} {S} {A} setting Law = (suite : S) (store : StoreView) (locks : LocksView) (changed : ℕ → List ℕ)
    → CallsGoOn (setting suite store locks).call_gives → Law (setting suite store locks) changed
