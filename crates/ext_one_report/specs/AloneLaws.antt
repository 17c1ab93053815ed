-- Laws of who made the events that are seen while nodes run, each proved by `alone_laws`. If a node runs alone except
-- for nodes beside it, so do its children, its calls and the close of its context. A run with all lanes of the store is
-- alone (JUnit 5 User Guide, "Parallel Execution"; JUnit has no such laws).
use Rattle.std.specs.Prelude.{◌≡◌, ℕ, true, List, [], ◌∷◌, length, Option, All, map, min, slice_index_or}
use Rattle.std.specs.List.{FoldsTo}
use Rattle.ext_model.specs.History.{History, IsLegal, Limits}
use Rattle.ext_lifecycle.specs.declared.call.Call.{Call}
use Rattle.ext_lifecycle.specs.declared.outcome.Outcome.{Outcome}
use Rattle.ext_lifecycle.specs.Endings.{all_successful}
use Rattle.ext_lifecycle.specs.Lifecycle.{endings_of}
use Rattle.ext_tree.specs.Trees.{IsPathOf, IsTree}
use Rattle.ext_cells.specs.Lanes.{CellsId, fresh_lanes}
use Rattle.ext_store.specs.Stores.{StoreLane, fresh_store_lane}
use Rattle.ext_locks.specs.Sets.{HeldView}
use Rattle.ext_crew.specs.Dealing.{RunByDealing}
use Rattle.ext_engine.specs.Meeting.{HasSeenWithin}
use Rattle.ext_engine.specs.Order.{ChildRun}
use Rattle.ext_engine.specs.TreeRun.{BodyRun, ContainerRun, Lanes, Ran, TestRun, TreeRun, TreeSetting, concurrent_children, with_calls, with_lanes}
use Rattle.ext_one_report.specs.Alone.{AreAllLanes, HasJustItsOwn, IsAloneButBeside, IsTheirsOr, RunsAlone}

module _ {V A : Type 0} (t : TreeSetting V A) where
  -- ---- parts of a node

  -- A container is alone, except for nodes beside it, in its before-callbacks, its after-callbacks and its close.
  -- `opened` are its lanes after the before-callbacks, `after` those after its body, if that is run, `called` those
  -- after the after-callbacks, and `closed` those at its end.
  pub record IsAloneItself (h : History) (node : ℕ) (before opened after called closed : List (StoreLane V))
      : Type 0 where
    pub befores : IsAloneButBeside t h node before opened
    pub afters : IsAloneButBeside t h node after called
    pub close : IsAloneButBeside t h node called closed

  abbrev pub ContainersAreAlone : Type 0
  ContainersAreAlone = (depth node : ℕ) (path : List ℕ) (before : Lanes V) (ran : List Ran) (after : Lanes V)
      → (run : ContainerRun t (ChildRun t depth) node path before ran after)
      → (h : History) → All (HasSeenWithin h) after.first → IsAloneButBeside t h node before.first after.first
      → IsAloneItself h node before.first run.opened run.body.first run.ends.called after.first

  -- If its body is run, each of its concurrent children runs alone except for nodes beside that child: those beside the
  -- container, and the other concurrent children. Each of the other children runs alone except for nodes beside the
  -- container.
  pub record HasChildrenAlone (h : History) (depth node : ℕ) (opened : Lanes V) (below : List Ran) (after : Lanes V)
      (body : BodyRun t (ChildRun t depth) node opened below after) : Type 0 where
    pub concurrent : RunByDealing
        (λ i s ran u. RunsAlone t h depth (slice_index_or (concurrent_children t node) i 0) s ran u)
        (length (concurrent_children t node)) (min (length body.forked) (length (concurrent_children t node)))
        (with_lanes body.forked opened) body.beside body.between
    pub others : FoldsTo (λ s d u. RunsAlone t h depth d.0 s d.1 u × IsAloneButBeside t h node s.first u.first)
        (with_lanes body.joined body.between) body.in_turn.done after

  abbrev pub ChildrenRunAlone : Type 0
  ChildrenRunAlone = (depth node : ℕ) (path : List ℕ) (before : Lanes V) (ran : List Ran) (after : Lanes V)
      → (run : ContainerRun t (ChildRun t depth) node path before ran after)
      → (on : all_successful (endings_of run.befores) ≡ true) → IsTree t.store.tree → IsPathOf t.store.tree node path
      → (h : History) → All (HasSeenWithin h) after.first
      → IsAloneButBeside t h node before.first after.first
      → HasChildrenAlone h depth node (record { first = run.opened; second = before.second }) run.below run.body
      (run.body_made.made on)

  -- A test is alone in the same sense in its calls and in the close of its context.
  abbrev pub TestsAreAlone : Type 0
  TestsAreAlone = (node : ℕ) (path : List ℕ) (before : Lanes V) (ran : List Ran) (after : Lanes V)
      → (run : TestRun t node path before ran after) → (h : History)
      → IsAloneButBeside t h node before.first after.first → IsAloneButBeside t h node before.first run.called
      × IsAloneButBeside t h node run.called after.first

  -- ---- calls

  -- What a call of a node does to a lane that is alone meanwhile, except for nodes beside this one.
  pub record CallsAlone (h : History) (node : ℕ) (call : Call) (held : Option HeldView) (before : StoreLane V)
      (outcome : Outcome) (after : StoreLane V) : Type 0 where
    pub makes : t.call_gives node call held before outcome after
    pub within : HasSeenWithin h after
    pub alone : IsAloneButBeside t h node (before ∷ []) (after ∷ [])

  -- A node that runs alone is run with such calls, and so are the nodes below it.
  abbrev pub CallsAreAlone : Type 0
  CallsAreAlone = IsTree t.store.tree
      → (h : History) (depth node : ℕ) (before : Lanes V) (ran : List Ran) (after : Lanes V)
      → RunsAlone t h depth node before ran after
      → TreeRun (with_calls (CallsAlone h) t) depth node before ran after

  -- ---- whole runs

  -- In a run with all lanes of a store, these make all events that are seen meanwhile, so the run is alone.
  abbrev pub WholeRunsAreAlone : Type 0
  WholeRunsAreAlone = (depth node : ℕ) (before : Lanes V) (ran : List Ran) (after : Lanes V)
      → ChildRun t depth node before ran after → (h : History)
      → AreAllLanes h before.first after.first → IsTheirsOr h (λ index. ⊥) before.first after.first
      × RunsAlone t h depth node before ran after

-- The lanes with which a store was opened are all its lanes, if afterwards all have seen beginnings of one legal
-- history that has exactly each lane's own events.
abbrev pub FreshLanesAreAll : Type 0 → Type 0
FreshLanesAreAll V = (limits : Limits) (cells : CellsId) (slots fault_slots keys : List ℕ) (h : History)
    (before after : List (StoreLane V))
    → before ≡ map (fresh_store_lane slots fault_slots keys) (fresh_lanes cells 0 limits.lanes) → IsLegal limits h
    → All (HasSeenWithin h) after → All (HasJustItsOwn h) after → AreAllLanes h before after
