-- What the end of a context leaves in a run on several lanes and in the plain run.
-- JUnit 5 User Guide, "Keeping State in Extensions", and Javadoc `ExtensionContext.Store.CloseableResource`; seals, and what is told of closes, are own rules.
use Rattle.ext_one_report.proofs.Open.{Open}
use Rattle.std.specs.Prelude.{ℕ, ◌≡◌, ◌≢◌, ◌<◌, Bool, true, List, ◌∷◌, length, All, Option, None, Some}
use Rattle.ext_model.specs.declared.look.Fault.{Fault}
use Rattle.ext_model.specs.declared.slot.Slot.{Slot}
use Rattle.ext_model.specs.declared.slot.Slot.TheVariants as slot
use Rattle.ext_model.specs.History.{History, slots_in}
use Rattle.ext_tree.specs.Keys.{KeyValue}
use Rattle.ext_lifecycle.specs.declared.outcome.Outcome.{Outcome}
use Rattle.ext_lifecycle.specs.FaultTexts.{fault_text}
use Rattle.ext_lifecycle.specs.Lifecycle.{computed_in, endings_of, found_in}
use Rattle.ext_lifecycle.specs.Results.{result_of, map_fault}
use Rattle.ext_locks.specs.Opening.{LocksView}
use Rattle.ext_plan.specs.Plans.{PlanText}
use Rattle.ext_engine.specs.Meeting.{HasSeenWithin, first_seen}
use Rattle.ext_engine.specs.TreeRun.{ClosesNode}
use Rattle.ext_plan_parallel.specs.StoreCalls.{PlanLane}
use Rattle.ext_plan_plain.specs.ValueStates.{ValueState}
use Rattle.ext_plan_plain.specs.ContextEnds.{faults_of_closes, seal_keys}
use Rattle.ext_plan_plain.specs.NodeCalls.{CallsEnd}
use Rattle.ext_plan_plain.specs.PlainRun.{outcome_of}
use Rattle.ext_one_report.proofs.CallListsWords.{CallsAlike}
use Rattle.ext_one_report.proofs.MatchingWords.{HasNumberIn, Places, RunView, cell_of}
use Rattle.ext_one_report.proofs.StepsWords.{IsLaneIn}
use Rattle.ext_one_report.proofs.FullRuns.{setting_in}
use Rattle.ext_one_report.proofs.Orders.{AreInOrder}
use Rattle.ext_one_report.proofs.Levels.{AreLevel, besides}
use Rattle.ext_one_report.proofs.SharedNodesWords.{AreOwn, IsSharedBasis}

-- ---- seals

-- what stands after a seal where this stood: the seal keeps a value, a seal that stands already stays, and a claim is not sealed
abbrev pub seal_of : Option Slot → Option Slot
seal_of None = Some (slot.Sealed None)
seal_of (Some (slot.Entry number)) = Some (slot.Sealed (Some number))
seal_of (Some (slot.Fault number)) = Some (slot.Sealed None)
seal_of (Some (slot.Claim lane)) = Some (slot.Claim lane)
seal_of (Some (slot.Sealed kept)) = Some (slot.Sealed kept)

-- From one state of a plain run to another: the places of all numbers of keys are sealed in this context, and nothing else is changed
pub record SealsPlaces (node : ℕ) (before after : ValueState) : Type 0 where
  pub sealed : (key : ℕ) → key < before.places → after.store.slots (node, key) ≡ seal_of (before.store.slots (node, key))
  pub others : (context key : ℕ) → context ≢ node → after.store.slots (context, key) ≡ before.store.slots (context, key)
  pub drawn : after.store.drawn ≡ before.store.drawn
  pub places : after.places ≡ before.places
  pub numbers : after.numbers ≡ before.numbers
  pub keys : after.keys ≡ before.keys
  pub values : after.values ≡ before.values
  pub memory : after.memory ≡ before.memory
  pub keeps : after.keep_faults ≡ before.keep_faults

-- so is it at the end of a context
abbrev pub PlainSealsPlaces : Type 0
PlainSealsPlaces = (node : ℕ) (s : ValueState) → SealsPlaces node s (seal_keys s.places node s)

-- From one history to a later one: the cells of this context are sealed, and those of these places in other contexts are as before
pub record SealsCells (run : RunView) (node : ℕ) (places : Places) (before after : History) : Type 0 where
  pub sealed : (key : KeyValue) (number : ℕ) → HasNumberIn run key number → ((lane : ℕ) → slots_in (cell_of run number) before node ≢ Some (slot.Claim lane))
      → slots_in (cell_of run number) after node ≡ seal_of (slots_in (cell_of run number) before node)
  pub others : (context number : ℕ) (key : KeyValue) → context ≢ node → places context key ≡ true → HasNumberIn run key number
      → slots_in (cell_of run number) after context ≡ slots_in (cell_of run number) before context

-- ---- the end of a node

-- A node's context is closed on lanes and in the plain run: the same stands at all other places after it, and one result is told of the node
pub record ClosesLevel (plan : PlanText) (run : RunView) (node : ℕ) (places : Places) (is_test : Bool) (outcomes : List Outcome) (faults : List (Option Fault)) (after : History) (end : CallsEnd) : Type 0 where
  pub level : AreLevel plan run (besides node places) after (seal_keys end.state.places node end.state)
  pub told : map_fault fault_text (result_of node is_test (endings_of outcomes) (computed_in outcomes) (found_in outcomes) faults)
      ≡ outcome_of node is_test end (faults_of_closes end.state.places node (seal_keys end.state.places node end.state))

module _ (plan : PlanText) (run : RunView) (locks : LocksView) (h : History) (touched changes : ℕ → Places) (changed : ℕ → List ℕ) (shares : ℕ → Open) where
  -- a node's context is closed on lanes, the first of which is this, that are alone at these places, among them all of the context, whatever others do meanwhile
  pub record IsClosedAlone (node : ℕ) (places : Places) (lane : PlanLane) (rest : List PlanLane) (faults : List (Option Fault)) (after : List PlanLane) : Type 0 where
    pub basis : IsSharedBasis plan run locks h touched changes changed shares
    pub inside : node < length plan.nodes
    pub closes : ClosesNode (setting_in plan run locks) node (lane ∷ rest) faults after
    pub within : All (HasSeenWithin h) after
    pub lanes : All (IsLaneIn run) after
    pub own : AreOwn run h places (lane ∷ rest) after
    pub all : (key : KeyValue) → places node key ≡ true

  -- and where the node's calls ended alike, and the values that are closed are in one order, so does the node
  abbrev pub ClosesEndLevel : Type 0
  ClosesEndLevel =
      (node : ℕ) (is_test : Bool) (places : Places) (lane : PlanLane) (rest : List PlanLane) (outcomes : List Outcome) (faults : List (Option Fault)) (after : List PlanLane) (end : CallsEnd)
      → IsClosedAlone node places lane rest faults after → AreLevel plan run places (first_seen (lane ∷ rest)) end.state → AreInOrder run node (first_seen (lane ∷ rest)) end.state
      → CallsAlike run places outcomes lane end
      → ClosesLevel plan run node places is_test outcomes faults (first_seen after) end
