-- What nodes do at the places that they share: each event there computes what is computed at the place, and comes after a look-up that found nothing. And each claim ends.
-- Javadoc `ExtensionContext.Store`, `getOrComputeIfAbsent`.
use Rattle.std.specs.Prelude.{ℕ, ◌≡◌, ◌<◌, ◌≤◌, List, ◌∷◌, length, All, Some, slice_get}
use mathlib.Core.List.{IsPrefix}
use Rattle.ext_model.specs.declared.event.Act.TheVariants.{Claim, Fill}
use Rattle.ext_model.specs.declared.event.Event.{Event}
use Rattle.ext_model.specs.declared.look.Look.TheVariants as look
use Rattle.ext_model.specs.declared.slot.Slot.TheVariants as slot
use Rattle.ext_model.specs.CallActs.{look_after}
use Rattle.ext_model.specs.Events.{place_of}
use Rattle.ext_model.specs.History.{History, IsLegal, by, slots_in, state_after}
use Rattle.ext_tree.specs.Keys.{KeyValue}
use Rattle.ext_tree.specs.Trees.{IsPathOf}
use Rattle.ext_locks.specs.Opening.{LocksView}
use Rattle.ext_plan.specs.Plans.{PlanText}
use Rattle.ext_one_report.specs.Changing.{events_at}
use Rattle.ext_engine.specs.Meeting.{HasSeen, HasSeenWithin}
use Rattle.ext_engine.specs.Order.{ChildRun, IsMadeIn}
use Rattle.ext_engine.specs.TreeRun.{Lanes, Ran}
use Rattle.ext_plan_parallel.specs.declared.steps.stored_value.StoredValue.{StoredValue}
use Rattle.ext_plan_parallel.specs.StoreCalls.{PlanLane}
use Rattle.ext_one_report.proofs.MatchingWords.{HasNumberIn, Places, RunView, cell_of}
use Rattle.ext_one_report.proofs.Open.{Computes, Given, Open}
use Rattle.ext_one_report.proofs.FullRuns.{setting_in}
use Rattle.ext_one_report.proofs.SharedNodesWords.{IsSharedBasis}

-- ---- look-ups

-- At a point of this history, not before this part of it and not behind the event at this place, the look-up on the path is absent
pub record IsLookedFor (run : RunView) (h g : History) (place number : ℕ) (path : List ℕ) : Type 0 where
  pub at : History
  pub since : IsPrefix g at
  pub part : IsPrefix at h
  pub until : length at ≤ place
  pub absent : look_after (cell_of run number) path at ≡ look.Absent

-- after this place of the history the lane makes an event on the cell, one of those that these lanes make between the two states
pub record IsEndedIn (h : History) (place lane cell : ℕ) (before after : List PlanLane) : Type 0 where
  pub later : ℕ
  pub behind : place < later
  pub event : Event ℕ
  pub there : slice_get h later ≡ Some event
  pub own : event.lane ≡ lane
  pub on : place_of event.act ≡ Some cell
  pub made : IsMadeIn h later before after

-- ---- runs

-- what is so of each plan, each view and history of a run, and all places and cells, where nodes share these places
abbrev pub OfSharing : (PlanText → RunView → LocksView → History → (ℕ → Places) → (ℕ → Places) → (ℕ → List ℕ) → (ℕ → Open) → Type 0) → Type 0
OfSharing Law =
    (plan : PlanText) (run : RunView) (locks : LocksView) (h : History) (touched changes : ℕ → Places) (changed : ℕ → List ℕ) (shares : ℕ → Open) → Law plan run locks h touched changes changed shares

module _ (plan : PlanText) (run : RunView) (locks : LocksView) (h : History) (touched changes : ℕ → Places) (changed : ℕ → List ℕ) (shares : ℕ → Open) where
  -- each event that is made in a run of a node, at a place that the node shares, computes there what all that share the place do
  abbrev pub SharedIsComputed : Type 0
  SharedIsComputed =
      (depth node : ℕ) (before : Lanes StoredValue) (ran : List Ran) (after : Lanes StoredValue)
      → IsSharedBasis plan run locks h touched changes changed shares → ChildRun (setting_in plan run locks) depth node before ran after → All (HasSeenWithin h) after.first
      → (context number place : ℕ) (key : KeyValue) (v : Given) (event : Event ℕ) → shares node context key ≡ Some v → HasNumberIn run key number → slice_get h place ≡ Some event
      → place_of event.act ≡ Some (cell_of run number context) → IsMadeIn h place before.first after.first → Computes run v event.act

  -- and comes after a look-up that was absent, at a point not before what all lanes of the node had seen before it
  abbrev pub SharedIsLookedFor : Type 0
  SharedIsLookedFor =
      (depth node : ℕ) (before : Lanes StoredValue) (ran : List Ran) (after : Lanes StoredValue) (g : History)
      → IsSharedBasis plan run locks h touched changes changed shares → ChildRun (setting_in plan run locks) depth node before ran after → All (HasSeen g) before.first → All (HasSeenWithin h) after.first
      → (context number place : ℕ) (key : KeyValue) (v : Given) (path : List ℕ) (event : Event ℕ) → shares node context key ≡ Some v → HasNumberIn run key number → slice_get h place ≡ Some event
      → place_of event.act ≡ Some (cell_of run number context) → IsPathOf run.store.tree context (context ∷ path) → IsMadeIn h place before.first after.first
      → IsLookedFor run h g place number (context ∷ path)

  -- and a number that it fills in there was drawn later than all that was drawn then
  abbrev pub SharedIsNew : Type 0
  SharedIsNew =
      (depth node : ℕ) (before : Lanes StoredValue) (ran : List Ran) (after : Lanes StoredValue) (g : History)
      → IsSharedBasis plan run locks h touched changes changed shares → ChildRun (setting_in plan run locks) depth node before ran after → All (HasSeen g) before.first → All (HasSeenWithin h) after.first
      → (context number place : ℕ) (key : KeyValue) (v : Given) (event : Event ℕ) (n : ℕ) → shares node context key ≡ Some v → HasNumberIn run key number → slice_get h place ≡ Some event
      → event.act ≡ Fill (cell_of run number context) n → IsMadeIn h place before.first after.first → (state_after g).drawn < n

  -- each claim that is made in a run of a node has ended in it: its lane has made a later event there
  abbrev pub ClaimsEnd : Type 0
  ClaimsEnd =
      (depth node : ℕ) (before : Lanes StoredValue) (ran : List Ran) (after : Lanes StoredValue)
      → IsSharedBasis plan run locks h touched changes changed shares → ChildRun (setting_in plan run locks) depth node before ran after → All (HasSeenWithin h) after.first
      → (place lane cell : ℕ) → slice_get h place ≡ Some (by lane (Claim cell)) → IsMadeIn h place before.first after.first → IsEndedIn h place lane cell before.first after.first

-- ---- histories

-- The event at this place lies behind the one part of a history, and within the other
pub record IsSeenBetween (g j : History) (place : ℕ) : Type 0 where
  pub since : length g ≤ place
  pub until : place < length j

-- the lane claimed the cell between the two parts, and nothing happened there after that
pub record IsClaimedSince (h g j : History) (cell lane : ℕ) : Type 0 where
  pub place : ℕ
  pub seen : IsSeenBetween g j place
  pub there : slice_get h place ≡ Some (by lane (Claim cell))
  pub last : (later : ℕ) (event : Event ℕ) → place < later → later < length j → slice_get h later ≡ Some event → place_of event.act ≡ Some cell → ⊥

-- a claim that stands at the second of two moments, and not at the first, was made between them
abbrev pub ClaimIsLast : Type 0
ClaimIsLast =
    (h g j : History) (cell lane : ℕ) → IsPrefix g j → IsPrefix j h → ¬ ((state_after g).slots cell ≡ Some (slot.Claim lane)) → (state_after j).slots cell ≡ Some (slot.Claim lane)
    → IsClaimedSince h g j cell lane

-- Between two moments of a legal history all events at a place compute one thing, and each claim among them comes after a look-up between the two that was absent; in the contexts
-- above nothing happens. Where the look-up is not absent at the first, and no claim stands at the place, nothing happens there either
abbrev pub FrozenIsQuiet : Type 0
FrozenIsQuiet =
    (run : RunView) (h g j : History) (context number : ℕ) (path : List ℕ) (v : Given) → IsLegal run.store.id.cells.limits h → IsPrefix g j → IsPrefix j h
    → ((place : ℕ) (event : Event ℕ) → IsSeenBetween g j place → slice_get h place ≡ Some event → place_of event.act ≡ Some (cell_of run number context) → Computes run v event.act)
    → ((place : ℕ) (event : Event ℕ) → IsSeenBetween g j place → slice_get h place ≡ Some event → event.act ≡ Claim (cell_of run number context) → IsLookedFor run h g place number (context ∷ path))
    → All (λ c. events_at (cell_of run number c) j ≡ events_at (cell_of run number c) g) path
    → ((lane : ℕ) → ¬ (slots_in (cell_of run number) g context ≡ Some (slot.Claim lane)))
    → ¬ (look_after (cell_of run number) (context ∷ path) g ≡ look.Absent)
    → events_at (cell_of run number context) j ≡ events_at (cell_of run number context) g
