-- Which cells the events of a run of a plan are on, where numbers are stored, and what stands in cells meanwhile: what all lanes of the run have seen is one history, and
-- all is said of its events and of its parts.
-- Own rule, for Javadoc `ExtensionContext.Store`: `put`, `remove` and `getOrComputeIfAbsent` change the value of their key in their context.
use Rattle.std.specs.Prelude.{◌≡◌, ◌⊎◌, ℕ, ◌<◌, List, length, Option, None, Some, slice_get}
use mathlib.Core.List.{IsPrefix}
use Rattle.ext_lifecycle.specs.Results.{ResultOf}
use Rattle.ext_model.specs.declared.event.Act.TheVariants.{Seal}
use Rattle.ext_model.specs.declared.event.Event.{Event}
use Rattle.ext_model.specs.declared.look.Fault.{Fault}
use Rattle.ext_model.specs.declared.slot.Slot.{Slot}
use Rattle.ext_model.specs.declared.slot.Slot.TheVariants as slot
use Rattle.ext_model.specs.Events.{place_of}
use Rattle.ext_model.specs.History.{History, state_after}
use Rattle.ext_plan.specs.Plans.{PlanText}
use Rattle.ext_store.specs.Stores.{StoreView, cell_in}
use Rattle.ext_tree.specs.Keys.{IsKeyNumber, KeyValue, KnownPlace}
use Rattle.ext_plan_parallel.specs.ParallelRun.{ParallelRun}

-- the number in a cell: of the value or the fault that stands there, or of the value that its seal keeps
abbrev pub number_in : Option Slot → Option ℕ
number_in None = None
number_in (Some (slot.Entry number)) = Some number
number_in (Some (slot.Fault number)) = Some number
number_in (Some (slot.Claim lane)) = None
number_in (Some (slot.Sealed kept)) = kept

-- the cell is that of a key, which has this number, in a context
pub record IsCellOfKey (store : StoreView) (numbering : List KnownPlace) (cell : ℕ) : Type 0 where
  pub key : KeyValue
  pub number : ℕ
  pub context : ℕ
  pub named : IsKeyNumber numbering key number
  pub cell_is : cell ≡ cell_in store number context

-- what is true of each run of a plan
abbrev pub OfRuns : ((plan : PlanText) (lanes : ℕ) (results : List (ResultOf Fault)) → ParallelRun plan lanes results → Type 0) → Type 0
OfRuns Law = (plan : PlanText) (lanes : ℕ) (results : List (ResultOf Fault)) (run : ParallelRun plan lanes results) → Law plan lanes results run

module _ (plan : PlanText) (lanes : ℕ) (results : List (ResultOf Fault)) (run : ParallelRun plan lanes results) where
  -- each event of the run that is on a cell seals the cell, or the cell is that of a key that has a number
  abbrev pub OnlyNamedCells : Type 0
  OnlyNamedCells = (place cell : ℕ) (event : Event ℕ) → slice_get run.shared.history place ≡ Some event → place_of event.act ≡ Some cell
      → (event.act ≡ Seal cell) ⊎ IsCellOfKey run.store run.numbered.numbering cell

  -- at no moment of the run does a number stand in two cells
  abbrev pub StandOnce : Type 0
  StandOnce = (part : History) → IsPrefix part run.shared.history → (cell other number : ℕ) → number_in ((state_after part).slots cell) ≡ Some number → number_in ((state_after part).slots other) ≡ Some number
      → cell ≡ other

  -- and under a place number that is no key's there is never one, in any context
  abbrev pub UnnamedKeepNothing : Type 0
  UnnamedKeepNothing = (part : History) → IsPrefix part run.shared.history → (context number : ℕ) → number < length run.store.id.keys → ((key : KeyValue) → ¬ IsKeyNumber run.numbered.numbering key number)
      → number_in ((state_after part).slots (cell_in run.store number context)) ≡ None
