-- The parts of a close. No public contract cites it.
use Rattle.std.specs.Prelude.{ℕ, ◌≡◌, ◌≤◌, ◌+◌, ◌*◌, ◌/◌, List, [], length, Contains, Option, None, Result, Ok, Err}
use Rattle.std.specs.List.{AllZip}
use Rattle.ext_model.specs.Closing.{remaining}
use Rattle.ext_cells.specs.Lanes.{Lane}
use Rattle.ext_cells.specs.CellCalls.{IsUnmarked}
use Rattle.ext_store.specs.Stores.{StoreView, StoreLane, StillKeeps}
use Rattle.ext_store.specs.ContextCalls.{SealsCell, SealsUnused, IsBusyThere}
use Rattle.ext_store.specs.LaneCalls.{steps_of}
use Rattle.ext_closing.specs.declared.fault.CloseFault.{CloseFault}
use Rattle.ext_closing.specs.declared.fault.CloseFault.TheVariants.{Busy, Contended, Unjoined}
use Rattle.ext_closing.specs.declared.seals.Marked.{Marked}
use Rattle.ext_closing.specs.Lanes.{OnlyFirstSteps, first_lane}
use Rattle.ext_closing.specs.Sealing.{numbers_left, slots_seen, AreSealed, IsUnused, SealOvertaken}
use Rattle.ext_closing.specs.Sealing.{MakesSeals, SealsBlocks, SealsInOrder, SealsMarked, StopsBy, keys_sealed}

-- What the seal of one key answers, with the key if it is refused.
abbrev pub SealsNext : StoreView → ℕ → ℕ → Lane → Lane → Result (Option ℕ) CloseFault → Type 0
SealsNext store context key before after (Ok kept) = SealsCell store context key before after kept
SealsNext store context key before after (Err (Busy at)) = (at ≡ key) × IsBusyThere store context key before after
SealsNext store context key before after (Err (Contended at)) = (at ≡ key)
    × SealOvertaken store context key before after
SealsNext store context key before after (Err (Unjoined number)) = ⊥

-- The keys before this one are sealed, and the numbers are those that their seals keep. Of the others only some are
-- sealed that nobody used.
pub record SealedSoFar (store : StoreView) (context keys : ℕ) (before after : Lane) (numbers : List ℕ) : Type 0 where
  pub same : after.cells ≡ before.cells
  pub made : MakesSeals store context before after
  pub sealed : AreSealed store context keys after
  pub beyond : (key : ℕ) → Contains made.sealed key → keys ≤ key → IsUnused store context after key
  pub numbers_are : numbers ≡ remaining (slots_seen store context after) keys

-- So it was for a call that began here, and so it is for that call now, up to a later key.
abbrev pub SealsOn : StoreView → ℕ → ℕ → ℕ → Lane → Lane → List ℕ → List ℕ → Type 0
SealsOn store context from to between after old new = (before : Lane)
    → SealedSoFar store context from before between old → SealedSoFar store context to before after new

-- All keys of this block that are not marked are sealed, and nobody used them.
abbrev pub AreUnused : StoreView → ℕ → ℕ → ℕ → Lane → Type 0
AreUnused store context block marks lane = (key : ℕ) → IsUnmarked block marks key → IsUnused store context lane key

-- All keys are sealed, or the seal of one was refused.
pub record SealingEnds (store : StoreView) (context : ℕ) (before after : Lane) (fault : Option CloseFault)
    : Type 0 where
  pub stops : StopsBy store context before after fault
  pub sealed : AreSealed store context (keys_sealed store fault) after
  pub made : MakesSeals store context before after

-- The refusal is one of a key's seal.
abbrev pub IsOfKey : CloseFault → Type 0
IsOfKey (Busy key) = Unit {0}
IsOfKey (Contended key) = Unit {0}
IsOfKey (Unjoined number) = ⊥

-- ---- in which order

-- So many blocks are done, in order, counted in fronts.
pub record BlocksDone (store : StoreView) (context blocks : ℕ) (before after : Lane) : Type 0 where
  pub alone : ℕ
  pub sealed : SealsBlocks store context blocks alone before after
  pub steps : length after.view.fronts ≤ length before.view.fronts + (blocks + alone * (store.tries + 1))

-- The blocks before this one are done, and its own step is made, which answered these marks.
pub record BlockBegun (store : StoreView) (context block marks : ℕ) (before after : Lane) : Type 0 where
  pub between : Lane
  pub done : BlocksDone store context block before between
  pub unused : SealsUnused store context block marks between after
  pub step : steps_of between after ≡ 1

-- What came after that step for the block, counted in fronts.
pub record SealsRest (store : StoreView) (context block marks : ℕ) (before after : Lane) : Type 0 where
  pub places : ℕ
  pub few : places ≤ 32
  pub alone : ℕ
  pub marked : SealsMarked store context block marks places alone before after
  pub steps : length after.view.fronts ≤ length before.view.fronts + alone * (store.tries + 1)

-- ---- the first block that has a mark

-- The block is one of the context's, and all its keys that are not marked are sealed, and nobody used them.
pub record IsMarked (store : StoreView) (context : ℕ) (lane : Lane) (marked : Marked) : Type 0 where
  pub within : marked.block * 32 + 32 ≤ length store.id.keys
  pub unused : AreUnused store context marked.block marked.marks lane

-- The blocks before this one had no mark, and so all their keys are sealed. Each block took one step.
pub record BeginsAt (store : StoreView) (context : ℕ) (before after : Lane) (marked : Marked) : Type 0 where
  pub is_marked : IsMarked store context after marked
  pub so_far : SealedSoFar store context (marked.block * 32) before after []
  pub begun : BlockBegun store context marked.block marked.marks before after
  pub steps : length after.view.fronts ≤ length before.view.fronts + (marked.block + 1)

-- No block had a mark: all keys are sealed, and no number remains. Each block took one step.
pub record EndsEmpty (store : StoreView) (context : ℕ) (before after : Lane) : Type 0 where
  pub ends : SealingEnds store context before after None
  pub none_left : numbers_left store context after ≡ []
  pub in_order : SealsInOrder store context before after
  pub steps : length after.view.fronts ≤ length before.view.fronts + length store.id.keys / 32

-- The first of the lanes in hand has come to this block, and nothing else has happened.
pub record Begun {V : Type 0} (store : StoreView) (context : ℕ) (before after : List (StoreLane V)) (marked : Marked)
    : Type 0 where
  pub so_far : SealedSoFar store context (marked.block * 32) (first_lane store before) (first_lane store after) []
  pub begun : BlockBegun store context marked.block marked.marks (first_lane store before) (first_lane store after)
  pub lanes : OnlyFirstSteps before after
  pub kept : AllZip StillKeeps before after
