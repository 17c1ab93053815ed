-- What contracts see of the cells of a store, and what each call by the numbers of a context and a key promises of its
-- result. The calls are `get`, `put` and `remove` of Javadoc `ExtensionContext.Store`. Numbers, refusals, points and
-- seals are not from JUnit. `CallActs` of ext_model has the words for events, fronts and points.
use Rattle.std.specs.Prelude.{ℕ, ◌≡◌, ◌≢◌, ◌+◌, ◌*◌, ◌%◌, ◌<◌, ◌≤◌, List, [], length, map, ◌∷◌, nat_eq, All, AllPairs, Contains, Option, None, Some, Result, Ok, Err}
use Rattle.std.specs.List.{IsDistinct}
use Rattle.ext_model.specs.Closing.{IsSealedUnused}
use Rattle.ext_model.specs.History.{Limits, History, reply_after}
use Rattle.ext_tree.specs.Trees.{Id, IsPathOf}
use Rattle.ext_cells.specs.Lanes.{CellsId, Lane}
use Rattle.ext_cells.specs.CellCalls.{IsOvertakenOn, IsUnmarked}
use Rattle.ext_model.specs.declared.event.Act.{Act}
use Rattle.ext_model.specs.declared.event.Act.TheVariants.{Put, Remove, Seal}
use Rattle.ext_model.specs.declared.look.Look.{Look}
use Rattle.ext_model.specs.declared.look.Look.TheVariants as look
use Rattle.ext_model.specs.Events as events
use Rattle.ext_history.specs.Histories.{call_fronts, seen_by}
use Rattle.ext_model.specs.CallActs.{look_after}
use Rattle.ext_model.specs.CallActs as model
use Rattle.ext_store_core.specs.declared.fault.Refusal.{Refusal}
use Rattle.ext_store_core.specs.declared.fault.Refusal.TheVariants.{Contended, Busy, Closed, Exhausted, DirectoryFull, Unplaced, Memory}

-- A store without its values: its cells, the names of the places of its keys in the order of their numbers, the ids
-- of its contexts, and how many exchanges a call makes at most.
pub record ContextCells : Type 0 where
  pub cells : CellsId
  pub keys : List ℕ
  pub tree : List Id
  pub tries : ℕ

-- The places of keys are 32 to 1,024, in blocks of 32.
pub record AreBlocks (keys : List ℕ) : Type 0 where
  pub whole : length keys % 32 ≡ 0
  pub some : 32 ≤ length keys
  pub few : length keys ≤ 1024

-- There is a cell for each context and each place of a key, and the numbers fit the bits of a cell.
pub record IsWell (tree : List Id) (keys : List ℕ) (limits : Limits) : Type 0 where
  pub cells : limits.cells ≡ length tree * length keys
  pub key_places : AreBlocks keys
  pub few : limits.numbers ≤ 1048575

-- The cell of a context and a place of a key, by their numbers.
abbrev pub cell_in : ContextCells → ℕ → ℕ → ℕ
cell_in store key context = context * length store.keys + key

-- Contexts that a look-up may go along, the nearest first: at most 16 of the store, all different. A context's path in
-- the tree is one; whoever opens a context during a run has another for it.
pub record IsTrail (store : ContextCells) (path : List ℕ) : Type 0 where
  pub few : length path ≤ 16
  pub within : All (λ context. context < length store.tree) path
  pub different : AllPairs (λ a b. a ≢ b) path

-- ---- answers

-- The result is the reply of one thread at a point of the call, and the lane's events are those that it means. Or it is
-- `contended`, and at least `tries` events of other lanes came after the call's first front.
abbrev pub Answers : {A : Type 0} → ContextCells → A → Lane → Lane → (A → List (Act ℕ)) → (History → A) → A → Type 0
Answers store contended before after acts_of reply_at result =
    model.Answers before.cells.limits store.tries contended before.view after.view acts_of reply_at result

-- The call made these events, and `Fact` holds at a history where it may be answered.
abbrev pub HoldsAtPoint : Lane → Lane → List (Act ℕ) → (History → Type 0) → Type 0
HoldsAtPoint before after acts Fact = model.HoldsAtPoint before.cells.limits before.view after.view acts Fact

-- What one thread replies to an act of the lane directly after a history.
abbrev pub reply_to : Lane → Act ℕ → History → events.Reply
reply_to lane act h = reply_after lane.cells.limits h lane.view.number act

-- How many steps the lane made on the cells. Each adds a front.
abbrev pub steps_of : Lane → Lane → ℕ
steps_of before after = length (call_fronts before.view after.view)

-- ---- get

-- A look-up makes no event.
abbrev pub look_acts : Result Look Refusal → List (Act ℕ)
look_acts result = []

-- The result is the look-up along the path, nearest first, at one single point of the call. Or other lanes were in the
-- way on the path itself: at least `tries` events after the first front were on the key's cells there.
pub record GetsAlong (store : ContextCells) (path : List ℕ) (key : ℕ) (before after : Lane)
    (result : Result Look Refusal) : Type 0 where
  pub looked : Answers store (Err Contended) before after look_acts
      (λ p. Ok (look_after (cell_in store key) path p)) result
  pub in_the_way : result ≡ Err Contended
      → IsOvertakenOn store.tries (map (cell_in store key) path) before.view after.view

-- The same from the context through its ancestors.
unfoldable pub Gets : ContextCells → ℕ → ℕ → Lane → Lane → Result Look Refusal → Type 0
Gets store context key before after result =
    (path : List ℕ) × IsPathOf store.tree context path × GetsAlong store path key before after result

-- What a look-up may answer in a store that keeps no faults.
abbrev pub IsFaultlessLook : Look → Type 0
IsFaultlessLook (look.Found at number) = Unit {0}
IsFaultlessLook (look.Fault at number) = ⊥
IsFaultlessLook look.Absent = Unit {0}
IsFaultlessLook (look.Busy at) = Unit {0}
IsFaultlessLook (look.Closed at) = Unit {0}

-- ---- put and remove

-- The result of a put or a remove in the context with this reply. The last replies come to neither. `Contended` stands
-- in for them, since one thread never answers `Contended`.
abbrev pub result_at : ℕ → events.Reply → Result (Option ℕ) Refusal
result_at context (events.Happens answer) = Ok answer
result_at context (events.Answers answer) = Ok answer
result_at context (events.Refuses events.NumbersFull) = Err Contended
result_at context (events.Refuses events.Busy) = Err (Busy context)
result_at context (events.Refuses events.Closed) = Err (Closed context)
result_at context (events.Refuses events.Exhausted) = Err Exhausted
result_at context (events.Refuses (events.Standing number)) = Err Contended
result_at context (events.Refuses (events.FaultStanding number)) = Err Contended
result_at context (events.Refuses events.Barred) = Err Contended

-- A refused put hands the kept number back.
abbrev pub with_kept : ℕ → Result (Option ℕ) Refusal → Result (Option ℕ) (ℕ × Refusal)
with_kept number (Ok stood) = Ok stood
with_kept number (Err why) = Err (number, why)

-- A put that is not refused stores its number.
abbrev pub put_acts : ℕ → ℕ → Result (Option ℕ) (ℕ × Refusal) → List (Act ℕ)
put_acts cell number (Ok stood) = Put cell number ∷ []
put_acts cell number (Err refused) = []

-- A put stores the number in the context, and answers the number that stood there.
unfoldable pub Puts : ContextCells → ℕ → ℕ → ℕ → Lane → Lane → Result (Option ℕ) (ℕ × Refusal) → Type 0
Puts store context key number before after result =
    Answers store (Err (number, Contended)) before after (put_acts (cell_in store key context) number)
    (λ p. with_kept number (result_at context (reply_to before (Put (cell_in store key context) number) p))) result

-- A remove takes what stood there, and is no event if nothing did.
abbrev pub remove_acts : ℕ → Result (Option ℕ) Refusal → List (Act ℕ)
remove_acts cell (Ok None) = []
remove_acts cell (Ok (Some number)) = Remove cell ∷ []
remove_acts cell (Err why) = []

-- A remove takes what stands in the context itself, and answers it.
unfoldable pub Removes : ContextCells → ℕ → ℕ → Lane → Lane → Result (Option ℕ) Refusal → Type 0
Removes store context key before after result =
    Answers store (Err Contended) before after (remove_acts (cell_in store key context))
    (λ p. result_at context (reply_to before (Remove (cell_in store key context)) p)) result

-- ---- seals, for those who close a context

-- The key's cell in the context is sealed, and the seal keeps this number, or none.
abbrev pub SealsCell : ContextCells → ℕ → ℕ → Lane → Lane → Option ℕ → Type 0
SealsCell store context key before after kept =
    model.Seals before.cells.limits (cell_in store key context) before.view after.view kept

-- At a point of the call a lane was computing a value for the context.
abbrev pub IsBusyThere : ContextCells → ℕ → ℕ → Lane → Lane → Type 0
IsBusyThere store context key before after =
    HoldsAtPoint before after []
    (λ p. reply_to before (Seal (cell_in store key context)) p ≡ events.Refuses events.Busy)

-- Other lanes overtook the call.
abbrev pub IsInTheWay : ContextCells → Lane → Lane → Type 0
IsInTheWay store before after = model.IsOvertaken before.cells.limits store.tries before.view after.view

-- Why a seal is refused. It is never refused for another reason.
abbrev pub SealFails : ContextCells → ℕ → ℕ → Lane → Lane → Refusal → Type 0
SealFails store context key before after (Busy at) = (at ≡ context) × IsBusyThere store context key before after
SealFails store context key before after (Closed at) = ⊥
SealFails store context key before after Contended = IsInTheWay store before after
SealFails store context key before after DirectoryFull = ⊥
SealFails store context key before after Unplaced = ⊥
SealFails store context key before after Memory = ⊥
SealFails store context key before after Exhausted = ⊥

-- The seal keeps what stood in the context and answers it, or it is refused.
abbrev pub SealsKey : ContextCells → ℕ → ℕ → Lane → Lane → Result (Option ℕ) Refusal → Type 0
SealsKey store context key before after (Ok kept) = SealsCell store context key before after kept
SealsKey store context key before after (Err why) = SealFails store context key before after why

-- Seals of the context under these keys, in their order.
abbrev pub seals_of : ContextCells → ℕ → List ℕ → List (Act ℕ)
seals_of store context keys = map (λ key. Seal (cell_in store key context)) keys

-- The call sealed keys of this block of the context's, each once, and did nothing else. None of them is among the
-- marked, and afterwards each key of the block that is not marked is sealed, and nobody had used it.
pub record SealsUnused (store : ContextCells) (context block marks : ℕ) (before after : Lane) : Type 0 where
  pub sealed : List ℕ
  pub once : IsDistinct nat_eq sealed
  pub calls : model.Calls before.cells.limits before.view after.view (seals_of store context sealed)
  pub unmarked : (key : ℕ) → Contains sealed key → IsUnmarked block marks key
  pub unused : (key : ℕ) → IsUnmarked block marks key → IsSealedUnused (seen_by after.view) (cell_in store key context)
