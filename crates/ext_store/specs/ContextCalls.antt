-- What the calls of ext_store_core promise of a context and a key, said of the whole store. The definitions are the
-- same, and see only its contexts, keys and cells. The calls are `get`, `put` and `remove` of Javadoc
-- `ExtensionContext.Store`; seals are not from JUnit.
use Rattle.std.specs.Prelude.{ℕ, List, Option, Result}
use Rattle.ext_model.specs.declared.event.Act.{Act}
use Rattle.ext_model.specs.declared.look.Look.{Look}
use Rattle.ext_cells.specs.Lanes.{Lane}
use Rattle.ext_store_core.specs.declared.fault.Refusal.{Refusal}
use Rattle.ext_store_core.specs.ContextCalls as cells
use Rattle.ext_store.specs.Stores.{StoreView, context_cells}

-- The result is the look-up from the context through its ancestors, nearest first, at one single point of the call.
abbrev pub Gets : StoreView → ℕ → ℕ → Lane → Lane → Result Look Refusal → Type 0
Gets store context key before after result = cells.Gets (context_cells store) context key before after result

-- The same along a path, and which paths a look-up may go along.
abbrev pub GetsAlong : StoreView → List ℕ → ℕ → Lane → Lane → Result Look Refusal → Type 0
GetsAlong store path key before after result = cells.GetsAlong (context_cells store) path key before after result

abbrev pub IsTrail : StoreView → List ℕ → Type 0
IsTrail store path = cells.IsTrail (context_cells store) path

-- A put stores the number in the context, and answers the number that stood there.
abbrev pub Puts : StoreView → ℕ → ℕ → ℕ → Lane → Lane → Result (Option ℕ) (ℕ × Refusal) → Type 0
Puts store context key number before after result =
    cells.Puts (context_cells store) context key number before after result

-- A remove takes what stands in the context itself, and answers it.
abbrev pub Removes : StoreView → ℕ → ℕ → Lane → Lane → Result (Option ℕ) Refusal → Type 0
Removes store context key before after result = cells.Removes (context_cells store) context key before after result

-- The key's cell in the context is sealed, and the seal keeps this number, or none.
abbrev pub SealsCell : StoreView → ℕ → ℕ → Lane → Lane → Option ℕ → Type 0
SealsCell store context key before after kept = cells.SealsCell (context_cells store) context key before after kept

-- At a point of the call a lane was computing a value for the context.
abbrev pub IsBusyThere : StoreView → ℕ → ℕ → Lane → Lane → Type 0
IsBusyThere store context key before after = cells.IsBusyThere (context_cells store) context key before after

-- Other lanes overtook the call.
abbrev pub IsInTheWay : StoreView → Lane → Lane → Type 0
IsInTheWay store before after = cells.IsInTheWay (context_cells store) before after

-- The seal keeps what stood in the context and answers it, or it is refused.
abbrev pub SealsKey : StoreView → ℕ → ℕ → Lane → Lane → Result (Option ℕ) Refusal → Type 0
SealsKey store context key before after result = cells.SealsKey (context_cells store) context key before after result

-- Seals of the context under these keys, in their order.
abbrev pub seals_of : StoreView → ℕ → List ℕ → List (Act ℕ)
seals_of store context keys = cells.seals_of (context_cells store) context keys

-- The call sealed keys of this block of 32 of the context's that are not among the marked, and each of those is sealed
-- afterwards, and nobody had used it.
abbrev pub SealsUnused : StoreView → ℕ → ℕ → ℕ → Lane → Lane → Type 0
SealsUnused store context block marks before after =
    cells.SealsUnused (context_cells store) context block marks before after
