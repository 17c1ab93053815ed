-- How the store passes on a refusal of its cells. No public contract cites it.
use Rattle.std.specs.Prelude.{ℕ}
use Rattle.ext_cells.specs.declared.refusal.CellRefusal.{CellRefusal}
use Rattle.ext_cells.specs.declared.refusal.CellRefusal.TheVariants as cell
use Rattle.ext_store_core.specs.declared.fault.Refusal.{Refusal}
use Rattle.ext_store_core.specs.declared.fault.Refusal.TheVariants.{Contended, Busy, Closed, Exhausted}

-- A put, a remove, a claim and a seal are refused only for these.
abbrev pub IsOfCell : CellRefusal → Type 0
IsOfCell cell.Busy = Unit {0}
IsOfCell cell.Closed = Unit {0}
IsOfCell cell.Exhausted = Unit {0}
IsOfCell cell.Contended = Unit {0}
IsOfCell cell.NumbersFull = ⊥
IsOfCell cell.Memory = ⊥
IsOfCell cell.BadLimit = ⊥

-- The store's refusal of an act on the context's cell. The last three do not come.
abbrev pub refusal_at : ℕ → CellRefusal → Refusal
refusal_at context cell.Busy = Busy context
refusal_at context cell.Closed = Closed context
refusal_at context cell.Exhausted = Exhausted
refusal_at context cell.Contended = Contended
refusal_at context cell.NumbersFull = Contended
refusal_at context cell.Memory = Contended
refusal_at context cell.BadLimit = Contended
