-- For what the drawing of a number is refused.
use Rattle.std.proofs.Common.{◌≡◌, ℕ, Bool, true, false, sym, subst, ◌+◌, Some}
use Rattle.std.specs.Prelude.{Result, Ok, Err, if◌then◌else◌}
use Rattle.ext_model.specs.Events as events
use Rattle.ext_model.specs.Plain.{number_drawn}
use Rattle.ext_cells.specs.declared.refusal.CellRefusal.{CellRefusal}
use Rattle.ext_cells.specs.declared.refusal.CellRefusal.TheVariants as cell
use Rattle.ext_cells.specs.Lanes.{Lane}
use Rattle.ext_cells.specs.CellCalls as cells
use Rattle.ext_store.specs.InnerKeeping.{IsOfCount}

abbrev OfCount : {A : Type 0} → Result A CellRefusal → Type 0
OfCount (Ok value) = Unit {0}
OfCount (Err why) = IsOfCount why

-- what one thread is refused for
keep_of : (drawn : ℕ) (b : Bool) → OfCount (cells.result_of number_drawn (if b then events.Happens (Some (drawn + 1)) else events.Refuses events.NumbersFull))
keep_of drawn true = tt
keep_of drawn false = tt

module _ (tries : ℕ) (before after : Lane) where
  -- where other lanes were not in the way
  only : (why : CellRefusal) → (let r : Result ℕ CellRefusal = Err why in r ≡ Err cell.Contended → ⊥) → cells.Answers tries before after cells.number_acts (cells.number_reply before) (Err why) → IsOfCount why
  only why ne a = let h = a.replied ne in subst OfCount (sym h.point.2) (keep_of _ _)

  pub draw_refusal : (why : CellRefusal) → cells.Answers tries before after cells.number_acts (cells.number_reply before) (Err why) → IsOfCount why
  draw_refusal cell.NumbersFull a = tt
  draw_refusal cell.Contended a = tt
  draw_refusal cell.Busy a = only cell.Busy (λ e. cc e) a
  draw_refusal cell.Closed a = only cell.Closed (λ e. cc e) a
  draw_refusal cell.Exhausted a = only cell.Exhausted (λ e. cc e) a
  draw_refusal cell.Memory a = only cell.Memory (λ e. cc e) a
  draw_refusal cell.BadLimit a = only cell.BadLimit (λ e. cc e) a
