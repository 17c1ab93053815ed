-- The events and the steps of a call, by its result.
use Rattle.std.proofs.Common.{◌+◌, ◌≤◌, length, length-drop, ℕ, List, [], refl, arith, Option, None, Some}
use Rattle.std.specs.Prelude.{Result, Ok, Err}
use Rattle.ext_model.specs.declared.look.Look.{Look}
use Rattle.ext_model.specs.CallActs.{Calls}
use Rattle.ext_cells.specs.declared.refusal.CellRefusal.{CellRefusal}
use Rattle.ext_cells.specs.declared.refusal.CellRefusal.TheVariants as cell
use Rattle.ext_cells.specs.Lanes.{Lane}
use Rattle.ext_cells.specs.CellCalls as cells
use Rattle.ext_store_core.specs.declared.fault.Refusal.{Refusal}
use Rattle.ext_store_core.specs.declared.fault.Refusal.TheVariants as refusal
use Rattle.ext_store_core.specs.ContextCalls.{ContextCells, cell_in, steps_of, with_kept, put_acts, remove_acts, Gets, GetsAlong, Puts, Removes}
use Rattle.ext_store_core.specs.InnerLooking.{Looks}
use Rattle.ext_store_core.proofs.Replies.{other_why}

-- the steps of two calls, one after the other
pub steps_add : (a b c : Lane) → steps_of a c ≤ steps_of a b + steps_of b c
steps_add a b c = omega (arith, length-drop (length a.view.fronts) c.view.fronts, length-drop (length a.view.fronts) b.view.fronts, length-drop (length b.view.fronts) c.view.fronts)

-- a look-up makes no event,
pub looks_quiet : (store : ContextCells) (path : List ℕ) (key : ℕ) (before after : Lane) (r : Result Look Refusal) → Looks store path key before after r → Calls before.cells.limits before.view after.view []
looks_quiet store path key before after (Ok look) l = l.calls
looks_quiet store path key before after (Err why) l = l.1.calls

module _ (store : ContextCells) (path : List ℕ) (key : ℕ) (before after : Lane) where
  pub along_quiet : (r : Result Look Refusal) → GetsAlong store path key before after r → Calls before.cells.limits before.view after.view []
  along_quiet (Ok look) g = (g.looked.replied (λ e. cc e)).calls
  along_quiet (Err refusal.Contended) g = (g.looked.overtaken refl).calls
  along_quiet (Err (refusal.Busy at)) g = (g.looked.replied (λ e. cc e)).calls
  along_quiet (Err (refusal.Closed at)) g = (g.looked.replied (λ e. cc e)).calls
  along_quiet (Err refusal.DirectoryFull) g = (g.looked.replied (λ e. cc e)).calls
  along_quiet (Err refusal.Unplaced) g = (g.looked.replied (λ e. cc e)).calls
  along_quiet (Err refusal.Memory) g = (g.looked.replied (λ e. cc e)).calls
  along_quiet (Err refusal.Exhausted) g = (g.looked.replied (λ e. cc e)).calls

module _ (store : ContextCells) (context key : ℕ) (before after : Lane) where
  pub gets_quiet : (r : Result Look Refusal) → Gets store context key before after r → Calls before.cells.limits before.view after.view []
  unfolding Gets
  gets_quiet r g = along_quiet store g.0 key before after r g.2

  -- a put and a remove those that their results mean,
  pub put_calls : (number : ℕ) (r : Result (Option ℕ) Refusal) → Puts store context key number before after (with_kept number r) → Calls before.cells.limits before.view after.view (put_acts (cell_in store key context) number (with_kept number r))
  unfolding Puts
  put_calls number (Ok stood) a = (a.replied (λ e. cc e)).calls
  put_calls number (Err refusal.Contended) a = (a.overtaken refl).calls
  put_calls number (Err (refusal.Busy at)) a = (a.replied (other_why number number (refusal.Busy at) refusal.Contended (λ e. cc e))).calls
  put_calls number (Err (refusal.Closed at)) a = (a.replied (other_why number number (refusal.Closed at) refusal.Contended (λ e. cc e))).calls
  put_calls number (Err refusal.DirectoryFull) a = (a.replied (other_why number number refusal.DirectoryFull refusal.Contended (λ e. cc e))).calls
  put_calls number (Err refusal.Unplaced) a = (a.replied (other_why number number refusal.Unplaced refusal.Contended (λ e. cc e))).calls
  put_calls number (Err refusal.Memory) a = (a.replied (other_why number number refusal.Memory refusal.Contended (λ e. cc e))).calls
  put_calls number (Err refusal.Exhausted) a = (a.replied (other_why number number refusal.Exhausted refusal.Contended (λ e. cc e))).calls

  pub remove_calls : (r : Result (Option ℕ) Refusal) → Removes store context key before after r → Calls before.cells.limits before.view after.view (remove_acts (cell_in store key context) r)
  unfolding Removes
  remove_calls (Ok None) a = (a.replied (λ e. cc e)).calls
  remove_calls (Ok (Some number)) a = (a.replied (λ e. cc e)).calls
  remove_calls (Err refusal.Contended) a = (a.overtaken refl).calls
  remove_calls (Err (refusal.Busy at)) a = (a.replied (λ e. cc e)).calls
  remove_calls (Err (refusal.Closed at)) a = (a.replied (λ e. cc e)).calls
  remove_calls (Err refusal.DirectoryFull) a = (a.replied (λ e. cc e)).calls
  remove_calls (Err refusal.Unplaced) a = (a.replied (λ e. cc e)).calls
  remove_calls (Err refusal.Memory) a = (a.replied (λ e. cc e)).calls
  remove_calls (Err refusal.Exhausted) a = (a.replied (λ e. cc e)).calls

-- and the drawing of a number none, where it is refused
pub drew_quiet : (tries : ℕ) (before after : Lane) (why : CellRefusal) → cells.Answers tries before after cells.number_acts (cells.number_reply before) (Err why) → Calls before.cells.limits before.view after.view []
drew_quiet tries before after cell.NumbersFull a = (a.replied (λ e. cc e)).calls
drew_quiet tries before after cell.Contended a = (a.overtaken refl).calls
drew_quiet tries before after cell.Busy a = (a.replied (λ e. cc e)).calls
drew_quiet tries before after cell.Closed a = (a.replied (λ e. cc e)).calls
drew_quiet tries before after cell.Exhausted a = (a.replied (λ e. cc e)).calls
drew_quiet tries before after cell.Memory a = (a.replied (λ e. cc e)).calls
drew_quiet tries before after cell.BadLimit a = (a.replied (λ e. cc e)).calls
