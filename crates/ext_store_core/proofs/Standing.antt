-- What the answer to a claim says of the look-up from the context of the cell.
use Rattle.std.proofs.Common.{◌≡◌, ℕ, Bool, true, false, List, ◌∷◌, sym, refl, subst}
use Rattle.std.specs.Prelude.{Option, None, Some, Result, Ok, Err}
use Rattle.ext_model.specs.declared.event.Act.TheVariants.{Claim}
use Rattle.ext_model.specs.declared.look.Look.TheVariants as look
use Rattle.ext_model.specs.declared.slot.Slot.{Slot}
use Rattle.ext_model.specs.declared.slot.Slot.TheVariants as slot
use Rattle.ext_model.specs.State.{look_in, lookup}
use Rattle.ext_model.specs.Events as events
use Rattle.ext_model.specs.History.{History, Limits, slots_in, reply_after}
use Rattle.ext_cells.specs.declared.claim.Claimed.{Claimed}
use Rattle.ext_cells.specs.declared.claim.Claimed.TheVariants.{Won, Standing, Fault}
use Rattle.ext_cells.specs.declared.refusal.CellRefusal.{CellRefusal}
use Rattle.ext_cells.specs.declared.refusal.CellRefusal.TheVariants as cell
use Rattle.ext_cells.specs.CellCalls.{claim_result}

-- the first context of a path decides where anything stands there
stands_first : (slots : ℕ → Option Slot) (context : ℕ) (rest : List ℕ) (here : Slot) → slots context ≡ Some here → lookup slots (context ∷ rest) ≡ look_in context (Some here)
stands_first slots context rest here is = rw is (rw is refl)

-- where a claim gets this result: what the look-up from the context is, or what one thread replies
abbrev pub ClaimShows : (ℕ → Option Slot) → ℕ → List ℕ → events.Reply → Result Claimed CellRefusal → Type 0
ClaimShows slots context rest reply (Ok (Won claim)) = reply ≡ events.Happens None
ClaimShows slots context rest reply (Ok (Standing number)) = lookup slots (context ∷ rest) ≡ look.Found context number
ClaimShows slots context rest reply (Ok (Fault number)) = lookup slots (context ∷ rest) ≡ look.Fault context number
ClaimShows slots context rest reply (Err cell.Busy) = lookup slots (context ∷ rest) ≡ look.Busy context
ClaimShows slots context rest reply (Err cell.Closed) = lookup slots (context ∷ rest) ≡ look.Closed context
ClaimShows slots context rest reply (Err cell.Exhausted) = reply ≡ events.Refuses events.Exhausted
ClaimShows slots context rest reply (Err cell.Contended) = ⊥
ClaimShows slots context rest reply (Err cell.NumbersFull) = ⊥
ClaimShows slots context rest reply (Err cell.Memory) = ⊥
ClaimShows slots context rest reply (Err cell.BadLimit) = ⊥

claim_shows_slot : (slots : ℕ → Option Slot) (context : ℕ) (rest : List ℕ) (at : ℕ) (worn : Bool) (stands : Option Slot) → slots context ≡ stands
    → ClaimShows slots context rest (events.claim_reply worn stands) (claim_result at (events.claim_reply worn stands))
claim_shows_slot slots context rest at true None is = refl
claim_shows_slot slots context rest at false None is = refl
claim_shows_slot slots context rest at worn (Some (slot.Entry number)) is = stands_first slots context rest (slot.Entry number) is
claim_shows_slot slots context rest at worn (Some (slot.Fault number)) is = stands_first slots context rest (slot.Fault number) is
claim_shows_slot slots context rest at worn (Some (slot.Claim lane)) is = stands_first slots context rest (slot.Claim lane) is
claim_shows_slot slots context rest at worn (Some (slot.Sealed kept)) is = stands_first slots context rest (slot.Sealed kept) is

pub claim_shows : (limits : Limits) (lane : ℕ) (cell_of : ℕ → ℕ) (context : ℕ) (rest : List ℕ) (p : History) (r : Result Claimed CellRefusal)
    → r ≡ claim_result (cell_of context) (reply_after limits p lane (Claim (cell_of context))) → ClaimShows (slots_in cell_of p) context rest (reply_after limits p lane (Claim (cell_of context))) r
claim_shows limits lane cell_of context rest p r is =
    subst (ClaimShows (slots_in cell_of p) context rest (reply_after limits p lane (Claim (cell_of context)))) (sym is) (claim_shows_slot (slots_in cell_of p) context rest (cell_of context) _ (slots_in cell_of p context) refl)
