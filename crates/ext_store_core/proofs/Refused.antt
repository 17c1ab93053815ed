-- For what the cells refuse a call: for nothing that is no matter of that call.
use Rattle.std.proofs.Common.{◌≡◌, ◌∙◌, ℕ, Bool, true, false, List, sym, ap, refl, subst, Option, None, Some}
use Rattle.std.specs.Prelude.{Result, Ok, Err}
use Rattle.ext_model.specs.declared.event.Act.{Act}
use Rattle.ext_model.specs.declared.event.Act.TheVariants.{Put, Remove}
use Rattle.ext_model.specs.declared.slot.Slot.{Slot}
use Rattle.ext_model.specs.declared.slot.Slot.TheVariants as slot
use Rattle.ext_model.specs.Events as events
use Rattle.ext_model.specs.History.{History}
use Rattle.ext_model.specs.Plain.{what_stood}
use Rattle.ext_cells.specs.declared.refusal.CellRefusal.{CellRefusal}
use Rattle.ext_cells.specs.declared.refusal.CellRefusal.TheVariants as cell
use Rattle.ext_cells.specs.Lanes.{Lane}
use Rattle.ext_cells.specs.CellCalls as cells
use Rattle.ext_store_core.specs.declared.fault.Refusal.{Refusal}
use Rattle.ext_store_core.specs.declared.fault.Refusal.TheVariants as refusal
use Rattle.ext_store_core.specs.InnerRefusals.{IsOfCell, refusal_at}

abbrev OfCell : {A : Type 0} → Result A CellRefusal → Type 0
OfCell (Ok value) = Unit {0}
OfCell (Err why) = IsOfCell why

-- ---- what one thread is refused for

put_of : (worn : Bool) (s : Option Slot) → OfCell (cells.result_of what_stood (events.put_reply worn s))
put_of true None = tt
put_of false None = tt
put_of true (Some (slot.Entry number)) = tt
put_of true (Some (slot.Fault number)) = tt
put_of false (Some (slot.Entry number)) = tt
put_of false (Some (slot.Fault number)) = tt
put_of worn (Some (slot.Claim lane)) = tt
put_of worn (Some (slot.Sealed kept)) = tt

remove_of : (worn : Bool) (s : Option Slot) → OfCell (cells.result_of what_stood (events.remove_reply worn s))
remove_of worn None = tt
remove_of true (Some (slot.Entry number)) = tt
remove_of true (Some (slot.Fault number)) = tt
remove_of false (Some (slot.Entry number)) = tt
remove_of false (Some (slot.Fault number)) = tt
remove_of worn (Some (slot.Claim lane)) = tt
remove_of worn (Some (slot.Sealed kept)) = tt

claim_of : (at : ℕ) (worn : Bool) (s : Option Slot) → OfCell (cells.claim_result at (events.claim_reply worn s))
claim_of at true None = tt
claim_of at false None = tt
claim_of at worn (Some (slot.Entry number)) = tt
claim_of at worn (Some (slot.Fault number)) = tt
claim_of at worn (Some (slot.Claim lane)) = tt
claim_of at worn (Some (slot.Sealed kept)) = tt

seal_of : (s : Option Slot) → OfCell (cells.result_of what_stood (events.seal_reply s))
seal_of None = tt
seal_of (Some (slot.Entry number)) = tt
seal_of (Some (slot.Fault number)) = tt
seal_of (Some (slot.Claim lane)) = tt
seal_of (Some (slot.Sealed kept)) = tt

-- ---- what a call is refused for

module _ {A : Type 0} (tries : ℕ) (before after : Lane) (acts_of : Result A CellRefusal → List (Act ℕ)) (reply_at : History → Result A CellRefusal) where
  cell_refusal : ((p : History) → OfCell (reply_at p)) → (why : CellRefusal) → cells.Answers tries before after acts_of reply_at (Err why) → IsOfCell why
  cell_refusal of cell.Busy a = tt
  cell_refusal of cell.Closed a = tt
  cell_refusal of cell.Exhausted a = tt
  cell_refusal of cell.Contended a = tt
  cell_refusal of cell.NumbersFull a = let h = a.replied (λ e. cc e) in subst OfCell (sym h.point.2) (of h.point.0)
  cell_refusal of cell.Memory a = let h = a.replied (λ e. cc e) in subst OfCell (sym h.point.2) (of h.point.0)
  cell_refusal of cell.BadLimit a = let h = a.replied (λ e. cc e) in subst OfCell (sym h.point.2) (of h.point.0)

module _ (tries : ℕ) (before after : Lane) (at : ℕ) where
  pub put_refusal : (number : ℕ) (why : CellRefusal) → cells.Answers tries before after (cells.put_acts at number) (cells.change_reply before (Put at number)) (Err why) → IsOfCell why
  put_refusal number = cell_refusal tries before after (cells.put_acts at number) (cells.change_reply before (Put at number)) (λ p. put_of _ _)

  pub remove_refusal : (why : CellRefusal) → cells.Answers tries before after (cells.remove_acts at) (cells.change_reply before (Remove at)) (Err why) → IsOfCell why
  remove_refusal = cell_refusal tries before after (cells.remove_acts at) (cells.change_reply before (Remove at)) (λ p. remove_of _ _)

  pub claim_refusal : (why : CellRefusal) → cells.Answers tries before after (cells.claim_acts at) (cells.claim_reply before at) (Err why) → IsOfCell why
  claim_refusal = cell_refusal tries before after (cells.claim_acts at) (cells.claim_reply before at) (λ p. claim_of at _ _)

  pub seal_refusal : (why : CellRefusal) → cells.SealAnswers tries before after at (Err why) → IsOfCell why
  seal_refusal cell.Busy a = tt
  seal_refusal cell.Closed a = tt
  seal_refusal cell.Exhausted a = tt
  seal_refusal cell.Contended a = tt
  seal_refusal cell.NumbersFull h = subst OfCell h.point.2 (seal_of _)
  seal_refusal cell.Memory h = subst OfCell h.point.2 (seal_of _)
  seal_refusal cell.BadLimit h = subst OfCell h.point.2 (seal_of _)

-- ---- what comes last

-- only the cells' own refusal is answered so
contended_of : (context : ℕ) (why : CellRefusal) → IsOfCell why → refusal_at context why ≡ refusal.Contended → why ≡ cell.Contended
contended_of context cell.Busy of e = absurd (cc e)
contended_of context cell.Closed of e = absurd (cc e)
contended_of context cell.Exhausted of e = absurd (cc e)
contended_of context cell.Contended of e = refl
contended_of context cell.NumbersFull of e = absurd of
contended_of context cell.Memory of e = absurd of
contended_of context cell.BadLimit of e = absurd of

same_said : {A : Type 0} (a b : Refusal) → (let x : Result A Refusal = Err a in let y : Result A Refusal = Err b in x ≡ y) → a ≡ b
same_said a b e = cc e

-- so it comes last, as there
pub comes_last : {A : Type 0} (tries : ℕ) (before after : Lane) (context : ℕ) (act : Act ℕ) (why : CellRefusal) (said : Refusal) → IsOfCell why → said ≡ refusal_at context why
    → (let r : Result A CellRefusal = Err why in cells.ComesLast cell.Contended tries before after act r) → (let r : Result A Refusal = Err said in cells.ComesLast refusal.Contended tries before after act r)
comes_last {A} tries before after context act why said of is last e = last (ap Err (contended_of context why of (sym is ∙ same_said {A = A} said refusal.Contended e)))
