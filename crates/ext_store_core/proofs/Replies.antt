-- What the store answers, from what its cells answer.
use Rattle.std.proofs.Common.{◌≡◌, ◌≢◌, ℕ, Bool, true, false, List, sym, refl, ap, ◌∙◌, subst, Option, None, Some}
use Rattle.std.specs.Prelude.{Result, Ok, Err}
use Rattle.ext_model.specs.declared.event.Act.{Act}
use Rattle.ext_model.specs.declared.event.Act.TheVariants.{Put, Remove}
use Rattle.ext_model.specs.declared.slot.Slot.{Slot}
use Rattle.ext_model.specs.declared.slot.Slot.TheVariants as slot
use Rattle.ext_model.specs.Events as events
use Rattle.ext_model.specs.History.{History}
use Rattle.ext_model.specs.Plain.{what_stood}
use Rattle.ext_model.specs.CallActs.{IsAnswerPoint, Calls}
use Rattle.ext_cells.specs.declared.refusal.CellRefusal.{CellRefusal}
use Rattle.ext_cells.specs.declared.refusal.CellRefusal.TheVariants as cell
use Rattle.ext_cells.specs.Lanes.{Lane}
use Rattle.ext_cells.specs.CellCalls as cells
use Rattle.ext_store_core.specs.declared.fault.Refusal.{Refusal}
use Rattle.ext_store_core.specs.declared.fault.Refusal.TheVariants as refusal
use Rattle.ext_store_core.specs.ContextCalls.{ContextCells, cell_in, Answers, result_at, with_kept, put_acts, remove_acts, Puts, Removes}
use Rattle.ext_store_core.specs.InnerRefusals.{refusal_at}

-- what the store says of a cell's result
abbrev pub told_at : ℕ → Result (Option ℕ) CellRefusal → Result (Option ℕ) Refusal
told_at context (Ok stood) = Ok stood
told_at context (Err why) = Err (refusal_at context why)

put_told : (context : ℕ) (worn : Bool) (s : Option Slot) → result_at context (events.put_reply worn s) ≡ told_at context (cells.result_of what_stood (events.put_reply worn s))
put_told context true None = refl
put_told context false None = refl
put_told context true (Some (slot.Entry number)) = refl
put_told context true (Some (slot.Fault number)) = refl
put_told context false (Some (slot.Entry number)) = refl
put_told context false (Some (slot.Fault number)) = refl
put_told context worn (Some (slot.Claim lane)) = refl
put_told context worn (Some (slot.Sealed kept)) = refl

remove_told : (context : ℕ) (worn : Bool) (s : Option Slot) → result_at context (events.remove_reply worn s) ≡ told_at context (cells.result_of what_stood (events.remove_reply worn s))
remove_told context worn None = refl
remove_told context true (Some (slot.Entry number)) = refl
remove_told context true (Some (slot.Fault number)) = refl
remove_told context false (Some (slot.Entry number)) = refl
remove_told context false (Some (slot.Fault number)) = refl
remove_told context worn (Some (slot.Claim lane)) = refl
remove_told context worn (Some (slot.Sealed kept)) = refl

-- a put is never refused as contended by one thread,
put_never : (context : ℕ) (worn : Bool) (s : Option Slot) → told_at context (cells.result_of what_stood (events.put_reply worn s)) ≢ Err refusal.Contended
put_never context true None e = cc e
put_never context false None e = cc e
put_never context true (Some (slot.Entry number)) e = cc e
put_never context true (Some (slot.Fault number)) e = cc e
put_never context false (Some (slot.Entry number)) e = cc e
put_never context false (Some (slot.Fault number)) e = cc e
put_never context worn (Some (slot.Claim lane)) e = cc e
put_never context worn (Some (slot.Sealed kept)) e = cc e

-- and neither is a remove
remove_never : (context : ℕ) (worn : Bool) (s : Option Slot) → told_at context (cells.result_of what_stood (events.remove_reply worn s)) ≢ Err refusal.Contended
remove_never context worn None e = cc e
remove_never context true (Some (slot.Entry number)) e = cc e
remove_never context true (Some (slot.Fault number)) e = cc e
remove_never context false (Some (slot.Entry number)) e = cc e
remove_never context false (Some (slot.Fault number)) e = cc e
remove_never context worn (Some (slot.Claim lane)) e = cc e
remove_never context worn (Some (slot.Sealed kept)) e = cc e

-- An answer of the cells is an answer of the store
module _ {B : Type 0} (store : ContextCells) (contended : B) (before after : Lane) (acts_of : Result (Option ℕ) CellRefusal → List (Act ℕ)) (act : Act ℕ)
    (told_acts : B → List (Act ℕ)) (told : Result (Option ℕ) CellRefusal → B) (is : told (Err cell.Contended) ≡ contended) (never : (p : History) → told (cells.change_reply before act p) ≢ contended) where
  only : (r : Result (Option ℕ) CellRefusal) → r ≢ Err cell.Contended → cells.Answers store.tries before after acts_of (cells.change_reply before act) r → told r ≢ contended
  only r ne a e = let h = a.replied ne in never h.point.0 (ap told (sym h.point.2) ∙ e)

  told_answers : (r : Result (Option ℕ) CellRefusal) (reply_at : History → B) → ((p : History) → reply_at p ≡ told (cells.change_reply before act p)) → told_acts (told r) ≡ acts_of r → (told r ≡ contended → r ≡ Err cell.Contended)
      → cells.Answers store.tries before after acts_of (cells.change_reply before act) r → Answers store contended before after told_acts reply_at (told r)
  told_answers r reply_at replies same back a = record {
    overtaken = λ e. a.overtaken (back e);
    replied = λ ne.
        let h = a.replied (λ e. ne (ap told e ∙ is)) in record {
          calls = subst (Calls before.cells.limits before.view after.view) (sym same) h.calls;
          stepped = h.stepped;
          point = (h.point.0, subst (λ acts. IsAnswerPoint before.view after.view acts h.point.0) (sym same) h.point.1, ap told h.point.2 ∙ sym (replies h.point.0));
        };
  }

  pub back_to : (r : Result (Option ℕ) CellRefusal) → cells.Answers store.tries before after acts_of (cells.change_reply before act) r → told r ≡ contended → r ≡ Err cell.Contended
  back_to (Ok stood) a e = absurd (only (Ok stood) (λ x. cc x) a e)
  back_to (Err cell.Contended) a e = refl
  back_to (Err cell.Busy) a e = absurd (only (Err cell.Busy) (λ x. cc x) a e)
  back_to (Err cell.Closed) a e = absurd (only (Err cell.Closed) (λ x. cc x) a e)
  back_to (Err cell.Exhausted) a e = absurd (only (Err cell.Exhausted) (λ x. cc x) a e)
  back_to (Err cell.NumbersFull) a e = absurd (only (Err cell.NumbersFull) (λ x. cc x) a e)
  back_to (Err cell.Memory) a e = absurd (only (Err cell.Memory) (λ x. cc x) a e)
  back_to (Err cell.BadLimit) a e = absurd (only (Err cell.BadLimit) (λ x. cc x) a e)

  pub answers_too : (r : Result (Option ℕ) CellRefusal) (reply_at : History → B) → ((p : History) → reply_at p ≡ told (cells.change_reply before act p)) → told_acts (told r) ≡ acts_of r
      → cells.Answers store.tries before after acts_of (cells.change_reply before act) r → Answers store contended before after told_acts reply_at (told r)
  answers_too r reply_at replies same a = told_answers r reply_at replies same (back_to r a) a

abbrev without_kept : Result (Option ℕ) (ℕ × Refusal) → Result (Option ℕ) Refusal
without_kept (Ok stood) = Ok stood
without_kept (Err refused) = Err refused.1

unpaired : (number : ℕ) (r : Result (Option ℕ) Refusal) (why : Refusal) → with_kept number r ≡ Err (number, why) → r ≡ Err why
unpaired number (Ok stood) why e = absurd (cc e)
unpaired number (Err other) why e = ap without_kept e

-- handed back for another reason
pub other_why : (kept number : ℕ) (why second : Refusal) → why ≢ second → (let r : Result (Option ℕ) (ℕ × Refusal) = Err (kept, why) in r ≢ Err (number, second))
other_why kept number why second ne e = ne (one_why why second (ap without_kept e))
  where
    one_why : (a b : Refusal) → (let r : Result (Option ℕ) Refusal = Err a in r ≡ Err b) → a ≡ b
    one_why a b e = cc e

same_put_acts : (context cell number : ℕ) (r : Result (Option ℕ) CellRefusal) → put_acts cell number (with_kept number (told_at context r)) ≡ cells.put_acts cell number r
same_put_acts context cell number (Ok stood) = refl
same_put_acts context cell number (Err why) = refl

same_remove_acts : (context cell : ℕ) (r : Result (Option ℕ) CellRefusal) → remove_acts cell (told_at context r) ≡ cells.remove_acts cell r
same_remove_acts context cell (Ok None) = refl
same_remove_acts context cell (Ok (Some number)) = refl
same_remove_acts context cell (Err why) = refl

module _ (store : ContextCells) (context key : ℕ) (before after : Lane) where
  pub puts : (number : ℕ) (r : Result (Option ℕ) CellRefusal) → cells.Answers store.tries before after (cells.put_acts (cell_in store key context) number) (cells.change_reply before (Put (cell_in store key context) number)) r
      → Puts store context key number before after (with_kept number (told_at context r))
  unfolding Puts
  puts number r a =
      answers_too store (Err (number, refusal.Contended)) before after (cells.put_acts (cell_in store key context) number) (Put (cell_in store key context) number) (put_acts (cell_in store key context) number)
      (λ x. with_kept number (told_at context x)) refl (λ p e. put_never context _ _ (unpaired number _ refusal.Contended e)) r _ (λ p. ap (with_kept number) (put_told context _ _)) (same_put_acts context _ number r) a

  pub removes : (r : Result (Option ℕ) CellRefusal) → cells.Answers store.tries before after (cells.remove_acts (cell_in store key context)) (cells.change_reply before (Remove (cell_in store key context))) r
      → Removes store context key before after (told_at context r)
  unfolding Removes
  removes r a =
      answers_too store (Err refusal.Contended) before after (cells.remove_acts (cell_in store key context)) (Remove (cell_in store key context)) (remove_acts (cell_in store key context))
      (told_at context) refl (λ p. remove_never context _ _) r _ (λ p. remove_told context _ _) (same_remove_acts context _ r) a

  -- the same by what the code names
  pub stored : (tries cell number : ℕ) (r : Result (Option ℕ) CellRefusal) → tries ≡ store.tries → cell ≡ cell_in store key context
      → cells.Answers tries before after (cells.put_acts cell number) (cells.change_reply before (Put cell number)) r → Puts store context key number before after (with_kept number (told_at context r))
  stored tries cell number r t c a =
      puts number r
      (subst (λ n. cells.Answers n before after (cells.put_acts (cell_in store key context) number) (cells.change_reply before (Put (cell_in store key context) number)) r) t
      (subst (λ n. cells.Answers tries before after (cells.put_acts n number) (cells.change_reply before (Put n number)) r) c a))

  pub removed : (tries cell : ℕ) (r : Result (Option ℕ) CellRefusal) → tries ≡ store.tries → cell ≡ cell_in store key context
      → cells.Answers tries before after (cells.remove_acts cell) (cells.change_reply before (Remove cell)) r → Removes store context key before after (told_at context r)
  removed tries cell r t c a =
      removes r
      (subst (λ n. cells.Answers n before after (cells.remove_acts (cell_in store key context)) (cells.change_reply before (Remove (cell_in store key context))) r) t
      (subst (λ n. cells.Answers tries before after (cells.remove_acts n) (cells.change_reply before (Remove n)) r) c a))
