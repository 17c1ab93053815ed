-- The public answers of a put, a remove and a seal, from what their common loop says.
use Rattle.std.proofs.Common.{◌≡◌, inl, inr, ℕ, Bool, true, false, List, [], sym, refl, ap, ◌∙◌, Option, None, Some}
use Rattle.std.specs.Prelude.{Result, Ok, Err}
use Rattle.ext_model.specs.declared.event.Act.{Act}
use Rattle.ext_model.specs.declared.event.Act.TheVariants.{Put, Remove, Seal}
use Rattle.ext_model.specs.declared.slot.Slot.{Slot}
use Rattle.ext_model.specs.declared.slot.Slot.TheVariants as slot
use Rattle.ext_model.specs.Events as events
use Rattle.ext_model.specs.History.{reply_after}
use Rattle.ext_model.specs.Plain.{what_stood}
use Rattle.ext_model.specs.CallActs.{HoldsAtPoint}
use Rattle.ext_history.proofs.Answered.{holds_too}
use Rattle.ext_cells.specs.declared.refusal.CellRefusal.{CellRefusal}
use Rattle.ext_cells.specs.declared.refusal.CellRefusal.TheVariants as refusal
use Rattle.ext_cells.specs.Lanes.{Lane}
use Rattle.ext_cells.specs.CellCalls.{result_of, change_reply, put_acts, remove_acts, Answers, SealAnswers, ComesLast}
use Rattle.ext_cells.specs.declared.stood.Stood.{Stood}
use Rattle.ext_cells.specs.declared.stood.Stood.TheVariants.{Nothing, Value, Fault}
use Rattle.ext_cells.specs.InnerSteps.{Changes, number_of, number_result, value_result}

-- two results of a call, one of them a refusal
differ : {A : Type 0} (x : A) (why : CellRefusal) → (let r : Result A CellRefusal = Ok x in let s : Result A CellRefusal = Err why in r ≡ s) → ⊥
differ x why e = cc e

same_why : (a b : CellRefusal) → (let r : Result (Option ℕ) CellRefusal = Err a in let s : Result (Option ℕ) CellRefusal = Err b in r ≡ s) → a ≡ b
same_why a b e = cc e

-- a put is never answered without an event
put_happens : (worn : Bool) (s : Option Slot) (answer : Option ℕ) → events.put_reply worn s ≡ events.Answers answer → ⊥
put_happens true None answer e = cc e
put_happens false None answer e = cc e
put_happens true (Some (slot.Entry n)) answer e = cc e
put_happens true (Some (slot.Fault n)) answer e = cc e
put_happens false (Some (slot.Entry n)) answer e = cc e
put_happens false (Some (slot.Fault n)) answer e = cc e
put_happens worn (Some (slot.Claim lane)) answer e = cc e
put_happens worn (Some (slot.Sealed kept)) answer e = cc e

-- a remove that happens answers a number,
removed_some : (worn : Bool) (s : Option Slot) → events.remove_reply worn s ≡ events.Happens None → ⊥
removed_some worn None e = cc e
removed_some true (Some (slot.Entry n)) e = cc e
removed_some true (Some (slot.Fault n)) e = cc e
removed_some false (Some (slot.Entry n)) e = cc e
removed_some false (Some (slot.Fault n)) e = cc e
removed_some worn (Some (slot.Claim lane)) e = cc e
removed_some worn (Some (slot.Sealed kept)) e = cc e

-- and one without an event none
removed_none : (worn : Bool) (s : Option Slot) (n : ℕ) → events.remove_reply worn s ≡ events.Answers (Some n) → ⊥
removed_none worn None n e = cc e
removed_none true (Some (slot.Entry m)) n e = cc e
removed_none true (Some (slot.Fault m)) n e = cc e
removed_none false (Some (slot.Entry m)) n e = cc e
removed_none false (Some (slot.Fault m)) n e = cc e
removed_none worn (Some (slot.Claim lane)) n e = cc e
removed_none worn (Some (slot.Sealed kept)) n e = cc e

module _ (tries : ℕ) (before after : Lane) (act : Act ℕ) where
  -- a refusal at a point is the reply there
  refused : (acts_of : Result (Option ℕ) CellRefusal → List (Act ℕ)) (why : CellRefusal) → (why ≡ refusal.Contended → ⊥) → acts_of (Err why) ≡ []
      → HoldsAtPoint before.cells.limits before.view after.view [] (λ p. change_reply before act p ≡ Err why) → Answers tries before after acts_of (change_reply before act) (Err why)
  refused acts_of why ne none h = record {
    overtaken = λ e. absurd (ne (same_why why refusal.Contended e));
    replied = λ other.
        let r : Result (Option ℕ) CellRefusal = Err why in
        rw none (holds_too (λ p. r ≡ change_reply before act p) (λ p e. sym e) h);
  }

  -- an answer at a point, with these events
  answered : (acts_of : Result (Option ℕ) CellRefusal → List (Act ℕ)) (answer : Option ℕ) (reply : events.Reply) → result_of what_stood reply ≡ Ok answer
      → HoldsAtPoint before.cells.limits before.view after.view (acts_of (Ok answer)) (λ p. reply_after before.cells.limits p before.view.number act ≡ reply) → Answers tries before after acts_of (change_reply before act) (Ok answer)
  answered acts_of answer reply is h = record {
    overtaken = λ e. absurd (differ answer refusal.Contended e);
    replied = λ other.
        let r : Result (Option ℕ) CellRefusal = Ok answer in
        holds_too (λ p. r ≡ change_reply before act p) (λ p e. sym (ap (result_of what_stood) e ∙ is)) h;
  }

module _ (tries : ℕ) (before after : Lane) (cell number : ℕ) where
  pub put_answers : (r : Result Stood CellRefusal) → Changes tries before after (Put cell number) r → Answers tries before after (put_acts cell number) (change_reply before (Put cell number)) (number_result r)
  put_answers (Ok stood) ch = elim ch [
    | inl h ↦ answered tries before after (Put cell number) (put_acts cell number) (number_of stood) (events.Happens (number_of stood)) refl h
    | inr h ↦ absurd (put_happens _ _ (number_of stood) h.point.2)
  ]
  put_answers (Err refusal.Contended) ch = record { overtaken = λ e. ch; replied = λ ne. absurd (ne refl) }
  put_answers (Err refusal.Busy) ch = refused tries before after (Put cell number) (put_acts cell number) refusal.Busy (λ e. cc e) refl ch
  put_answers (Err refusal.Closed) ch = refused tries before after (Put cell number) (put_acts cell number) refusal.Closed (λ e. cc e) refl ch
  put_answers (Err refusal.Exhausted) ch = refused tries before after (Put cell number) (put_acts cell number) refusal.Exhausted (λ e. cc e) refl ch
  put_answers (Err refusal.NumbersFull) ch = refused tries before after (Put cell number) (put_acts cell number) refusal.NumbersFull (λ e. cc e) refl ch
  put_answers (Err refusal.Memory) ch = refused tries before after (Put cell number) (put_acts cell number) refusal.Memory (λ e. cc e) refl ch
  put_answers (Err refusal.BadLimit) ch = refused tries before after (Put cell number) (put_acts cell number) refusal.BadLimit (λ e. cc e) refl ch

module _ (tries : ℕ) (before after : Lane) (cell : ℕ) where
  pub remove_answers : (r : Result Stood CellRefusal) → Changes tries before after (Remove cell) r → Answers tries before after (remove_acts cell) (change_reply before (Remove cell)) (number_result r)
  remove_answers (Ok Nothing) ch = elim ch [
    | inl h ↦ absurd (removed_some _ _ h.point.2)
    | inr h ↦ answered tries before after (Remove cell) (remove_acts cell) None (events.Answers None) refl h
  ]
  remove_answers (Ok (Value n)) ch = elim ch [
    | inl h ↦ answered tries before after (Remove cell) (remove_acts cell) (Some n) (events.Happens (Some n)) refl h
    | inr h ↦ absurd (removed_none _ _ n h.point.2)
  ]
  remove_answers (Ok (Fault n)) ch = elim ch [
    | inl h ↦ answered tries before after (Remove cell) (remove_acts cell) (Some n) (events.Happens (Some n)) refl h
    | inr h ↦ absurd (removed_none _ _ n h.point.2)
  ]
  remove_answers (Err refusal.Contended) ch = record { overtaken = λ e. ch; replied = λ ne. absurd (ne refl) }
  remove_answers (Err refusal.Busy) ch = refused tries before after (Remove cell) (remove_acts cell) refusal.Busy (λ e. cc e) refl ch
  remove_answers (Err refusal.Closed) ch = refused tries before after (Remove cell) (remove_acts cell) refusal.Closed (λ e. cc e) refl ch
  remove_answers (Err refusal.Exhausted) ch = refused tries before after (Remove cell) (remove_acts cell) refusal.Exhausted (λ e. cc e) refl ch
  remove_answers (Err refusal.NumbersFull) ch = refused tries before after (Remove cell) (remove_acts cell) refusal.NumbersFull (λ e. cc e) refl ch
  remove_answers (Err refusal.Memory) ch = refused tries before after (Remove cell) (remove_acts cell) refusal.Memory (λ e. cc e) refl ch
  remove_answers (Err refusal.BadLimit) ch = refused tries before after (Remove cell) (remove_acts cell) refusal.BadLimit (λ e. cc e) refl ch

  pub seal_answers : (r : Result Stood CellRefusal) → Changes tries before after (Seal cell) r → SealAnswers tries before after cell (value_result r)
  seal_answers (Ok stood) ch = ch
  seal_answers (Err refusal.Contended) ch = ch
  seal_answers (Err refusal.Busy) ch = ch
  seal_answers (Err refusal.Closed) ch = ch
  seal_answers (Err refusal.Exhausted) ch = ch
  seal_answers (Err refusal.NumbersFull) ch = ch
  seal_answers (Err refusal.Memory) ch = ch
  seal_answers (Err refusal.BadLimit) ch = ch

-- where the answer is made of what a change met, `Contended` still comes last
module _ (tries : ℕ) (before after : Lane) (act : Act ℕ) where
  same_refusal : (why : CellRefusal) → (let x : Result (Option ℕ) CellRefusal = Err why in let y : Result (Option ℕ) CellRefusal = Err refusal.Contended in x ≡ y) → (let x : Result Stood CellRefusal = Err why in let y : Result Stood CellRefusal = Err refusal.Contended in x ≡ y)
  same_refusal why e = cc e

  pub number_last : (r : Result Stood CellRefusal) → ComesLast refusal.Contended tries before after act r → ComesLast refusal.Contended tries before after act (number_result r)
  number_last (Ok stood) last e = absurd (cc e)
  number_last (Err why) last e = last (same_refusal why e)

  pub value_last : (r : Result Stood CellRefusal) → ComesLast refusal.Contended tries before after act r → ComesLast refusal.Contended tries before after act (value_result r)
  value_last (Ok stood) last e = absurd (cc e)
  value_last (Err why) last e = last (same_refusal why e)
