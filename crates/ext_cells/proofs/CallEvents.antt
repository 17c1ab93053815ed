-- The events of a call, whatever it answers.
use Rattle.std.proofs.Common.{◌≡◌, List, [], sym, subst}
use Rattle.std.specs.Prelude.{ℕ, Result, Ok, Err}
use Rattle.ext_model.specs.declared.event.Act.{Act}
use Rattle.ext_model.specs.History.{History}
use Rattle.ext_model.specs.CallActs.{Calls}
use Rattle.ext_cells.specs.declared.refusal.CellRefusal.{CellRefusal}
use Rattle.ext_cells.specs.declared.refusal.CellRefusal.TheVariants as refusal
use Rattle.ext_cells.specs.Lanes.{Lane}
use Rattle.ext_cells.specs.CellCalls.{Answers}

module _ {A : Type 0} (tries : ℕ) (before after : Lane) (acts_of : Result A CellRefusal → List (Act ℕ)) (reply_at : History → Result A CellRefusal) where
  accepted : (x : A) → (let r : Result A CellRefusal = Ok x in let s : Result A CellRefusal = Err refusal.Contended in r ≡ s) → ⊥
  accepted x e = cc e

  same_why : (a b : CellRefusal) → (let r : Result A CellRefusal = Err a in let s : Result A CellRefusal = Err b in r ≡ s) → a ≡ b
  same_why a b e = cc e

  refused : (why : CellRefusal) → (why ≡ refusal.Contended → ⊥) → Answers tries before after acts_of reply_at (Err why) → Calls before.cells.limits before.view after.view (acts_of (Err why))
  refused why ne a = (a.replied (λ e. ne (same_why why refusal.Contended e))).calls

  -- they are those that its result means, where `Contended` means none
  pub call_made : (r : Result A CellRefusal) → acts_of (Err refusal.Contended) ≡ [] → Answers tries before after acts_of reply_at r → Calls before.cells.limits before.view after.view (acts_of r)
  call_made (Ok x) none a = (a.replied (λ e. accepted x e)).calls
  call_made (Err refusal.Contended) none a = subst (Calls before.cells.limits before.view after.view) (sym none) (a.overtaken (λ i. Err refusal.Contended)).calls
  call_made (Err refusal.Busy) none a = refused refusal.Busy (λ e. cc e) a
  call_made (Err refusal.Closed) none a = refused refusal.Closed (λ e. cc e) a
  call_made (Err refusal.Exhausted) none a = refused refusal.Exhausted (λ e. cc e) a
  call_made (Err refusal.NumbersFull) none a = refused refusal.NumbersFull (λ e. cc e) a
  call_made (Err refusal.Memory) none a = refused refusal.Memory (λ e. cc e) a
  call_made (Err refusal.BadLimit) none a = refused refusal.BadLimit (λ e. cc e) a
