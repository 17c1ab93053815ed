-- After seals, which store no number, their lane keeps what it kept.
use Rattle.std.proofs.Common.{◌≡◌, ◌⊎◌, inl, inr, ℕ, List, [], ◌∷◌, ap, Option}
use Rattle.std.specs.Prelude.{All, Result, Ok, Err}
use Rattle.std.proofs.lemmas.List.Elements.{All-nil, All-cons}
use Rattle.ext_model.specs.declared.event.Act.TheVariants.{Seal}
use Rattle.ext_model.specs.CallActs.{Calls}
use Rattle.ext_values.specs.Known.{known_at}
use Rattle.ext_cells.specs.Lanes.{Lane}
use Rattle.ext_store_core.specs.declared.fault.Refusal.{Refusal}
use Rattle.ext_store_core.specs.declared.fault.Refusal.TheVariants as refusal
use Rattle.ext_store_core.specs.ContextCalls.{ContextCells, SealsKey, SealsUnused, cell_in, seals_of}
use Rattle.ext_store.specs.Stores.{StoreId, StoreLane, IsLaneOf, IsOnCells}
use Rattle.ext_store.specs.LaneCalls.{Frame}
use Rattle.ext_store.proofs.Keeping.{StoresNot, one_kept}
use Rattle.ext_store.proofs.Frames.{frame_of, quiet_frame}

-- the events of a seal, whatever it answers
seal_acts : (store : ContextCells) (context key : ℕ) (before after : Lane) (r : Result (Option ℕ) Refusal) → SealsKey store context key before after r
    → Calls before.cells.limits before.view after.view (Seal (cell_in store key context) ∷ []) ⊎ Calls before.cells.limits before.view after.view []
seal_acts store context key before after (Ok kept) (inl made) = inl made.calls
seal_acts store context key before after (Ok kept) (inr found) = inr found.calls
seal_acts store context key before after (Err refusal.Contended) over = inr over.calls
seal_acts store context key before after (Err (refusal.Busy at)) held = inr held.1.calls
seal_acts store context key before after (Err (refusal.Closed at)) never = absurd never
seal_acts store context key before after (Err refusal.DirectoryFull) never = absurd never
seal_acts store context key before after (Err refusal.Unplaced) never = absurd never
seal_acts store context key before after (Err refusal.Memory) never = absurd never
seal_acts store context key before after (Err refusal.Exhausted) never = absurd never

-- so it has a frame
pub seal_frame : {V : Type 0} (id : StoreId) (store : ContextCells) (inside a b : StoreLane V) → inside ≡ a → IsLaneOf id a → b.cells.cells ≡ inside.cells.cells → IsOnCells inside b
    → (context key : ℕ) (r : Result (Option ℕ) Refusal) → SealsKey store context key inside.cells b.cells r → Frame id [] a b
seal_frame {V} id store inside a b is mine cells on_cells context key r sealed = elim (seal_acts store context key inside.cells b.cells r sealed) [
  | inl made ↦ frame_of id inside a b is mine cells on_cells (Seal (cell_in store key context) ∷ []) made
      (λ number kept. one_kept inside.cells.cells.limits inside b (Seal (cell_in store key context) ∷ []) number made (All-cons (StoresNot number) (Seal (cell_in store key context)) [] (λ e. cc e) (All-nil (StoresNot number))) (ap (λ (x : StoreLane V). known_at x.known number) on_cells) kept)
  | inr found ↦ quiet_frame id inside a b is mine cells on_cells found
]

stores_none : (store : ContextCells) (context number : ℕ) (keys : List ℕ) → All (StoresNot number) (seals_of store context keys)
stores_none store context number [] = All-nil (StoresNot number)
stores_none store context number (key ∷ keys) = All-cons (StoresNot number) (Seal (cell_in store key context)) (seals_of store context keys) (λ e. cc e) (stores_none store context number keys)

-- and so have the seals of keys that nobody used
pub unused_frame : {V : Type 0} (id : StoreId) (store : ContextCells) (inside a b : StoreLane V) → inside ≡ a → IsLaneOf id a → b.cells.cells ≡ inside.cells.cells → IsOnCells inside b
    → (context block marks : ℕ) → SealsUnused store context block marks inside.cells b.cells → Frame id [] a b
unused_frame {V} id store inside a b is mine cells on_cells context block marks sealed =
    frame_of id inside a b is mine cells on_cells (seals_of store context sealed.sealed) sealed.calls
    (λ number kept. one_kept inside.cells.cells.limits inside b (seals_of store context sealed.sealed) number sealed.calls (stores_none store context number sealed.sealed) (ap (λ (x : StoreLane V). known_at x.known number) on_cells) kept)
