-- Closes that are refused and asked again.
use Rattle.std.proofs.Common.{◌≡◌, ℕ, Bool, List, [], ◌∷◌, length, ap, ◌∙◌, refl, subst}
use Rattle.std.specs.Prelude.{Result, Err}
use Rattle.ext_store.specs.Stores.{StoreView, StoreLane, CloserView}
use Rattle.ext_model.specs.declared.closed.Closed.{Closed}
use Rattle.ext_closing.specs.declared.fault.CloseFault.{CloseFault}
use Rattle.ext_closing.specs.declared.fault.CloseFault.TheVariants.{Unjoined}
use Rattle.ext_closing.specs.Lanes.{OnlyFirstSteps, with_first}
use Rattle.ext_closing.specs.Closing.{Answer}
use Rattle.ext_closing.specs.Closes.{Closes, IsLeftUnjoined, IsRefused}
use Rattle.ext_cells.specs.Lanes.{Lane}

-- ---- refusals

module _ {V A : Type 0} (is_closeable : V → Bool) (gives : A → ℕ → V → Answer → A → Type 0) (store : StoreView) where
  -- a close by a closer and from an action that are these
  pub same_close : (closer left : CloserView) (first now last : A) (before after : List (StoreLane V)) (result : Result Closed (CloserView × CloseFault)) → left ≡ closer → now ≡ first
      → Closes is_closeable gives store left before now result after last → Closes is_closeable gives store closer before first result after last
  same_close closer left first now last before after result same begun close =
      subst (λ x. Closes is_closeable gives store closer before x result after last) begun (subst (λ x. Closes is_closeable gives store x before now result after last) same close)

  -- a refused close leaves closer and action as they were
  pub refused_close : (closer left back : CloserView) (first now last : A) (before after : List (StoreLane V)) (why : CloseFault) → left ≡ closer → now ≡ first → back ≡ left → last ≡ now
      → Closes is_closeable gives store left before now (Err (back, why)) after last → IsRefused is_closeable gives store closer first before why after
  refused_close closer left back first now last before after why same begun handed not_called close =
      subst (λ x. Closes is_closeable gives store closer before first (Err (closer, why)) after x) (not_called ∙ begun)
      (subst (λ x. Closes is_closeable gives store closer before first (Err (x, why)) after last) (handed ∙ same)
      (same_close closer left first now last before after (Err (back, why)) same begun close))

  -- a close that was refused as `Unjoined`
  pub left_unjoined : (closer : CloserView) (action : A) (before : List (StoreLane V)) (number : ℕ) (after : List (StoreLane V)) → IsRefused is_closeable gives store closer action before (Unjoined number) after
      → IsLeftUnjoined store closer before number after
  left_unjoined closer action before number after close = record {
    sealed = close.sealed;
    own_events = close.own_events;
    unjoined = close.unjoined;
    lanes = close.lanes;
    own_lanes = close.own_lanes;
    kept = close.kept;
  }

count-with : {V : Type 0} (cells : Lane) (lanes : List (StoreLane V)) → length (with_first cells lanes) ≡ length lanes
count-with cells [] = refl
count-with cells (lane ∷ others) = refl

pub count_kept : {V : Type 0} (before after : List (StoreLane V)) → OnlyFirstSteps before after → length after ≡ length before
count_kept before after steps = ap length steps.1 ∙ count-with steps.0 before
