-- Closes that are asked again: those that were refused, and then one that is not.
use Rattle.std.proofs.Common.{◌≡◌, ◌≤◌, ℕ, Bool, List, [], ◌∷◌, length, get_or, refl, sym, subst, ◌∙◌, arith, All}
use Rattle.std.specs.Prelude.{Ok}
use Rattle.std.specs.List.{FoldsTo}
use Rattle.ext_history.specs.Histories.{seen_by}
use Rattle.ext_model.specs.History.{IsLegal}
use Rattle.ext_cells.specs.Lanes.{CellsId}
use Rattle.ext_store.specs.Stores.{StoreView, StoreLane, CloserView, IsLaneOf}
use Rattle.ext_model.specs.declared.closed.Closed.{Closed}
use Rattle.ext_closing.specs.declared.fault.CloseFault.{CloseFault}
use Rattle.ext_closing.specs.Lanes.{first_lane}
use Rattle.ext_closing.specs.Closing.{Answer}
use Rattle.ext_closing.specs.Closes.{Closes, IsRefused, ClosesAtLast}
use Rattle.ext_closing.proofs.InHand.{keeps_on, only_first_on}
use Rattle.ext_closing.proofs.Sealing.{makes_both}

-- ---- the lanes

module _ {V : Type 0} where
  first_own : (store : StoreView) (lanes : List (StoreLane V)) → All (IsLaneOf store.id) lanes → (first_lane store lanes).cells ≡ store.id.cells
  first_own store [] all = refl
  first_own store (lane ∷ others) all = (all 0 lane (omega arith)).cells

-- ---- the closes

-- what the first of the lanes recalls
pub first_legal : {V : Type 0} (store : StoreView) (lanes : List (StoreLane V)) (d : StoreLane V) → 1 ≤ length lanes → All (IsLaneOf store.id) lanes
    → IsLegal (get_or lanes 0 d).cells.cells.limits (seen_by (get_or lanes 0 d).cells.view) → IsLegal store.id.cells.limits (seen_by (first_lane store lanes).view)
first_legal store [] d some own legal = absurd (omega (arith, some))
first_legal store (lane ∷ others) d some own legal = subst (λ (id : CellsId). IsLegal id.limits (seen_by lane.cells.view)) (own 0 lane (omega arith)).cells legal

module _ {V A : Type 0} (is_closeable : V → Bool) (gives : A → ℕ → V → Answer → A → Type 0) (store : StoreView) (closer : CloserView) where
  module _ (first : A) (closed : Closed) (after : List (StoreLane V)) (last : A) (legal : IsLegal store.id.cells.limits (seen_by (first_lane store after).view)) where
    refused_before : (before : List (StoreLane V)) (why : CloseFault) (between : List (StoreLane V)) → All (IsLaneOf store.id) before → IsRefused is_closeable gives store closer first before why between
        → Closes is_closeable gives store closer between first (Ok closed) after last → Closes is_closeable gives store closer before first (Ok closed) after last
    refused_before before why between own_before refused close = record {
      stops = tt;
      sealed = close.sealed;
      own_events = makes_both store closer.context (first_lane store before) (first_lane store between) (first_lane store after)
          (first_own store between refused.own_lanes ∙ sym (first_own store before own_before))
          (subst (λ (id : CellsId). IsLegal id.limits (seen_by (first_lane store after).view)) (sym (first_own store between refused.own_lanes)) legal) refused.own_events close.own_events;
      closes = close.closes;
      unjoined = tt;
      handed_back = tt;
      not_called = tt;
      lanes = only_first_on before between after refused.lanes close.lanes;
      own_lanes = close.own_lanes;
      kept = keeps_on before between after refused.kept close.kept;
    }

    refused_so_often : (before : List (StoreLane V)) (refusals : List CloseFault) (asked : List (StoreLane V)) → All (IsLaneOf store.id) before → FoldsTo (IsRefused is_closeable gives store closer first) before refusals asked
        → Closes is_closeable gives store closer asked first (Ok closed) after last → Closes is_closeable gives store closer before first (Ok closed) after last
    refused_so_often before [] asked own_before same close = subst (λ lanes. Closes is_closeable gives store closer lanes first (Ok closed) after last) (sym same) close
    refused_so_often before (why ∷ refusals) asked own_before refused close =
        refused_before before why refused.0 own_before refused.1 (refused_so_often refused.0 refusals asked refused.1.own_lanes refused.2 close)

  -- closes that were refused, and then one that is not, are one
  pub asked_again : (before : List (StoreLane V)) (first : A) (closed : Closed) (after : List (StoreLane V)) (last : A) → IsLegal store.id.cells.limits (seen_by (first_lane store after).view) → All (IsLaneOf store.id) before
      → ClosesAtLast is_closeable gives store closer before first closed after last → Closes is_closeable gives store closer before first (Ok closed) after last
  asked_again before first closed after last legal own_before at_last = refused_so_often first closed after last legal before at_last.refusals at_last.asked own_before at_last.refused at_last.close
