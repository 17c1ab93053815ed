-- A lane that took in a note of another has seen, after its next step, what the other had seen.
use Rattle.std.proofs.Common.{◌≡◌, ℕ, [], ◌∷◌, length, sym, ap, ◌∙◌, subst}
use mathlib.Core.List.{IsPrefix}
use Rattle.atomic_table.specs.Seated.{TableId}
use Rattle.ext_model.specs.History.{History}
use Rattle.ext_history.specs.Histories.{seen, call_fronts}
use Rattle.ext_model.specs.CallActs.{LaneView, Calls}
use Rattle.ext_history.proofs.Fronts.{last_append, moved_once}
use Rattle.ext_history.proofs.Single.{step_calls}
use Rattle.ext_cells.specs.declared.view.View.{View}
use Rattle.ext_cells.specs.Lanes.{Lane}
use Rattle.ext_cells.specs.InnerViews.{limits_of, shown, note, noted}
use Rattle.ext_cells.specs.InnerTableSteps.{FoundBy}
use Rattle.ext_cells.proofs.Lanes.{IsLaneView, lane_of, stays_lane}

-- v is the lane's view, n the note, u the view with the note, and w the view after the step
module _ (v n u w : View) (index word : ℕ) (h : History) (number : ℕ) (inv : IsLaneView v number) (with_note : u ≡ noted v n) (found : FoundBy u index word h) (after : w ≡ shown u h) where
  found' : FoundBy (noted v n) index word h
  found' = subst (λ z. FoundBy z index word h) with_note found

  after' : w ≡ shown v h
  after' = after ∙ ap (λ z. shown z h) with_note

  pub met_stays : IsLaneView w number
  met_stays = stays_lane v w h number inv found'.legal found'.begins after'

  met_moved : (table : TableId) → lane_of table w number ≡ lane_of table (shown v h) number
  met_moved table = ap (λ z. lane_of table z number) after'

  pub met_call : (table table' : TableId) (lane : Lane) → lane_of table v number ≡ lane → Calls lane.cells.limits lane.view (lane_of table' w number).view []
  met_call table table' lane is =
      let calls = (step_calls {lane = record { number = number; fronts = v.fronts }} {h = h} (record { legal = found'.legal; begins = found'.begins; own_same = found'.own_is number inv.0 })).0 in
      subst (λ (l : Lane). Calls l.cells.limits l.view (lane_of table' w number).view []) is
      (subst (λ (x : LaneView). Calls (limits_of v.limits) (record { number = number; fronts = v.fronts }) x []) (sym (ap (λ (l : Lane). l.view) (met_moved table'))) calls)

  -- the lane made one step
  pub met_step : (table table' : TableId) (lane : Lane) → lane_of table v number ≡ lane → length (call_fronts lane.view (lane_of table' w number).view) ≡ 1
  met_step table table' lane is =
      let at : LaneView = record { number = number; fronts = v.fronts } in
      subst (λ (l : Lane). length (call_fronts l.view (lane_of table' w number).view) ≡ 1) is
      (subst (λ (x : LaneView). length (call_fronts at x) ≡ 1) (sym (ap (λ (l : Lane). l.view) (met_moved table'))) (moved_once at h))

  pub met_cells : (table table' : TableId) (lane : Lane) → lane_of table v number ≡ lane → table' ≡ table → (lane_of table' w number).cells ≡ lane.cells
  met_cells table table' lane is same = ap (λ (l : Lane). l.cells) (met_moved table') ∙ (λ i. record { table = same i; limits = limits_of v.limits }) ∙ ap (λ (l : Lane). l.cells) is

  -- what the note told is a prefix of what the lane has seen now
  pub met_told : (first : View) → n ≡ note first → IsPrefix (seen first.fronts) (seen w.fronts)
  met_told first is =
      let told : (noted v n).told ≡ seen first.fronts = ap (λ (x : View). x.told) is in
      let last : seen w.fronts ≡ h = ap (λ (x : View). seen x.fronts) after' ∙ last_append [] v.fronts (h ∷ []) in
      subst (λ (z : History × History). IsPrefix z.0 z.1) (λ i. (told i, sym last i)) found'.told
