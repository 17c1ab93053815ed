-- A run with all lanes of a store.
use Rattle.std.proofs.Common.{◌≡◌, ℕ, ◌+◌, ◌<◌, ◌≤◌, zero, suc, inl, inr, List, [], ◌∷◌, Contains, Some, length, map, ap, refl, sym, subst, ◌∙◌, arith}
use Rattle.std.specs.Prelude.{All, slice_get}
use base.Growing.{prefix_refl}
use Rattle.std.proofs.lemmas.Bool.{cases_lt, cases_order}
use Rattle.std.proofs.lemmas.List.Elements.{All-cons, All-head, All-nil, All-tail}
use Rattle.std.proofs.lemmas.Option.{slice_get_within}
use Rattle.ext_history.specs.Histories.{seen_by}
use Rattle.ext_history.proofs.Lanes.{own_past}
use Rattle.ext_history.proofs.Lists.{contains_cons, contains_later, contains_none}
use Rattle.ext_model.specs.declared.event.Event.{Event}
use Rattle.ext_model.specs.History.{History, lane_of, own}
use Rattle.ext_cells.specs.Lanes.{CellsId, fresh_lane, fresh_lanes}
use Rattle.ext_store.specs.Stores.{StoreLane, fresh_store_lane}
use Rattle.ext_engine.specs.Meeting.{HasSeenWithin, first_seen}
use Rattle.ext_engine.specs.Order.{AllGoOn, CallsGoOn, ChildRun, IsMadeIn, LaneGoesOn}
use Rattle.ext_engine.specs.TreeRun.{Lanes, Ran, TreeSetting}
use Rattle.ext_engine.proofs.Acts.{shorter}
use Rattle.ext_engine.proofs.Going.{tree_goes}
use Rattle.ext_one_report.specs.Alone.{AreAllLanes, HasJustItsOwn, IsSeenMeanwhile, numbers_of}
use Rattle.ext_one_report.specs.AloneLaws.{FreshLanesAreAll, WholeRunsAreAlone}
use Rattle.ext_one_report.proofs.Parts.{first_within}
use Rattle.ext_one_report.proofs.Events.{among_more, cut_at, event_at}

abbrev number_of : {V : Type 0} → StoreLane V → ℕ
number_of lane = lane.cells.view.number

module _ {V : Type 0} (h : History) where
  abbrev HasOwn : StoreLane V → Type 0
  HasOwn lane = HasJustItsOwn h lane

  -- the history has no event of a lane behind what the lane has seen
  seen_itself : (lane : StoreLane V) (place : ℕ) (event : Event ℕ) → HasOwn lane → HasSeenWithin h lane → slice_get h place ≡ Some event → event.lane ≡ lane.cells.view.number
      → place < length (seen_by lane.cells.view)
  seen_itself lane place event same within there mine =
      let n = lane.cells.view.number in
      let s = seen_by lane.cells.view in
      elim (cases_lt place (length s)) [
        | inl below ↦ below
        | inr past ↦
            let none : own n within.0 ≡ [] = own_past lane_of n s within.0 (ap (own n) within.1 ∙ same) in
            absurd (contains_none event (subst (λ (l : History). Contains l event) none (among_more n s h h within (prefix_refl h) place event there past (slice_get_within h place event there) mine)))
      ]

  made_by_one : (since : History) (xs ys : List (StoreLane V)) (place : ℕ) (event : Event ℕ) → AllGoOn xs ys → All (HasSeenWithin since) xs → All (HasSeenWithin h) ys → All HasOwn ys
      → slice_get h place ≡ Some event → length since ≤ place → Contains (map number_of xs) event.lane → IsMadeIn h place xs ys
  made_by_one since [] ys place event go begins ends owns there from by = absurd (contains_none event.lane by)
  made_by_one since (a ∷ xs) [] place event go begins ends owns there from by = absurd go
  made_by_one since (a ∷ xs) (b ∷ ys) place event go begins ends owns there from by =
      let one : LaneGoesOn a b = go.0 in
      elim (contains_cons (number_of a) (map number_of xs) event.lane by) [
        | inl is ↦
            let low = shorter (seen_by a.cells.view) since (All-head (HasSeenWithin since) a xs begins) in
            inl (record {
              event = event;
              there = there;
              own_event = sym is;
              since = omega (arith, low, from);
              until = seen_itself b place event (All-head HasOwn b ys owns) (All-head (HasSeenWithin h) b ys ends) there (sym is ∙ sym one.number);
            })
        | inr later ↦ inr (made_by_one since xs ys place event go.1 (All-tail (HasSeenWithin since) a xs begins) (All-tail (HasSeenWithin h) b ys ends) (All-tail HasOwn b ys owns) there from later)
      ]

pub whole_alone : {V A : Type 0} (t : TreeSetting V A) (moves : CallsGoOn t.call_gives) → WholeRunsAreAlone t
whole_alone t moves depth node before ran after run h all =
    let made : (place : ℕ) → IsSeenMeanwhile place before.first after.first → IsMadeIn h place before.first after.first = λ place seen.
    let long = shorter (first_seen after.first) h (first_within h after.first all.parts) in
    let until = seen.until in
    let found = event_at h place (omega (arith, long, until)) in
    made_by_one h (first_seen before.first) before.first after.first place found.0 (tree_goes t moves depth node before ran after run) all.first all.parts all.own_events found.1 seen.since (all.by_lanes place found.0 found.1) in (
      record { each = λ place seen. inl (made place seen) },
      record { run = run; within = all.parts; alone = record { each = λ place seen. inl (made place seen) } },
    )

-- where the first lane had seen nothing before, the lanes made all events of the history
pub whole_made : {V A : Type 0} (t : TreeSetting V A) (moves : CallsGoOn t.call_gives) (depth node : ℕ) (before : Lanes V) (ran : List Ran) (after : Lanes V) → ChildRun t depth node before ran after → (h : History)
    → AreAllLanes h before.first after.first → first_seen before.first ≡ [] → (place : ℕ) (event : Event ℕ) → slice_get h place ≡ Some event → IsMadeIn h place before.first after.first
whole_made t moves depth node before ran after run h all nothing place event there =
    let none : length (first_seen before.first) ≡ 0 = ap length nothing in
    made_by_one h (first_seen before.first) before.first after.first place event (tree_goes t moves depth node before ran after run) all.first all.parts all.own_events there (omega (arith, none)) (all.by_lanes place event there)

-- ---- fresh lanes

module _ (V : Type 0) (cells : CellsId) (slots fault_slots keys : List ℕ) where
  abbrev fresh : ℕ → ℕ → List (StoreLane V)
  fresh first n = map (fresh_store_lane slots fault_slots keys) (fresh_lanes cells first n)

  fresh_number : (first n lane : ℕ) → first ≤ lane → lane < first + n → Contains (map number_of (fresh first n)) lane
  fresh_number first zero lane low high = absurd (omega (arith, low, high))
  fresh_number first (suc n) lane low high = elim (cases_order first lane) [
    | inl same ↦ (0, omega arith, same)
    | inr (inl less) ↦ contains_later first (map number_of (fresh (first + 1) n)) lane (fresh_number (first + 1) n lane (omega (arith, less)) (omega (arith, high)))
    | inr (inr more) ↦ absurd (omega (arith, more, low))
  ]

  fresh_seen : (since : History) (first n : ℕ) → All (HasSeenWithin since) (fresh first n)
  fresh_seen since first zero = All-nil (HasSeenWithin since)
  fresh_seen since first (suc n) = All-cons (HasSeenWithin since) (fresh_store_lane slots fault_slots keys (fresh_lane cells first)) (fresh (first + 1) n) (since, refl) (fresh_seen since (first + 1) n)

pub fresh_all : {V : Type 0} → FreshLanesAreAll V
fresh_all {V} limits cells slots fault_slots keys h before after is legal parts own_events = record {
  first = subst (λ (l : List (StoreLane V)). All (HasSeenWithin (first_seen before)) l) (sym is) (fresh_seen V cells slots fault_slots keys (first_seen before) 0 limits.lanes);
  by_lanes = λ place event there.
      let at = cut_at h place event there in
      subst (λ (l : List (StoreLane V)). Contains (numbers_of l) event.lane) (sym is)
      (fresh_number V cells slots fault_slots keys 0 limits.lanes event.lane (omega arith) (let l = (legal.each at.0 event at.1 at.2).lane in omega (arith, l)));
  parts = parts;
  own_events = own_events;
}
