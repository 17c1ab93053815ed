-- Each claim that is made in a run of a node ends in it; and a claim that stands was the last event on its cell.
use Rattle.std.proofs.Common.{◌≡◌, ◌⊎◌, inl, inr, ℕ, if◌then◌else◌, List, [], ◌∷◌, ◌++◌, length, length-append, Option, Some, refl, ap, sym, subst, ◌∙◌, arith, append_assoc, append-nil, nat_eq}
use Rattle.std.specs.Prelude.{All, slice_get}
use Rattle.std.specs.List.{AllZip}
use mathlib.Core.List.{IsPrefix}
use Rattle.std.proofs.lemmas.List.Elements.{All-head, All-tail}
use Rattle.std.proofs.lemmas.Option.{slice_get_within}
use Rattle.ext_history.specs.Histories.{seen_by}
use Rattle.ext_history.proofs.Lists.{bools}
use Rattle.ext_model.specs.declared.event.Act.{Act}
use Rattle.ext_model.specs.declared.event.Act.TheVariants.{Keep, Put, Remove, Claim, Fill, Fail, Abandon, Seal}
use Rattle.ext_model.specs.declared.event.Event.{Event}
use Rattle.ext_model.specs.declared.slot.Slot.{Slot}
use Rattle.ext_model.specs.declared.slot.Slot.TheVariants as slot
use Rattle.ext_model.specs.State.{State}
use Rattle.ext_model.specs.Events.{is_on, place_of, slot_after}
use Rattle.ext_model.specs.History.{History, by, state_after}
use Rattle.ext_model.proofs.Words.{after-push}
use Rattle.ext_cells.specs.Lanes.{Lane}
use Rattle.ext_lifecycle.specs.declared.call.Call.{Call}
use Rattle.ext_lifecycle.specs.declared.outcome.Outcome.{Outcome}
use Rattle.ext_locks.specs.Opening.{LocksView}
use Rattle.ext_locks.specs.Sets.{HeldView}
use Rattle.ext_plan.specs.Plans.{PlanText}
use Rattle.ext_plan.specs.PlanCalls.{steps_of_call}
use Rattle.ext_closing.specs.Sealing.{MakesSeals}
use Rattle.ext_store.specs.ContextCalls.{seals_of}
use Rattle.ext_store.specs.Stores.{StoreView}
use Rattle.ext_engine.specs.Meeting.{HasSeenWithin, OnlyMeets}
use Rattle.ext_engine.specs.Order.{IsMadeIn}
use Rattle.ext_engine.specs.TreeRun.{TreeSetting}
use Rattle.ext_engine.proofs.Relates.{tree_relates}
use Rattle.ext_plan_parallel.specs.declared.steps.stored_value.StoredValue.{StoredValue}
use Rattle.ext_plan_parallel.specs.StoreCalls.{PlanLane}
use Rattle.ext_one_report.specs.Changing.{events_at}
use Rattle.ext_one_report.proofs.EndedClaims.{AreEnded, EndsClaims, ends_calls, ends_same, ends_then}
use Rattle.ext_one_report.proofs.Events.{behind_part, in_part, in_whole, one_event}
use Rattle.ext_one_report.proofs.FullRuns.{setting_in}
use Rattle.ext_one_report.proofs.LanesAlone.{is_on_place}
use Rattle.ext_one_report.proofs.MatchingWords.{RunView}
use Rattle.ext_one_report.proofs.OnCells.{at-append, passes_not, same_slot}
use Rattle.ext_one_report.proofs.Sees.{at_place}
use Rattle.ext_one_report.proofs.SharedEventsWords.{ClaimIsLast, ClaimsEnd, IsEndedIn, OfSharing}
use Rattle.ext_one_report.proofs.SharedNodesCells.{none_between}
use Rattle.ext_one_report.proofs.Steps.{steps_on}

-- ---- runs

seals_ended : (store : StoreView) (context : ℕ) (keys : List ℕ) → AreEnded (seals_of store context keys)
seals_ended store context [] = tt
seals_ended store context (key ∷ keys) = (tt, seals_ended store context keys)

-- each lane that makes calls, meets others and seals has ended its claims
module _ (plan : PlanText) (run : RunView) (locks : LocksView) where
  abbrev t : TreeSetting StoredValue ℕ
  t = setting_in plan run locks

  abbrev Ends : PlanLane → PlanLane → Type 0
  Ends a b = EndsClaims a.cells.view b.cells.view

  call_ends : (node : ℕ) (call : Call) (held : Option HeldView) (a : PlanLane) (outcome : Outcome) (b : PlanLane) → t.call_gives node call held a outcome b → Ends a b
  call_ends node call held a outcome b gives =
      let makes = gives.fully.made in
      (steps_on run.store plan.keys run.numbering (λ cell. Unit {0}) makes.path (steps_of_call plan call) a outcome b makes.steps gives.after_in.keys (λ step there cell is. tt)).ends

  met_ends : (a b : PlanLane) → OnlyMeets run.store a b → Ends a b
  met_ends a b met = ends_calls run.store.id.cells.limits a.cells.view b.cells.view [] met.calls tt

  sealed_ends : (context : ℕ) (a : PlanLane) (cells : Lane) → MakesSeals run.store context a.cells cells → Ends a (record { cells = cells; known = a.known; faults = a.faults; keys = a.keys })
  sealed_ends context a cells made = ends_calls a.cells.cells.limits a.cells.view cells.view (seals_of run.store context made.sealed) made.calls (seals_ended run.store context made.sealed)

  ended_in : (h : History) (xs ys : List PlanLane) → AllZip Ends xs ys → All (HasSeenWithin h) ys → (place lane cell : ℕ) → slice_get h place ≡ Some (by lane (Claim cell)) → IsMadeIn h place xs ys → IsEndedIn h place lane cell xs ys
  ended_in h [] ys ends within place lane cell there made = absurd made
  ended_in h (a ∷ xs) [] ends within place lane cell there made = absurd made
  ended_in h (a ∷ xs) (b ∷ ys) ends within place lane cell there (inl one) =
      let n = a.cells.view.number in
      let s = seen_by b.cells.view in
      let on = All-head (HasSeenWithin h) b ys within in
      let same = one_event h place one.event (by lane (Claim cell)) one.there there in
      let lane_is : lane ≡ n = ap (λ (e : Event ℕ). e.lane) (sym same) ∙ one.own_event in
      let claim : Event ℕ = by n (Claim cell) in
      let in_h : slice_get (s ++ on.0) place ≡ Some claim =
      subst (λ (l : History). slice_get l place ≡ Some claim) (sym on.1) (subst (λ k. slice_get h place ≡ Some (by k (Claim cell))) lane_is there) in
      let it = ends.0.each place cell (in_part s on.0 place claim one.until in_h) one.since in
      let later_there : slice_get h it.later ≡ Some it.event = subst (λ (l : History). slice_get l it.later ≡ Some it.event) on.1 (in_whole s on.0 it.later it.event it.there) in
      let since = one.since in
      let behind = it.behind in
      record {
        later = it.later;
        behind = it.behind;
        event = it.event;
        there = later_there;
        own = it.own_event ∙ sym lane_is;
        on = it.on;
        made = inl (record { event = it.event; there = later_there; own_event = it.own_event; since = omega (arith, since, behind); until = slice_get_within s it.later it.event it.there });
      }
  ended_in h (a ∷ xs) (b ∷ ys) ends within place lane cell there (inr more) =
      let it = ended_in h xs ys ends.1 (All-tail (HasSeenWithin h) b ys within) place lane cell there more in
      record { later = it.later; behind = it.behind; event = it.event; there = it.there; own = it.own; on = it.on; made = inr it.made }

pub claims_end : OfSharing ClaimsEnd
claims_end plan run locks h touched changes changed shares depth node before ran after basis runs within place lane cell there made =
    let R : PlanLane → PlanLane → Type 0 = λ a b. EndsClaims a.cells.view b.cells.view in
    let all = tree_relates (setting_in plan run locks) R (λ a. ends_same a.cells.view) (λ a b c one two. ends_then a.cells.view b.cells.view c.cells.view one two) (call_ends plan run locks) (met_ends plan run locks)
    (sealed_ends plan run locks) depth node before ran after runs in
    ended_in plan run locks h before.first after.first all within place lane cell there made

-- ---- the last event on a cell

-- the last of these events that is on the cell
record IsLastAt (cell : ℕ) (more : History) : Type 0 where
  before : History
  event : Event ℕ
  later : History
  is : more ≡ before ++ event ∷ later
  none : events_at cell later ≡ []
  on : place_of event.act ≡ Some cell

last_at : (cell : ℕ) (more : History) → (events_at cell more ≡ []) ⊎ IsLastAt cell more
last_at cell [] = inl refl
last_at cell (e ∷ more) = elim (last_at cell more) [
  | inr one ↦ inr (record { before = e ∷ one.before; event = one.event; later = one.later; is = ap (λ (l : History). e ∷ l) one.is; none = one.none; on = one.on })
  | inl none ↦ elim (bools (is_on nat_eq cell e.act)) [
    | inl on ↦ inr (record { before = []; event = e; later = more; is = refl; none = none; on = at_place cell (place_of e.act) on })
    | inr off ↦ inl (passes_not (λ (x : Event ℕ). is_on nat_eq cell x.act) e more off ∙ none)
  ]
]

-- only a claim leaves a claim
claim_left : (cell lane who : ℕ) (act : Act ℕ) (x : Option Slot) → place_of act ≡ Some cell → slot_after who act x ≡ Some (slot.Claim lane) → by who act ≡ by lane (Claim cell)
claim_left cell lane who (Keep number) x on is = absurd (cc on)
claim_left cell lane who (Put at number) x on is = absurd (cc is)
claim_left cell lane who (Remove at) x on is = absurd (cc is)
claim_left cell lane who (Claim at) x on is =
    let here : at ≡ cell = cc on in
    let mine : who ≡ lane = cc is in
    ap (λ n. by n (Claim at)) mine ∙ ap (λ c. by lane (Claim c)) here
claim_left cell lane who (Fill at number) x on is = absurd (cc is)
claim_left cell lane who (Fail at number) x on is = absurd (cc is)
claim_left cell lane who (Abandon at) x on is = absurd (cc is)
claim_left cell lane who (Seal at) x on is = absurd (cc is)

pub claim_is_last : ClaimIsLast
claim_is_last h g j cell lane goes within free stands = elim (last_at cell goes.0) [
  | inl none ↦
      let same : events_at cell j ≡ events_at cell g = ap (events_at cell) (sym goes.1) ∙ (at-append g goes.0 cell ∙ (ap (λ l. events_at cell g ++ l) none ∙ append-nil (events_at cell g))) in
      absurd (free (sym (same_slot j g cell same) ∙ stands))
  | inr one ↦
      let e = one.event in
      let up_to : History = g ++ one.before in
      let past : History = up_to ++ e ∷ [] in
      let j_is : up_to ++ e ∷ one.later ≡ j = append_assoc g one.before (e ∷ one.later) ∙ (ap (λ l. g ++ l) (sym one.is) ∙ goes.1) in
      let on : IsPrefix past j = (one.later, append_assoc up_to (e ∷ []) one.later ∙ j_is) in
      let quiet : events_at cell j ≡ events_at cell past =
      ap (events_at cell) (sym on.1) ∙ (at-append past one.later cell ∙ (ap (λ l. events_at cell past ++ l) one.none ∙ append-nil (events_at cell past))) in
      let old : Option Slot = (state_after up_to).slots cell in
      let pushed : (state_after past).slots cell ≡ slot_after e.lane e.act old =
      ap (λ (s : State ℕ). s.slots cell) (after-push up_to e) ∙ ap (λ b. if b then slot_after e.lane e.act old else old) (is_on_place cell e.act one.on) in
      let claims : e ≡ by lane (Claim cell) = claim_left cell lane e.lane e.act old one.on (sym pushed ∙ (sym (same_slot j past cell quiet) ∙ stands)) in
      let place : ℕ = length up_to in
      let in_j : slice_get j place ≡ Some e = subst (λ (l : History). slice_get l place ≡ Some e) j_is (behind_part up_to (e ∷ one.later) 0 place (omega arith)) in
      let in_h : slice_get h place ≡ Some e = subst (λ (l : History). slice_get l place ≡ Some e) within.1 (in_whole j within.0 place e in_j) in
      let low = length-append g one.before in
      let long = length-append up_to (e ∷ []) in
      record {
        place = place;
        seen = record { since = omega (arith, low); until = slice_get_within j place e in_j };
        there = in_h ∙ ap Some claims;
        last = λ later event behind until there is. none_between h past j on within cell quiet later event (omega (arith, long, behind)) until there is;
      }
]
