-- The acts of each call of a store are on the cell of its context and key, or on none, and each claim among them ends.
use Rattle.std.proofs.Common.{◌≡◌, ◌⊎◌, inl, inr, ℕ, zero, suc, List, [], ◌∷◌, ◌++◌, Contains, Option, Some, None, refl, ap, sym, subst, ◌∙◌, arith, append_assoc, append-nil}
use Rattle.std.specs.Prelude.{All, IfSome, Result, Ok, Err}
use mathlib.Core.List.{IsPrefix, append_cancel_left}
use base.Growing.{prefix_refl, prefix_trans}
use Rattle.std.proofs.lemmas.Bool.{cases_order}
use Rattle.std.proofs.lemmas.List.{map-append}
use Rattle.std.proofs.lemmas.List.Elements.{All-append, All-cons, All-contains, All-nil}
use Rattle.ext_history.specs.Histories as histories
use Rattle.ext_history.specs.Histories.{seen_by}
use Rattle.ext_history.proofs.Composed.{same_number, seen_goes_on}
use Rattle.ext_history.proofs.Lanes.{own_append}
use Rattle.ext_history.proofs.Lists.{contains_here}
use Rattle.ext_model.specs.declared.event.Act.{Act}
use Rattle.ext_model.specs.declared.event.Act.TheVariants.{Abandon, Claim, Fail, Fill, Keep, Put, Remove}
use Rattle.ext_model.specs.declared.look.Look.{Look}
use Rattle.ext_model.specs.declared.look.Look.TheVariants as look
use Rattle.ext_model.specs.Events.{place_of}
use Rattle.ext_model.specs.CallActs.{Calls, LaneView, events_by}
use Rattle.ext_model.specs.History.{History, Limits, by, lane_of, own}
use Rattle.ext_cells.specs.Lanes.{Lane}
use Rattle.ext_store_core.specs.declared.fault.Refusal.{Refusal}
use Rattle.ext_store_core.specs.declared.fault.Refusal.TheVariants as refusal
use Rattle.ext_store_core.specs.ContextCalls as shared
use Rattle.ext_store_core.specs.Claiming as claiming
use Rattle.ext_store_core.specs.Waiting.{VainAttempts}
use Rattle.ext_store.specs.declared.fault.KeepFault.{KeepFault}
use Rattle.ext_store.specs.declared.fault.KeepFault.TheVariants as keep_fault
use Rattle.ext_store.specs.declared.computed.Compute.{Compute}
use Rattle.ext_store.specs.declared.computed.Compute.TheVariants as computes
use Rattle.ext_store.specs.Stores.{StoreLane, StoreView, cell_in, context_cells}
use Rattle.ext_store.specs.LaneCalls.{Gets, KeepFails, KeepsAs, Puts, Removes}
use Rattle.ext_store.specs.Computing.{Computes, ComputesFrom, IsRefused, IsUnkept, Meets, given_up_events}
use Rattle.ext_store.specs.Waiting.{ComputesAfterWaits}
use Rattle.ext_one_report.specs.Changing.{MakesOnly}
use Rattle.ext_one_report.proofs.Changing.{on_cells}
use Rattle.ext_one_report.proofs.EndedClaims.{AreEnded, EndsClaims, ended_at_once, ended_both, ended_kept, ends_acts}
use Rattle.ext_one_report.proofs.Events.{among_more, one_of_acts}

-- ---- the events of a lane, whatever its calls were

abbrev IsOn : List ℕ → Act ℕ → Type 0
IsOn cells act = IfSome (place_of act) (λ cell. Contains cells cell)

-- the lane made some events, on these cells or on none, and no others; and it ended its claims
pub record Only (cells : List ℕ) (a b : LaneView) : Type 0 where
  pub acts : List (Act ℕ)
  pub number : b.number ≡ a.number
  pub begins : IsPrefix (seen_by a) (seen_by b)
  pub own_is : own a.number (seen_by b) ≡ own a.number (seen_by a) ++ events_by a.number acts
  pub on : All (IsOn cells) acts
  pub ended : AreEnded acts

pub only_calls : (cells : List ℕ) (a b : LaneView) (acts : List (Act ℕ)) → histories.Calls lane_of a b (events_by a.number acts) → All (IsOn cells) acts → AreEnded acts → Only cells a b
only_calls cells a b acts calls on ended = record { acts = acts; number = same_number calls; begins = seen_goes_on calls; own_is = calls.own_events; on = on; ended = ended }

pub only_same : (cells : List ℕ) (a : LaneView) → Only cells a a
only_same cells a = record { acts = []; number = refl; begins = prefix_refl (seen_by a); own_is = sym (append-nil (own a.number (seen_by a))); on = All-nil (IsOn cells); ended = tt }

pub only_then : (cells : List ℕ) (a b c : LaneView) → Only cells a b → Only cells b c → Only cells a c
only_then cells a b c one two =
    let n = a.number in
    let later : own n (seen_by c) ≡ own n (seen_by b) ++ events_by n two.acts = subst (λ k. own k (seen_by c) ≡ own k (seen_by b) ++ events_by k two.acts) one.number two.own_is in
    record {
      acts = one.acts ++ two.acts;
      number = two.number ∙ one.number;
      begins = prefix_trans (seen_by a) (seen_by b) (seen_by c) one.begins two.begins;
      own_is = later ∙ (ap (λ l. l ++ events_by n two.acts) one.own_is ∙ (append_assoc (own n (seen_by a)) (events_by n one.acts) (events_by n two.acts) ∙ ap (λ l. own n (seen_by a) ++ l) (sym (map-append (by n) one.acts two.acts))));
      on = All-append (IsOn cells) one.acts two.acts one.on two.on;
      ended = ended_both one.acts two.acts one.ended two.ended;
    }

-- so each claim that it made has ended
pub only_ends : (cells : List ℕ) (a b : LaneView) → Only cells a b → EndsClaims a b
only_ends cells a b only = ends_acts a b only.acts only.number only.begins only.own_is only.ended

pub only_makes : {V : Type 0} (cells : List ℕ) (a b : StoreLane V) → Only cells a.cells.view b.cells.view → MakesOnly cells a b
only_makes cells a b only = record {
  each = λ place cell made is.
      let n = a.cells.view.number in
      let s = seen_by a.cells.view in
      let u = seen_by b.cells.view in
      let more = only.begins.0 in
      let its : own n more ≡ events_by n only.acts = append_cancel_left (own n s) (own n more) (events_by n only.acts) (sym (own_append lane_of n s more) ∙ (ap (own n) only.begins.1 ∙ only.own_is)) in
      let among = one_of_acts n only.acts made.event (subst (λ (l : History). Contains l made.event) its (among_more n s u u only.begins (prefix_refl u) place made.event made.there made.since made.until made.own_event)) in
      on_cells cells (place_of made.event.act) cell (All-contains (IsOn cells) only.acts made.event.act only.on among) is;
}

-- ---- keeps and look-ups

pub keeps_only : {V : Type 0} (value : V) (a b : StoreLane V) (number : ℕ) → KeepsAs value a b number → Only [] a.cells.view b.cells.view
keeps_only value a b number keeps = only_calls [] a.cells.view b.cells.view (Keep number ∷ []) keeps.drawn.calls (All-cons (IsOn []) (Keep number) [] tt (All-nil (IsOn []))) (tt, tt)

pub keep_fails : (store : StoreView) (a b : Lane) (why : KeepFault) → KeepFails store a b why → Only [] a.view b.view
unfolding KeepFails
keep_fails store a b keep_fault.Memory fails = subst (λ (l : Lane). Only [] a.view l.view) (sym fails) (only_same [] a.view)
keep_fails store a b keep_fault.NumbersFull fails = only_calls [] a.view b.view [] fails.calls (All-nil (IsOn [])) tt
keep_fails store a b keep_fault.Contended fails = only_calls [] a.view b.view [] fails.calls (All-nil (IsOn [])) tt
keep_fails store a b keep_fault.Unplaced fails = only_calls [] a.view b.view (Keep fails.0 ∷ []) fails.1.calls (All-cons (IsOn []) (Keep fails.0) [] tt (All-nil (IsOn []))) (tt, tt)

pub gets_only : (store : StoreView) (context key : ℕ) (a b : Lane) (result : Result Look Refusal) → Gets store context key a b result → Only [] a.view b.view
unfolding shared.Gets
gets_only store context key a b (Ok answer) gets = only_calls [] a.view b.view [] (gets.2.looked.replied (λ is. absurd (cc is))).calls (All-nil (IsOn [])) tt
gets_only store context key a b (Err (refusal.Busy at)) gets = only_calls [] a.view b.view [] (gets.2.looked.replied (λ is. absurd (cc is))).calls (All-nil (IsOn [])) tt
gets_only store context key a b (Err (refusal.Closed at)) gets = only_calls [] a.view b.view [] (gets.2.looked.replied (λ is. absurd (cc is))).calls (All-nil (IsOn [])) tt
gets_only store context key a b (Err refusal.Contended) gets = only_calls [] a.view b.view [] (gets.2.looked.overtaken refl).calls (All-nil (IsOn [])) tt
gets_only store context key a b (Err refusal.Exhausted) gets = only_calls [] a.view b.view [] (gets.2.looked.replied (λ is. absurd (cc is))).calls (All-nil (IsOn [])) tt
gets_only store context key a b (Err refusal.DirectoryFull) gets = only_calls [] a.view b.view [] (gets.2.looked.replied (λ is. absurd (cc is))).calls (All-nil (IsOn [])) tt
gets_only store context key a b (Err refusal.Unplaced) gets = only_calls [] a.view b.view [] (gets.2.looked.replied (λ is. absurd (cc is))).calls (All-nil (IsOn [])) tt
gets_only store context key a b (Err refusal.Memory) gets = only_calls [] a.view b.view [] (gets.2.looked.replied (λ is. absurd (cc is))).calls (All-nil (IsOn [])) tt

-- ---- changes

pub removes_only : (store : StoreView) (context key : ℕ) (a b : Lane) (result : Result (Option ℕ) Refusal) → Removes store context key a b result → Only (cell_in store key context ∷ []) a.view b.view
unfolding shared.Removes
removes_only store context key a b (Ok None) r = only_calls _ a.view b.view [] (r.replied (λ is. absurd (cc is))).calls (All-nil (IsOn (cell_in store key context ∷ []))) tt
removes_only store context key a b (Ok (Some number)) r =
    let cell = cell_in store key context in
    let P = IsOn (cell ∷ []) in
    only_calls (cell ∷ []) a.view b.view (Remove cell ∷ []) (r.replied (λ is. absurd (cc is))).calls (All-cons P (Remove cell) [] (contains_here cell []) (All-nil P)) (tt, tt)
removes_only store context key a b (Err (refusal.Busy at)) r = only_calls _ a.view b.view [] (r.replied (λ is. absurd (cc is))).calls (All-nil (IsOn (cell_in store key context ∷ []))) tt
removes_only store context key a b (Err (refusal.Closed at)) r = only_calls _ a.view b.view [] (r.replied (λ is. absurd (cc is))).calls (All-nil (IsOn (cell_in store key context ∷ []))) tt
removes_only store context key a b (Err refusal.Contended) r = only_calls _ a.view b.view [] (r.overtaken refl).calls (All-nil (IsOn (cell_in store key context ∷ []))) tt
removes_only store context key a b (Err refusal.Exhausted) r = only_calls _ a.view b.view [] (r.replied (λ is. absurd (cc is))).calls (All-nil (IsOn (cell_in store key context ∷ []))) tt
removes_only store context key a b (Err refusal.DirectoryFull) r = only_calls _ a.view b.view [] (r.replied (λ is. absurd (cc is))).calls (All-nil (IsOn (cell_in store key context ∷ []))) tt
removes_only store context key a b (Err refusal.Unplaced) r = only_calls _ a.view b.view [] (r.replied (λ is. absurd (cc is))).calls (All-nil (IsOn (cell_in store key context ∷ []))) tt
removes_only store context key a b (Err refusal.Memory) r = only_calls _ a.view b.view [] (r.replied (λ is. absurd (cc is))).calls (All-nil (IsOn (cell_in store key context ∷ []))) tt

abbrev IsOrNot : Type 0 → Type 0
IsOrNot X = X ⊎ (X → ⊥)

err_pair : (m n : ℕ) (v w : Refusal) → ◌≡◌ {A = Result (Option ℕ) (ℕ × Refusal)} (Err (m, v)) (Err (n, w)) → ◌≡◌ {A = ℕ × Refusal} (m, v) (n, w)
err_pair m n v w is = cc is

-- a refusal is that for other lanes in the way, or another one
is_contended : (why : Refusal) → IsOrNot (why ≡ refusal.Contended)
is_contended (refusal.Busy at) = inr (λ is. absurd (cc is))
is_contended (refusal.Closed at) = inr (λ is. absurd (cc is))
is_contended refusal.Contended = inl refl
is_contended refusal.Exhausted = inr (λ is. absurd (cc is))
is_contended refusal.DirectoryFull = inr (λ is. absurd (cc is))
is_contended refusal.Unplaced = inr (λ is. absurd (cc is))
is_contended refusal.Memory = inr (λ is. absurd (cc is))

same_pair : (number back : ℕ) (why : Refusal) → IsOrNot (◌≡◌ {A = Result (Option ℕ) (ℕ × Refusal)} (Err (back, why)) (Err (number, refusal.Contended)))
same_pair number back why = elim (is_contended why) [
  | inr other ↦ inr (λ is. other (ap (λ (x : ℕ × Refusal). x.1) (err_pair back number why refusal.Contended is)))
  | inl same ↦ elim (cases_order back number) [
    | inl equal ↦ inl (λ i. Err (equal i, same i))
    | inr (inl less) ↦ inr (λ is. let e = ap (λ (x : ℕ × Refusal). x.0) (err_pair back number why refusal.Contended is) in omega (arith, e, less))
    | inr (inr more) ↦ inr (λ is. let e = ap (λ (x : ℕ × Refusal). x.0) (err_pair back number why refusal.Contended is) in omega (arith, e, more))
  ]
]

pub puts_only : (store : StoreView) (context key number : ℕ) (a b : Lane) (result : Result (Option ℕ) (ℕ × Refusal)) → Puts store context key number a b result → Only (cell_in store key context ∷ []) a.view b.view
unfolding shared.Puts
puts_only store context key number a b (Ok stood) p =
    let cell = cell_in store key context in
    let P = IsOn (cell ∷ []) in
    only_calls (cell ∷ []) a.view b.view (Put cell number ∷ []) (p.replied (λ is. absurd (cc is))).calls (All-cons P (Put cell number) [] (contains_here cell []) (All-nil P)) (tt, tt)
puts_only store context key number a b (Err refused) p = elim (same_pair number refused.0 refused.1) [
  | inl same ↦ only_calls _ a.view b.view [] (p.overtaken same).calls (All-nil (IsOn (cell_in store key context ∷ []))) tt
  | inr other ↦ only_calls _ a.view b.view [] (p.replied other).calls (All-nil (IsOn (cell_in store key context ∷ []))) tt
]

-- ---- computes

module _ (limits : Limits) (store : StoreView) (context : ℕ) (ancestors : List ℕ) (key : ℕ) where
  abbrev the_cell : ℕ
  the_cell = cell_in store key context

  abbrev Here : Act ℕ → Type 0
  Here act = IsOn (the_cell ∷ []) act

  abbrev OnlyHere : LaneView → LaneView → Type 0
  OnlyHere a b = Only (the_cell ∷ []) a b

  here : Contains (the_cell ∷ []) the_cell
  here = contains_here the_cell []

  two : (second : Act ℕ) → Here second → All Here (Claim the_cell ∷ second ∷ [])
  two second on = All-cons Here (Claim the_cell) (second ∷ []) here (All-cons Here second [] on (All-nil Here))

  three : (number : ℕ) (third : Act ℕ) → Here third → All Here (Claim the_cell ∷ Keep number ∷ third ∷ [])
  three number third on = All-cons Here (Claim the_cell) (Keep number ∷ third ∷ []) here (All-cons Here (Keep number) (third ∷ []) tt (All-cons Here third [] on (All-nil Here)))

  by_acts : (a b : LaneView) (acts : List (Act ℕ)) → Calls limits a b acts → All Here acts → AreEnded acts → OnlyHere a b
  by_acts a b acts calls on ended = only_calls (the_cell ∷ []) a b acts calls on ended

  given_up : (a b : LaneView) → Calls limits a b (given_up_events store context key) → OnlyHere a b
  given_up a b calls = by_acts a b (Claim the_cell ∷ Abandon the_cell ∷ []) calls (two (Abandon the_cell) here) (ended_at_once the_cell (Abandon the_cell) refl tt)

  meets_only : (a b : LaneView) (met : Look) → Meets limits store context ancestors key a b met → OnlyHere a b
  unfolding claiming.Meets
  meets_only a b met (inl at) = by_acts a b [] at.calls (All-nil Here) tt
  meets_only a b met (inr up) = given_up a b up.0

  refused_only : (a b : LaneView) (why : Refusal) → IsRefused limits store context ancestors key a b why → OnlyHere a b
  unfolding claiming.IsRefused
  refused_only a b (refusal.Busy at) r = meets_only a b (look.Busy at) r
  refused_only a b (refusal.Closed at) r = meets_only a b (look.Closed at) r
  refused_only a b refusal.Contended (inl overtaken) = by_acts a b [] overtaken.calls (All-nil Here) tt
  refused_only a b refusal.Contended (inr up) = given_up a b up.0
  refused_only a b refusal.DirectoryFull r = absurd r
  refused_only a b refusal.Unplaced r = absurd r
  refused_only a b refusal.Memory r = absurd r
  refused_only a b refusal.Exhausted r = by_acts a b [] r.0.calls (All-nil Here) tt

  unkept_only : (a b : LaneView) (why : KeepFault) → IsUnkept limits store.tries (Claim the_cell ∷ []) the_cell a b why → OnlyHere a b
  unfolding IsUnkept
  unkept_only a b keep_fault.Memory r = given_up a b r
  unkept_only a b keep_fault.NumbersFull r = given_up a b r.0
  unkept_only a b keep_fault.Contended r = given_up a b r.0
  unkept_only a b keep_fault.Unplaced r = by_acts a b (Claim the_cell ∷ Keep r.0 ∷ Abandon the_cell ∷ []) r.1 (three r.0 (Abandon the_cell) here) (ended_kept the_cell r.0 (Abandon the_cell) refl tt)

  computes_from : {V : Type 0} (a b : LaneView) (result : Compute V (Unit {0})) → ComputesFrom limits store context ancestors key a b result → OnlyHere a b
  unfolding ComputesFrom
  computes_from a b (computes.Computed number) r = by_acts a b (Claim the_cell ∷ Keep number ∷ Fill the_cell number ∷ []) r.1.calls (three number (Fill the_cell number) here) (ended_kept the_cell number (Fill the_cell number) refl tt)
  computes_from a b (computes.Found at number unused) r = meets_only a b (look.Found at number) r
  computes_from a b (computes.Failed why) r = given_up a b r.2
  computes_from a b (computes.FaultKept number) r = by_acts a b (Claim the_cell ∷ Keep number ∷ Fail the_cell number ∷ []) r.2.calls (three number (Fail the_cell number) here) (ended_kept the_cell number (Fail the_cell number) refl tt)
  computes_from a b (computes.FaultUnkept why cause) r = unkept_only a b cause r.2
  computes_from a b (computes.FaultStands at number unused) r = meets_only a b (look.Fault at number) r
  computes_from a b (computes.Unkept value cause) r = unkept_only a b cause r.1
  computes_from a b (computes.Refused why unused) r = refused_only a b why r

vain_only : (store : StoreView) (context key attempts : ℕ) (a b : LaneView) → VainAttempts (claiming.ClaimsMissing (context_cells store) context key) attempts a b → Only (cell_in store key context ∷ []) a b
vain_only store context key zero a b same = subst (λ (l : LaneView). Only (cell_in store key context ∷ []) a l) (sym same) (only_same (cell_in store key context ∷ []) a)
vain_only store context key (suc attempts) a b more =
    only_then (cell_in store key context ∷ []) a more.0 b (vain_only store context key attempts a more.0 more.1)
    (refused_only store.id.cells.limits store context more.2.refused.0 key more.0 b more.2.why more.2.refused.2)

pub waits_only : {V : Type 0} (store : StoreView) (context key : ℕ) (a b : Lane) (result : Compute V (Unit {0})) → ComputesAfterWaits store context key a b result → Only (cell_in store key context ∷ []) a.view b.view
unfolding ComputesAfterWaits Computes
waits_only store context key a b result waits =
    let last = waits.then_is in
    only_then (cell_in store key context ∷ []) a.view waits.between b.view (vain_only store context key waits.attempts a.view waits.between waits.in_vain)
    (computes_from a.cells.limits store context last.0 key waits.between b.view result last.2)
