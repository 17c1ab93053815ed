-- Computes whose factory fails, on a lane that is alone on the places that they touch, end as those of a plain run.
use Rattle.std.proofs.Common.{◌≡◌, ℕ, ◌<◌, inl, inr, true, false, cond, List, [], ◌∷◌, drop, fold, refl, ap, sym, subst, ◌∙◌, eq-eqb, Option, None, Some}
use Rattle.std.specs.declared.alloc.Global.{Global}
use Rattle.ext_model.specs.declared.look.Fault.TheVariants as faults
use Rattle.std.specs.Prelude.{All, Err, String, string_bytes, codes}
use Rattle.std.proofs.lemmas.List.Elements.{All-head}
use mathlib.Core.List.{IsPrefix}
use base.Growing.{prefix_refl}
use Rattle.ext_history.specs.Histories.{seen_by}
use Rattle.ext_history.proofs.Composed.{seen_goes_on}
use Rattle.ext_model.specs.declared.event.Act.TheVariants.{Keep, Claim, Fail}
use Rattle.ext_model.specs.declared.event.Event.{Event}
use Rattle.ext_model.specs.declared.look.Look.{Look}
use Rattle.ext_model.specs.declared.look.Look.TheVariants as look
use Rattle.ext_model.specs.declared.slot.Slot.TheVariants as slot
use Rattle.ext_model.specs.State.{State}
use Rattle.ext_model.specs.Plain.{Place, under}
use Rattle.ext_model.specs.History.{History, Limits, by, state_after}
use Rattle.ext_model.specs.CallActs.{LaneView, Calls}
use Rattle.ext_tree.specs.Keys.{KeyValue, IsKeyNumber}
use Rattle.ext_tree.specs.Trees.{IsTree, IsPathOf}
use Rattle.ext_tree.proofs.KeyPlacing.{number_stays}
use Rattle.ext_tree.proofs.Walks.{one_path}
use Rattle.ext_values.specs.Known.{known_at}
use Rattle.ext_lifecycle.specs.declared.outcome.Outcome.{Outcome}
use Rattle.ext_lifecycle.specs.Endings.{successful}
use Rattle.ext_plan.specs.declared.reason.Reason.TheVariants as reasons
use Rattle.ext_plan.specs.declared.word.Word.TheVariants as words
use Rattle.ext_plan.specs.Plans.{KeyText, StepKeyText}
use Rattle.ext_plan.specs.StepCalls.{label_of, start_of}
use Rattle.ext_plan.specs.StoreKeys.{is_there, key_of_step, number_of_key}
use Rattle.ext_plan.specs.Values.{ValueText}
use Rattle.ext_plan.specs.Verdicts.{SeenText, refused, none_verdict, fail_verdict}
use Rattle.ext_store_core.specs.Claiming as claiming
use Rattle.ext_store_core.specs.Waiting.{VainAttempts}
use Rattle.ext_store_core.specs.declared.fault.Refusal.{Refusal}
use Rattle.ext_store_core.specs.declared.fault.Refusal.TheVariants as refusal
use Rattle.ext_store.specs.declared.fault.KeepFault.{KeepFault}
use Rattle.ext_store.specs.declared.fault.KeepFault.TheVariants as keep_fault
use Rattle.ext_store.specs.declared.computed.Compute.{Compute}
use Rattle.ext_store.specs.declared.computed.Compute.TheVariants as computes
use Rattle.ext_store.specs.Stores.{context_cells}
use Rattle.ext_store.specs.Computing.{ComputesFrom, Fails, Uses, Computes, IsRefused, Meets, given_up_events}
use Rattle.ext_store.specs.Waiting.{ComputesAfterWaits}
use Rattle.ext_plan_plain.specs.ValueStates.{ValueState, enough, value_of}
use Rattle.ext_plan_plain.specs.StepRuns.{StepEnd, ended, computefail_looked, computefail_numbered, factory_failed, found_along}
use Rattle.ext_plan_parallel.specs.declared.steps.stored_value.StoredValue.{StoredValue}
use Rattle.ext_plan_parallel.specs.Saying.{Ends, EndsRefused, EndsUnkept}
use Rattle.ext_plan_parallel.specs.StoreCalls.{PlanLane, ComputesFault, EndsComputeFail, Shows}
use Rattle.ext_one_report.specs.Changing.{events_at}
use Rattle.ext_one_report.proofs.StandingsWords.{absent, found, met, closed, value_shown, fault_shown, shown_of, ShowTheSame, fault, standing_of, fault_stands}
use Rattle.ext_one_report.proofs.MatchingWords.{RunView, IsRunView, HasNumberIn, Places, Matches, IsNumbered, cell_of, plain_meaning, text_of}
use Rattle.ext_one_report.proofs.StepsWords.{IsAlone, IsLaneIn, AreCompared, LooksWithin, EndAlike, WordEndsAlike, words_of}
use Rattle.ext_one_report.specs.FullRuns.{FindsAll}
use Rattle.ext_one_report.proofs.OnCells.{then_there}
use Rattle.ext_one_report.proofs.NodesAlone.{alone_later, matches_to}
use Rattle.ext_one_report.proofs.Numbered.{IsNamed, named}
use Rattle.ext_one_report.proofs.OwnCell.{but, matches_join, OnlyAt, others_after, slot_by_own}
use Rattle.ext_one_report.proofs.Computes.{InVain, fault_form, fault_not_absent, given_up_leaves, meets_alike, plain_absent, vains, value_form, value_not_absent}
use Rattle.ext_one_report.proofs.FailClaimed.{fault_kept, fault_not_kept, faulted, faulted_numbered, faulted_others, faulted_slot, faulted_words}
use Rattle.ext_one_report.proofs.Claimed.{absent_first, claims_first}
use Rattle.ext_one_report.proofs.StepLooks.{said, has_room, key_found, lane_shows, plain_fault, plain_value, seen_of, some_is}

-- ---- how a compute of a plain run ends, by what is shown

module _ (name label : List ℕ) (at_context at_number : ℕ) (text : List ℕ) (t : ValueState) where
  abbrev end_of : Look → StepEnd
  end_of l = computefail_looked name label (at_context, at_number) text t l

  found_or : (at : ℕ) (o : Option (List ℕ)) (c : ℕ) (w : ValueText) → fault_shown at o ≡ Some (found c w) → ⊥
  found_or at None c w is = absurd (cc is)
  found_or at (Some f) c w is = absurd (cc is)

  met_or : (at : ℕ) (o : Option ValueText) (c : ℕ) (w : List ℕ) → value_shown at o ≡ Some (met c w) → ⊥
  met_or at None c w is = absurd (cc is)
  met_or at (Some f) c w is = absurd (cc is)

  closed_value : (at : ℕ) (o : Option ValueText) (c : ℕ) → value_shown {F = List ℕ} at o ≡ Some (closed c) → ⊥
  closed_value at None c is = absurd (cc is)
  closed_value at (Some f) c is = absurd (cc is)

  closed_fault : (at : ℕ) (o : Option (List ℕ)) (c : ℕ) → fault_shown {V = ValueText} at o ≡ Some (closed c) → ⊥
  closed_fault at None c is = absurd (cc is)
  closed_fault at (Some f) c is = absurd (cc is)

  end_found : (l : Look) (c : ℕ) (w : ValueText) → shown_of (plain_meaning t.values) l ≡ Some (found c w) → end_of l ≡ record { state = t; verdict = none_verdict name label (seen_of (found c w)); computed = 0; found = 1 }
  end_found (look.Found at number) c w is = ap (λ seen. record { state = t; verdict = none_verdict name label seen; computed = 0; found = 1 }) (plain_value at (value_of t.values number) (found c w) is)
  end_found (look.Fault at number) c w is = absurd (found_or at (text_of (value_of t.values number)) c w is)
  end_found look.Absent c w is = absurd (cc is)
  end_found (look.Busy at) c w is = absurd (cc is)
  end_found (look.Closed at) c w is = absurd (cc is)

  end_met : (l : Look) (c : ℕ) (w : List ℕ) → shown_of (plain_meaning t.values) l ≡ Some (met c w) → end_of l ≡ ended (fail_verdict name label text (seen_of (met c w))) t
  end_met (look.Found at number) c w is = absurd (met_or at (value_of t.values number) c w is)
  end_met (look.Fault at number) c w is = ap (λ seen. ended (fail_verdict name label text seen) t) (plain_fault at (value_of t.values number) (met c w) is)
  end_met look.Absent c w is = absurd (cc is)
  end_met (look.Busy at) c w is = absurd (cc is)
  end_met (look.Closed at) c w is = absurd (cc is)

  end_closed : (l : Look) (c : ℕ) → shown_of (plain_meaning t.values) l ≡ Some (closed c) → end_of l ≡ ended (refused name label reasons.Closed) t
  end_closed (look.Found at number) c is = absurd (closed_value at (value_of t.values number) c is)
  end_closed (look.Fault at number) c is = absurd (closed_fault at (text_of (value_of t.values number)) c is)
  end_closed look.Absent c is = absurd (cc is)
  end_closed (look.Busy at) c is = absurd (cc is)
  end_closed (look.Closed at) c is = refl

-- ---- events of one lane on one cell

on_fail : (cell lane number : ℕ) → events_at cell (by lane (Claim cell) ∷ by lane (Keep number) ∷ by lane (Fail cell number) ∷ []) ≡ by lane (Claim cell) ∷ by lane (Fail cell number) ∷ []
on_fail cell lane number =
    let last : Event ℕ = by lane (Fail cell number) in
    let first : Event ℕ = by lane (Claim cell) in
    ap (λ b. cond b (first ∷ cond b (last ∷ []) []) (cond b (last ∷ []) [])) (eq-eqb cell cell refl)

pub only_fail : (cell lane number : ℕ) → OnlyAt cell (by lane (Claim cell) ∷ by lane (Keep number) ∷ by lane (Fail cell number) ∷ [])
only_fail cell lane number = λ other off.
    let last : Event ℕ = by lane (Fail cell number) in
    let first : Event ℕ = by lane (Claim cell) in
    ap (λ b. cond b (first ∷ cond b (last ∷ []) []) (cond b (last ∷ []) [])) off

-- ---- a compute whose factory fails with this text

module _ (run : RunView) (places : Places) (view : IsRunView run) (tree : IsTree run.store.tree) (name label : List ℕ) (context : ℕ) (ancestors : List ℕ) (key : KeyValue) (number : ℕ)
    (is_path : IsPathOf run.store.tree context (context ∷ ancestors)) (has : HasNumberIn run key number) (within : All (λ c. places c key ≡ true) (context ∷ ancestors)) (t : ValueState)
    (there : is_there t.keys key ≡ true) (left : t.store.drawn < t.numbers) (numbered : IsNumbered places t) (text : List ℕ) (a b : PlanLane) (o : Outcome) (lane : IsLaneIn run b)
    (finds : FindsAll name label o) (alone : IsAlone run places a.cells.view b.cells.view) (matches : Matches run places (seen_by a.cells.view) t) where
  abbrev its_end : StepEnd
  its_end = computefail_looked name label (context, number_of_key t.keys key) text t (found_along (number_of_key t.keys key) (context ∷ ancestors) t)

  fault_unkept : (why : KeepFault) → EndsUnkept name label why o → ⊥
  fault_unkept keep_fault.Memory ends = finds.memory ends.0
  fault_unkept keep_fault.NumbersFull ends = has_room name label reasons.NumbersFull o tt finds ends
  fault_unkept keep_fault.Contended ends = ends
  fault_unkept keep_fault.Unplaced ends = has_room name label reasons.Unplaced o tt finds ends

  module _ (limits : Limits) (attempts : ℕ) (mid : LaneView) (in_vain : VainAttempts (claiming.ClaimsMissing (context_cells run.store) context number) attempts a.cells.view mid) where
    -- what is so of the last attempt, which goes on to the end
    vain_end : IsPrefix (seen_by mid) (seen_by b.cells.view) → InVain run places a.cells.view mid t
    vain_end goes = vains run places view tree context ancestors key number is_path has within t there a.cells.view b.cells.view alone matches attempts mid goes in_vain

    last_alone : (goes : IsPrefix (seen_by mid) (seen_by b.cells.view)) → IsAlone run places mid b.cells.view
    last_alone goes = let vain = vain_end goes in alone_later run places a.cells.view mid b.cells.view vain.goes vain.number alone

    meets_goes : (what : Look) → Meets limits run.store context ancestors number mid b.cells.view what → IsPrefix (seen_by mid) (seen_by b.cells.view)
    unfolding claiming.Meets
    meets_goes what (inl holds) = seen_goes_on holds.calls
    meets_goes what (inr given_up) = seen_goes_on given_up.0

    met_alike : (what : Look) → (shown_of run.meaning what ≡ Some absent → ⊥) → Meets limits run.store context ancestors number mid b.cells.view what
        → ShowTheSame run.meaning (plain_meaning t.values) what (found_along (number_of_key t.keys key) (context ∷ ancestors) t) × Matches run places (seen_by b.cells.view) t
    met_alike what some meets =
        let goes = meets_goes what meets in
        meets_alike run places view tree context ancestors key number is_path has within t there limits mid b.cells.view (last_alone goes) (vain_end goes).matches what some meets

    -- what a claim says after which the factory ran
    claim_empty : (looked : claiming.ClaimsAndLooks limits (context_cells run.store) context ancestors number mid b.cells.view look.Absent) → IsPrefix (seen_by mid) (seen_by b.cells.view)
        → found_along (number_of_key t.keys key) (context ∷ ancestors) t ≡ look.Absent
    claim_empty looked goes =
        let first = looked.claims.looked_first in
        plain_absent run places view tree context ancestors key number is_path has within t there limits first.at
        (matches_to run places mid b.cells.view (last_alone goes) first.at t first.point (vain_end goes).matches) first.missing

    -- a fault that was kept
    kept_alike : (n : ℕ) → t.keep_faults ≡ true → claiming.ClaimsAndLooks limits (context_cells run.store) context ancestors number mid b.cells.view look.Absent
        → Fails limits (Claim (cell_of run number context) ∷ []) (cell_of run number context) mid b.cells.view n → run.meaning.faults n ≡ Some text → Ends successful 0 0 o → EndAlike run places o b its_end
    kept_alike n keeps looked fails known ends =
        let cell_is : ℕ = cell_of run number context in
        let goes = seen_goes_on fails.calls in
        let vain = vain_end goes in
        let alone_last = last_alone goes in
        let none : found_along (number_of_key t.keys key) (context ∷ ancestors) t ≡ look.Absent = claim_empty looked goes in
        let empty : t.store.slots (context, number_of_key t.keys key) ≡ None = absent_first (under t.store (number_of_key t.keys key)) context ancestors none in
        let after : ValueState = faulted t context key there empty text left places numbered in
        let mine : History = by mid.number (Claim cell_is) ∷ by mid.number (Keep n) ∷ by mid.number (Fail cell_is n) ∷ [] in
        let here_in : places context key ≡ true = All-head (λ c. places c key ≡ true) context ancestors within in
        let others : Matches run (but places context key) (seen_by b.cells.view) t =
        others_after run places view context key number here_in has mid b.cells.view alone_last mine (seen_by b.cells.view) (only_fail cell_is mid.number n) goes (prefix_refl (seen_by b.cells.view)) fails.calls.own_events t vain.matches in
        let stands : (state_after (seen_by b.cells.view)).slots cell_is ≡ Some (slot.Fault n) =
        slot_by_own run places view context key number here_in has mid b.cells.view alone_last mine (seen_by b.cells.view) (only_fail cell_is mid.number n) goes (prefix_refl (seen_by b.cells.view)) fails.calls.own_events
        ∙ ap (fold then_there ((state_after (seen_by mid)).slots cell_is)) (on_fail cell_is mid.number n) in
        let end_is : its_end ≡ ended successful after =
        ap (computefail_looked name label (context, number_of_key t.keys key) text t) none
        ∙ (claims_first t context key there empty name label (factory_failed name label (context, number_of_key t.keys key) text) ∙ fault_kept t context key there empty text left places numbered name label keeps) in
        subst (λ (end : StepEnd). EndAlike run places o b end) (sym end_is) (record {
          says = said successful o.verdict finds.memory ends.says;
          computed = ends.computed_are;
          found = ends.found_are;
          matches = matches_join run places context key number (seen_by b.cells.view) after has
              (record {
                standing = fault text;
                here = ap (standing_of run.meaning) stands ∙ ap fault_stands known;
                there = ap (standing_of (plain_meaning after.values)) (faulted_slot t context key there empty text left places numbered) ∙ ap fault_stands (faulted_words t context key there empty text left places numbered);
              })
              (faulted_others t context key there empty text left places numbered run (seen_by b.cells.view) others);
          numbered = faulted_numbered t context key there empty text left places numbered;
        })

    -- and one that was not
    given_back_alike : t.keep_faults ≡ false → claiming.ClaimsAndLooks limits (context_cells run.store) context ancestors number mid b.cells.view look.Absent
        → Calls limits mid b.cells.view (given_up_events run.store context number) → Ends successful 0 0 o → EndAlike run places o b its_end
    given_back_alike keeps looked calls ends =
        let goes = seen_goes_on calls in
        let none : found_along (number_of_key t.keys key) (context ∷ ancestors) t ≡ look.Absent = claim_empty looked goes in
        let empty : t.store.slots (context, number_of_key t.keys key) ≡ None = absent_first (under t.store (number_of_key t.keys key)) context ancestors none in
        let end_is : its_end ≡ ended successful t =
        ap (computefail_looked name label (context, number_of_key t.keys key) text t) none
        ∙ (claims_first t context key there empty name label (factory_failed name label (context, number_of_key t.keys key) text) ∙ fault_not_kept t context key there empty text left places numbered name label keeps) in
        subst (λ (end : StepEnd). EndAlike run places o b end) (sym end_is) (record {
          says = said successful o.verdict finds.memory ends.says;
          computed = ends.computed_are;
          found = ends.found_are;
          matches = given_up_leaves run places view tree context ancestors key number is_path has within t there limits mid b.cells.view (last_alone goes) (vain_end goes).matches calls looked.claims;
          numbered = numbered;
        })

    -- what was met
    found_alike : (at n : ℕ) (between : PlanLane) (seen : SeenText) → Meets limits run.store context ancestors number mid b.cells.view (look.Found at n) → Shows (look.Found at n) between seen b
        → Ends (none_verdict name label seen) 0 1 o → EndAlike run places o b its_end
    found_alike at n between seen meets shows ends =
        let alike = met_alike (look.Found at n) (λ is. value_not_absent at (run.meaning.values n) is) meets in
        let form = value_form at (run.meaning.values n) alike.0.shown alike.0.here in
        let seen_is : seen ≡ seen_of (found at form.0) = elim (lane_shows run between b (look.Found at n) seen alike.0.shown lane alike.0.here shows) [
          | inl is ↦ is ∙ ap seen_of form.1
          | inr hidden ↦ absurd (hidden_value (subst (λ s. Ends (none_verdict name label s) 0 1 o) hidden ends))
        ] in
        let end_is = end_found name label context (number_of_key t.keys key) text t (found_along (number_of_key t.keys key) (context ∷ ancestors) t) at form.0 (alike.0.there ∙ ap Some form.1) in
        subst (λ (end : StepEnd). EndAlike run places o b end) (sym end_is) (record {
          says = said (none_verdict name label seen) o.verdict finds.memory ends.says ∙ ap (none_verdict name label) seen_is;
          computed = ends.computed_are;
          found = ends.found_are;
          matches = alike.1;
          numbered = numbered;
        })
      where
        hidden_value : Ends (refused name label reasons.NotShown) 0 1 o → ⊥
        hidden_value hidden_ends = finds.room reasons.NotShown tt (said (refused name label reasons.NotShown) o.verdict finds.memory hidden_ends.says)

    fault_alike : (at n : ℕ) (between : PlanLane) (seen : SeenText) → Meets limits run.store context ancestors number mid b.cells.view (look.Fault at n) → Shows (look.Fault at n) between seen b
        → Ends (fail_verdict name label text seen) 0 0 o → EndAlike run places o b its_end
    fault_alike at n between seen meets shows ends =
        let alike = met_alike (look.Fault at n) (λ is. fault_not_absent at (run.meaning.faults n) is) meets in
        let form = fault_form at (run.meaning.faults n) alike.0.shown alike.0.here in
        let seen_is : seen ≡ seen_of (met at form.0) = elim (lane_shows run between b (look.Fault at n) seen alike.0.shown lane alike.0.here shows) [
          | inl is ↦ is ∙ ap seen_of form.1
          | inr hidden ↦ absurd (has_room name label reasons.NotShown o tt finds (subst (λ s. Ends (fail_verdict name label text s) 0 0 o) hidden ends))
        ] in
        let end_is = end_met name label context (number_of_key t.keys key) text t (found_along (number_of_key t.keys key) (context ∷ ancestors) t) at form.0 (alike.0.there ∙ ap Some form.1) in
        subst (λ (end : StepEnd). EndAlike run places o b end) (sym end_is) (record {
          says = said (fail_verdict name label text seen) o.verdict finds.memory ends.says ∙ ap (fail_verdict name label text) seen_is;
          computed = ends.computed_are;
          found = ends.found_are;
          matches = alike.1;
          numbered = numbered;
        })

    closed_alike : (at : ℕ) → Meets limits run.store context ancestors number mid b.cells.view (look.Closed at) → Ends (refused name label reasons.Closed) 0 0 o → EndAlike run places o b its_end
    closed_alike at meets ends =
        let alike = met_alike (look.Closed at) (λ is. absurd (cc is)) meets in
        let form : closed at ≡ alike.0.shown = some_is (closed at) alike.0.shown alike.0.here in
        let end_is = end_closed name label context (number_of_key t.keys key) text t (found_along (number_of_key t.keys key) (context ∷ ancestors) t) at (alike.0.there ∙ ap Some (sym form)) in
        subst (λ (end : StepEnd). EndAlike run places o b end) (sym end_is) (record {
          says = said (refused name label reasons.Closed) o.verdict finds.memory ends.says;
          computed = ends.computed_are;
          found = ends.found_are;
          matches = alike.1;
          numbered = numbered;
        })

    refused_alike : (why : Refusal) → IsRefused limits run.store context ancestors number mid b.cells.view why → EndsRefused name label why o → EndAlike run places o b its_end
    unfolding claiming.IsRefused
    refused_alike (refusal.Busy at) is ends = absurd ends
    refused_alike (refusal.Closed at) is ends = closed_alike at is ends
    refused_alike refusal.Contended is ends = absurd ends
    refused_alike refusal.Exhausted is ends = absurd (has_room name label reasons.Exhausted o tt finds ends)
    refused_alike refusal.DirectoryFull is ends = absurd (has_room name label reasons.DirectoryFull o tt finds ends)
    refused_alike refusal.Unplaced is ends = absurd ends
    refused_alike refusal.Memory is ends = absurd (finds.memory ends.0)

    fault_result : (message : String Global) → string_bytes message ≡ text → limits.keep_faults ≡ t.keep_faults → (result : Compute StoredValue (Unit {0})) → ComputesFrom limits run.store context ancestors number mid b.cells.view result
        → (between : PlanLane) → Uses (λ answer. answer ≡ Err (faults.Text message)) a between result → EndsComputeFail name label text result between o b → EndAlike run places o b its_end
    unfolding ComputesFrom
    fault_result message is keeps (computes.Computed n) from between uses ends = absurd ends
    fault_result message is keeps (computes.Found at n unused) from between uses ends = found_alike at n between ends.1 from (ends.0, ends.2) ends.3
    fault_result message is keeps (computes.Failed why) from between uses ends = given_back_alike (sym keeps ∙ from.0) from.1 from.2 ends.1
    fault_result message is keeps (computes.FaultKept n) from between uses ends =
        let known : known_at b.faults n ≡ Some uses.0 = ap (λ (l : PlanLane). known_at l.faults n) ends.0 ∙ uses.3.learnt in
        let one : uses.0 ≡ faults.Text message = cc uses.1 in
        kept_alike n (sym keeps ∙ from.0) from.1 from.2 (lane.faults n uses.0 known ∙ (ap words_of one ∙ ap Some is)) ends.1
    fault_result message is keeps (computes.FaultUnkept why cause) from between uses ends = absurd (fault_unkept cause ends.1)
    fault_result message is keeps (computes.FaultStands at n unused) from between uses ends = fault_alike at n between ends.1 from (ends.0, ends.2) ends.3
    fault_result message is keeps (computes.Unkept other cause) from between uses ends = absurd ends
    fault_result message is keeps (computes.Refused why unused) from between uses ends = refused_alike why from ends.1

  pub fail_alike : a.cells.cells.limits.keep_faults ≡ t.keep_faults → ComputesFault run.store context number name label text a o b → EndAlike run places o b its_end
  unfolding ComputesAfterWaits Computes
  fail_alike keeps made =
      let waits = made.computed in
      let last = waits.then_is in
      let paths : context ∷ last.0 ≡ context ∷ ancestors = one_path run.store.tree tree context (context ∷ last.0) (context ∷ ancestors) last.1 is_path in
      let above : last.0 ≡ ancestors = cc paths in
      fault_result a.cells.cells.limits waits.attempts waits.between waits.in_vain made.message made.message_is keeps made.result
      (subst (λ w. ComputesFrom a.cells.cells.limits run.store context w number waits.between b.cells.view made.result) above last.2) made.between made.uses made.ends

-- ---- the step

module _ (run : RunView) (keys : List KeyText) (path : List ℕ) (places : Places) (key : StepKeyText) (up : ℕ) (text : List ℕ) (a : PlanLane) (o : Outcome) (b : PlanLane) (s : ValueState)
    (within : LooksWithin keys path places key up) (both : AreCompared run keys path places (codes "computefail") key up a o b s) where
  fail_along : (below : List ℕ) → (it : IsNamed places (key_of_step keys key) s) → (number : ℕ) → IsKeyNumber b.keys (key_of_step keys key) number
      → ComputesFault run.store (start_of below) number (codes "computefail") (label_of keys key) text a o b → IsPathOf run.store.tree (start_of below) below → All (λ c. places c (key_of_step keys key) ≡ true) below
      → EndAlike run places o b (computefail_numbered enough (codes "computefail") (label_of keys key) below text (number_of_key it.state.keys (key_of_step keys key)) it.state)
  fail_along [] it number has made is_path inside = absurd is_path
  fail_along (context ∷ above) it number has made is_path inside =
      fail_alike run places both.view both.tree (codes "computefail") (label_of keys key) context above (key_of_step keys key) number is_path
      (number_stays b.keys run.numbering (key_of_step keys key) number both.lane.keys has) inside
      it.state it.there (subst (λ n. it.state.store.drawn < n) (sym it.numbers) (subst (λ (st : State Place). st.drawn < s.numbers) (sym it.drawn) both.room.numbers)) it.numbered text a b o both.lane both.finds both.alone
      (it.matches run (seen_by a.cells.view) both.matches) (both.keeps ∙ sym it.faults) made

pub failures_end_alike : WordEndsAlike words.ComputeFail
failures_end_alike key text up run keys path places a o b s within both (inr (why, refused_key, (same, ends))) =
    absurd (key_found (codes "computefail") (label_of keys key) o a b (key_of_step keys key) why both.finds refused_key ends)
failures_end_alike key text up run keys path places a o b s within both (inl (number, has, made)) =
    let it : IsNamed places (key_of_step keys key) s = named places (key_of_step keys key) s both.room.keys both.numbered in
    subst (λ (end : StepEnd). EndAlike run places o b end) (sym (it.goes (codes "computefail") (label_of keys key) (computefail_numbered enough (codes "computefail") (label_of keys key) (drop up path) text)))
    (fail_along run keys path places key up text a o b s within both (drop up path) it number has made both.path_is within)
