-- Computes on a lane that is alone on the places that they touch end as those of a plain run.
use Rattle.std.proofs.Common.{◌≡◌, ℕ, zero, suc, ◌<◌, inl, inr, true, false, cond, List, [], ◌∷◌, drop, fold, refl, ap, sym, subst, ◌∙◌, arith, nat_eq, eq-eqb, ne_eqb, Option, None, Some}
use Rattle.std.specs.List.{slice_index_or}
use Rattle.ext_tree.specs.Traits.{key_eq}
use Rattle.std.specs.Prelude.{All, Ok, codes, not, ◌&&◌}
use Rattle.std.proofs.lemmas.List.Elements.{All-head, All-tail}
use mathlib.Core.List.{IsPrefix}
use base.Growing.{prefix_refl, prefix_trans}
use Rattle.ext_history.specs.Histories.{seen_by}
use Rattle.ext_history.proofs.Composed.{quiet_point, same_number, seen_goes_on, seen_is_point}
use Rattle.ext_model.specs.declared.event.Act.TheVariants.{Keep, Claim, Fill, Abandon}
use Rattle.ext_model.specs.declared.event.Event.{Event}
use Rattle.ext_model.specs.declared.look.Look.{Look}
use Rattle.ext_model.specs.declared.look.Look.TheVariants as look
use Rattle.ext_model.specs.declared.slot.Slot.TheVariants as slot
use Rattle.ext_model.specs.State.{State}
use Rattle.ext_model.specs.Plain.{Place, under}
use Rattle.ext_model.specs.History.{History, Limits, by, state_after}
use Rattle.ext_model.specs.CallActs.{LaneView, Calls, look_after}
use Rattle.ext_tree.specs.Keys.{KeyValue, IsKeyNumber}
use Rattle.ext_tree.specs.Trees.{IsTree, IsPathOf}
use Rattle.ext_tree.proofs.KeyPlacing.{number_stays}
use Rattle.ext_tree.proofs.Walks.{one_path, walk_below}
use Rattle.ext_values.specs.Known.{known_at}
use Rattle.ext_lifecycle.specs.declared.outcome.Outcome.{Outcome}
use Rattle.ext_lifecycle.specs.Endings.{successful}
use Rattle.ext_plan.specs.declared.reason.Reason.TheVariants as reasons
use Rattle.ext_plan.specs.declared.word.Word.TheVariants as words
use Rattle.ext_plan.specs.Plans.{KeyText, StepKeyText}
use Rattle.ext_plan.specs.StepCalls.{call_of, label_of, start_of}
use Rattle.ext_plan.specs.StoreKeys.{is_there, key_of_step, number_of_key}
use Rattle.ext_plan.specs.Values.{ValueText}
use Rattle.ext_plan.specs.Verdicts.{SeenText, refused, none_verdict}
use Rattle.ext_store_core.specs.Claiming as claiming
use Rattle.ext_store_core.specs.Waiting.{VainAttempts}
use Rattle.ext_store_core.specs.declared.fault.Refusal.{Refusal}
use Rattle.ext_store_core.specs.declared.fault.Refusal.TheVariants as refusal
use Rattle.ext_store.specs.declared.fault.KeepFault.{KeepFault}
use Rattle.ext_store.specs.declared.fault.KeepFault.TheVariants as keep_fault
use Rattle.ext_store.specs.declared.computed.Compute.{Compute}
use Rattle.ext_store.specs.declared.computed.Compute.TheVariants as computes
use Rattle.ext_store.specs.Stores.{context_cells}
use Rattle.ext_store.specs.Computing.{ComputesFrom, Fills, Uses, Computes, IsRefused, Meets, given_up_events}
use Rattle.ext_store.specs.Waiting.{ComputesAfterWaits, IsDecided}
use Rattle.ext_plan_plain.specs.ValueStates.{ValueState, enough, value_of}
use Rattle.ext_plan_plain.specs.StepRuns.{StepEnd, ended, compute_looked, compute_numbered, factory_gave, found_along, numbered_by}
use Rattle.ext_plan_parallel.specs.declared.steps.stored_value.StoredValue.{StoredValue}
use Rattle.ext_plan_parallel.specs.Saying.{Ends, EndsRefused, EndsUnkept}
use Rattle.ext_plan_parallel.specs.StoreCalls.{PlanLane, ComputesValue, EndsCompute, Shows, stored_view}
use Rattle.ext_plan_parallel.specs.StoreSteps.{StepComputes}
use Rattle.ext_one_report.specs.Changing.{events_at}
use Rattle.ext_one_report.proofs.StandingsWords.{Meaning, Shown, absent, found, met, closed, value_shown, fault_shown, shown_of, ShowTheSame, nothing, value, standing_of, value_stands}
use Rattle.ext_one_report.proofs.MatchingWords.{RunView, IsRunView, HasNumberIn, Places, Matches, IsNumbered, cell_of, plain_meaning, plain_slot, text_of}
use Rattle.ext_one_report.proofs.StepsWords.{IsAlone, IsLaneIn, AreCompared, LooksWithin, EndAlike, WordEndsAlike}
use Rattle.ext_one_report.specs.FullRuns.{FindsAll}
use Rattle.ext_one_report.proofs.OnCells.{then_there}
use Rattle.ext_one_report.proofs.Matching.{plain_there}
use Rattle.ext_one_report.proofs.NodesAlone.{alone_first, alone_later, matches_to}
use Rattle.ext_one_report.proofs.Numbered.{IsNamed, named}
use Rattle.ext_one_report.proofs.OwnCell.{but, matches_join, OnlyAt, others_after, slot_by_own}
use Rattle.ext_one_report.proofs.Claimed.{absent_first, absent_rest, claims_first, factory_gives, filled, filled_numbered, filled_others, filled_slot, filled_value}
use Rattle.ext_one_report.proofs.StepLooks.{said, has_room, key_found, lane_shows, looks_same, plain_fault, seen_of, some_is}

-- ---- what look-ups show

pub value_form : (at : ℕ) (o : Option ValueText) (what : Shown ValueText (List ℕ)) → value_shown at o ≡ Some what → (v : ValueText) × (what ≡ found at v)
value_form at None what is = absurd (cc is)
value_form at (Some v) what is = (v, sym (some_is (found at v) what is))

pub fault_form : (at : ℕ) (o : Option (List ℕ)) (what : Shown ValueText (List ℕ)) → fault_shown at o ≡ Some what → (text : List ℕ) × (what ≡ met at text)
fault_form at None what is = absurd (cc is)
fault_form at (Some text) what is = (text, sym (some_is (met at text) what is))

pub value_not_absent : (at : ℕ) (o : Option ValueText) → value_shown {F = List ℕ} at o ≡ Some absent → ⊥
value_not_absent at None is = absurd (cc is)
value_not_absent at (Some v) is = absurd (cc is)

pub fault_not_absent : (at : ℕ) (o : Option (List ℕ)) → fault_shown {V = ValueText} at o ≡ Some absent → ⊥
fault_not_absent at None is = absurd (cc is)
fault_not_absent at (Some f) is = absurd (cc is)

-- only a look-up that finds nothing shows nothing
absent_by : (m : Meaning ValueText (List ℕ)) (l : Look) → shown_of m l ≡ Some absent → l ≡ look.Absent
absent_by m (look.Found at number) is = absurd (value_not_absent at (m.values number) is)
absent_by m (look.Fault at number) is = absurd (fault_not_absent at (m.faults number) is)
absent_by m look.Absent is = refl
absent_by m (look.Busy at) is = absurd (cc is)
absent_by m (look.Closed at) is = absurd (cc is)

-- ---- how a compute of a plain run ends, by what is shown

module _ (name label : List ℕ) (at_context at_number : ℕ) (v : ValueText) (t : ValueState) where
  abbrev end_of : Look → StepEnd
  end_of l = compute_looked name label (at_context, at_number) v t l

  found_or : (at : ℕ) (o : Option (List ℕ)) (c : ℕ) (w : ValueText) → fault_shown at o ≡ Some (found c w) → ⊥
  found_or at None c w is = absurd (cc is)
  found_or at (Some f) c w is = absurd (cc is)

  met_or : (at : ℕ) (o : Option ValueText) (c : ℕ) (w : List ℕ) → value_shown at o ≡ Some (met c w) → ⊥
  met_or at None c w is = absurd (cc is)
  met_or at (Some f) c w is = absurd (cc is)

  closed_value : (at : ℕ) (o : Option ValueText) (c : ℕ) → value_shown {F = List ℕ} at o ≡ Some (closed c) → ⊥
  closed_value at None c is = absurd (cc is)
  closed_value at (Some f) c is = absurd (cc is)

  closed_fault : (at : ℕ) (o : Option (List ℕ)) (c : ℕ) → fault_shown {V = ValueText} at o ≡ Some (closed c) → ⊥
  closed_fault at None c is = absurd (cc is)
  closed_fault at (Some f) c is = absurd (cc is)

  end_found : (l : Look) (c : ℕ) (w : ValueText) → shown_of (plain_meaning t.values) l ≡ Some (found c w) → end_of l ≡ record { state = t; verdict = successful; computed = 0; found = 1 }
  end_found (look.Found at number) c w is = refl
  end_found (look.Fault at number) c w is = absurd (found_or at (text_of (value_of t.values number)) c w is)
  end_found look.Absent c w is = absurd (cc is)
  end_found (look.Busy at) c w is = absurd (cc is)
  end_found (look.Closed at) c w is = absurd (cc is)

  end_met : (l : Look) (c : ℕ) (w : List ℕ) → shown_of (plain_meaning t.values) l ≡ Some (met c w) → end_of l ≡ ended (none_verdict name label (seen_of (met c w))) t
  end_met (look.Found at number) c w is = absurd (met_or at (value_of t.values number) c w is)
  end_met (look.Fault at number) c w is = ap (λ seen. ended (none_verdict name label seen) t) (plain_fault at (value_of t.values number) (met c w) is)
  end_met look.Absent c w is = absurd (cc is)
  end_met (look.Busy at) c w is = absurd (cc is)
  end_met (look.Closed at) c w is = absurd (cc is)

  end_closed : (l : Look) (c : ℕ) → shown_of (plain_meaning t.values) l ≡ Some (closed c) → end_of l ≡ ended (refused name label reasons.Closed) t
  end_closed (look.Found at number) c is = absurd (closed_value at (value_of t.values number) c is)
  end_closed (look.Fault at number) c is = absurd (closed_fault at (text_of (value_of t.values number)) c is)
  end_closed look.Absent c is = absurd (cc is)
  end_closed (look.Busy at) c is = absurd (cc is)
  end_closed (look.Closed at) c is = refl

-- ---- events of one lane on one cell

-- the claim of a cell, and the claim and its end
on_self : (cell lane : ℕ) → events_at cell (by lane (Claim cell) ∷ by lane (Abandon cell) ∷ []) ≡ by lane (Claim cell) ∷ by lane (Abandon cell) ∷ []
on_self cell lane =
    let last : Event ℕ = by lane (Abandon cell) in
    let first : Event ℕ = by lane (Claim cell) in
    ap (λ b. cond b (first ∷ cond b (last ∷ []) []) (cond b (last ∷ []) [])) (eq-eqb cell cell refl)

only_claim : (cell lane : ℕ) → OnlyAt cell (by lane (Claim cell) ∷ [])
only_claim cell lane = λ other off. ap (λ b. cond b (by lane (Claim cell) ∷ []) []) off

pub only_given_up : (cell lane : ℕ) → OnlyAt cell (by lane (Claim cell) ∷ by lane (Abandon cell) ∷ [])
only_given_up cell lane = λ other off.
    let last : Event ℕ = by lane (Abandon cell) in
    let first : Event ℕ = by lane (Claim cell) in
    ap (λ b. cond b (first ∷ cond b (last ∷ []) []) (cond b (last ∷ []) [])) off

on_fill : (cell lane number : ℕ) → events_at cell (by lane (Claim cell) ∷ by lane (Keep number) ∷ by lane (Fill cell number) ∷ []) ≡ by lane (Claim cell) ∷ by lane (Fill cell number) ∷ []
on_fill cell lane number =
    let last : Event ℕ = by lane (Fill cell number) in
    let first : Event ℕ = by lane (Claim cell) in
    ap (λ b. cond b (first ∷ cond b (last ∷ []) []) (cond b (last ∷ []) [])) (eq-eqb cell cell refl)

pub only_fill : (cell lane number : ℕ) → OnlyAt cell (by lane (Claim cell) ∷ by lane (Keep number) ∷ by lane (Fill cell number) ∷ [])
only_fill cell lane number = λ other off.
    let last : Event ℕ = by lane (Fill cell number) in
    let first : Event ℕ = by lane (Claim cell) in
    ap (λ b. cond b (first ∷ cond b (last ∷ []) []) (cond b (last ∷ []) [])) off

-- ---- a compute on a lane

module _ (run : RunView) (places : Places) (view : IsRunView run) (tree : IsTree run.store.tree) (context : ℕ) (ancestors : List ℕ) (key : KeyValue) (number : ℕ)
    (is_path : IsPathOf run.store.tree context (context ∷ ancestors)) (has : HasNumberIn run key number) (within : All (λ c. places c key ≡ true) (context ∷ ancestors)) (t : ValueState)
    (there : is_there t.keys key ≡ true) (limits : Limits) where
  here_within : places context key ≡ true
  here_within = All-head (λ c. places c key ≡ true) context ancestors within

  above_within : All (λ c. but places context key c key ≡ true) ancestors
  above_within = λ i d less.
      let c : ℕ = slice_index_or ancestors i d in
      let is : places c key ≡ true = All-tail (λ k. places k key ≡ true) context ancestors within i d less in
      let below : c < context = walk_below run.store.tree tree context ancestors is_path.1 i d less in
      let apart : nat_eq c context ≡ false = ne_eqb c context (λ same. absurd (omega (arith, same, below))) in
      ap (λ b. b && not (nat_eq c context && key_eq key key)) is ∙ ap (λ b. not (b && key_eq key key)) apart

  abbrev cell : ℕ
  cell = cell_of run number context

  looks : (p : History) → Matches run places p t → ShowTheSame run.meaning (plain_meaning t.values) (look_after (cell_of run number) (context ∷ ancestors) p) (found_along (number_of_key t.keys key) (context ∷ ancestors) t)
  looks p matches = looks_same run places p t key number (context ∷ ancestors) matches has there within

  -- where a look-up of the lane finds nothing, that of the plain run finds nothing
  pub plain_absent : (p : History) → Matches run places p t → look_after (cell_of run number) (context ∷ ancestors) p ≡ look.Absent → found_along (number_of_key t.keys key) (context ∷ ancestors) t ≡ look.Absent
  plain_absent p matches missing =
      let same = looks p matches in
      let shown_is : absent ≡ same.shown = some_is absent same.shown (sym (ap (shown_of run.meaning) missing) ∙ same.here) in
      absent_by (plain_meaning t.values) _ (same.there ∙ ap Some (sym shown_is))

  module _ (a b : LaneView) (alone : IsAlone run places a b) (matches : Matches run places (seen_by a) t) where
    -- a claim under which the look-up above shows something is not given up
    claimed_shows_nothing : (what : Look) → claiming.ClaimsAndLooks limits (context_cells run.store) context ancestors number a b what → shown_of run.meaning what ≡ Some absent
    claimed_shows_nothing what looked =
        let first = looked.claims.looked_first in
        let none : found_along (number_of_key t.keys key) (context ∷ ancestors) t ≡ look.Absent = plain_absent first.at (matches_to run places a b alone first.at t first.point matches) first.missing in
        let above : found_along (number_of_key t.keys key) ancestors t ≡ look.Absent = absent_rest (under t.store (number_of_key t.keys key)) context ancestors none in
        let p : History = looked.looked.0 in
        let at = looked.looked.1 in
        let others : Matches run (but places context key) p t =
        others_after run places view context key number here_within has a b alone (by a.number (Claim cell) ∷ []) p (only_claim cell a.number) at.since at.until at.own_events t matches in
        let same = looks_same run (but places context key) p t key number ancestors others has there above_within in
        let shown_is : absent ≡ same.shown = some_is absent same.shown (sym (ap (shown_of (plain_meaning t.values)) above) ∙ same.there) in
        sym (ap (shown_of run.meaning) looked.looked.2) ∙ (same.here ∙ ap Some (sym shown_is))

    -- what a compute meets is what the plain run finds
    pub meets_alike : (what : Look) → (shown_of run.meaning what ≡ Some absent → ⊥) → Meets limits run.store context ancestors number a b what
        → ShowTheSame run.meaning (plain_meaning t.values) what (found_along (number_of_key t.keys key) (context ∷ ancestors) t) × Matches run places (seen_by b) t
    unfolding claiming.Meets
    meets_alike what some (inr given_up) = absurd (some (claimed_shows_nothing what given_up.1))
    meets_alike what some (inl holds) =
        let p : History = holds.point.0 in
        let same = looks p (matches_to run places a b alone p t (quiet_point holds.calls p holds.point.1) matches) in (
          record { shown = same.shown; here = sym (ap (shown_of run.meaning) holds.point.2) ∙ same.here; there = same.there },
          matches_to run places a b alone (seen_by b) t (seen_is_point holds.calls) matches,
        )

    -- a claim that is given up leaves what stood
    pub given_up_leaves : Calls limits a b (given_up_events run.store context number) → claiming.Claims limits (context_cells run.store) context ancestors number a b → Matches run places (seen_by b) t
    given_up_leaves calls claims =
        let first = claims.looked_first in
        let none : found_along (number_of_key t.keys key) (context ∷ ancestors) t ≡ look.Absent = plain_absent first.at (matches_to run places a b alone first.at t first.point matches) first.missing in
        let empty : plain_slot t context key ≡ None = plain_there t context key there ∙ absent_first (under t.store (number_of_key t.keys key)) context ancestors none in
        let mine : History = by a.number (Claim cell) ∷ by a.number (Abandon cell) ∷ [] in
        let others : Matches run (but places context key) (seen_by b) t =
        others_after run places view context key number here_within has a b alone mine (seen_by b) (only_given_up cell a.number) (seen_goes_on calls) (prefix_refl (seen_by b)) calls.own_events t matches in
        let left : (state_after (seen_by b)).slots cell ≡ None =
        slot_by_own run places view context key number here_within has a b alone mine (seen_by b) (only_given_up cell a.number) (seen_goes_on calls) (prefix_refl (seen_by b)) calls.own_events
        ∙ ap (fold then_there ((state_after (seen_by a)).slots cell)) (on_self cell a.number) in
        matches_join run places context key number (seen_by b) t has (record { standing = nothing; here = ap (standing_of run.meaning) left; there = ap (standing_of (plain_meaning t.values)) empty }) others

    refused_leaves : (why : Refusal) → (IsDecided why → ⊥) → IsRefused limits run.store context ancestors number a b why → Matches run places (seen_by b) t
    unfolding claiming.IsRefused
    refused_leaves (refusal.Busy at) undecided met_busy = (meets_alike (look.Busy at) (λ is. absurd (cc is)) met_busy).1
    refused_leaves (refusal.Closed at) undecided refused_so = absurd (undecided tt)
    refused_leaves refusal.Contended undecided (inl overtaken) = matches_to run places a b alone (seen_by b) t (seen_is_point overtaken.calls) matches
    refused_leaves refusal.Contended undecided (inr given_up) = given_up_leaves given_up.0 given_up.1
    refused_leaves refusal.Exhausted undecided refused_so = absurd (undecided tt)
    refused_leaves refusal.DirectoryFull undecided refused_so = absurd (undecided tt)
    refused_leaves refusal.Unplaced undecided refused_so = absurd (undecided tt)
    refused_leaves refusal.Memory undecided refused_so = absurd (undecided tt)

  -- ---- attempts in vain

  refused_goes : (a b : LaneView) (why : Refusal) → (IsDecided why → ⊥) → IsRefused limits run.store context ancestors number a b why → IsPrefix (seen_by a) (seen_by b) × (b.number ≡ a.number)
  unfolding claiming.IsRefused claiming.Meets
  refused_goes a b (refusal.Busy at) undecided (inl holds) = (seen_goes_on holds.calls, same_number holds.calls)
  refused_goes a b (refusal.Busy at) undecided (inr given_up) = (seen_goes_on given_up.0, same_number given_up.0)
  refused_goes a b (refusal.Closed at) undecided refused_so = absurd (undecided tt)
  refused_goes a b refusal.Contended undecided (inl overtaken) = (seen_goes_on overtaken.calls, same_number overtaken.calls)
  refused_goes a b refusal.Contended undecided (inr given_up) = (seen_goes_on given_up.0, same_number given_up.0)
  refused_goes a b refusal.Exhausted undecided refused_so = absurd (undecided tt)
  refused_goes a b refusal.DirectoryFull undecided refused_so = absurd (undecided tt)
  refused_goes a b refusal.Unplaced undecided refused_so = absurd (undecided tt)
  refused_goes a b refusal.Memory undecided refused_so = absurd (undecided tt)

-- a lane after some attempts in vain: it has seen more, and what matched matches
pub record InVain (run : RunView) (places : Places) (a m : LaneView) (t : ValueState) : Type 0 where
  pub goes : IsPrefix (seen_by a) (seen_by m)
  pub number : m.number ≡ a.number
  pub matches : Matches run places (seen_by m) t

pub vains : (run : RunView) (places : Places) (view : IsRunView run) (tree : IsTree run.store.tree) (context : ℕ) (ancestors : List ℕ) (key : KeyValue) (number : ℕ)
    (is_path : IsPathOf run.store.tree context (context ∷ ancestors)) (has : HasNumberIn run key number) (within : All (λ c. places c key ≡ true) (context ∷ ancestors)) (t : ValueState)
    (there : is_there t.keys key ≡ true) (a b : LaneView) (alone : IsAlone run places a b) (matches : Matches run places (seen_by a) t)
    → (attempts : ℕ) (m : LaneView) → IsPrefix (seen_by m) (seen_by b) → VainAttempts (claiming.ClaimsMissing (context_cells run.store) context number) attempts a m → InVain run places a m t
vains run places view tree context ancestors key number is_path has within t there a b alone matches zero m until same =
    record { goes = subst (λ (l : LaneView). IsPrefix (seen_by a) (seen_by l)) (sym same) (prefix_refl (seen_by a)); number = ap (λ (l : LaneView). l.number) same; matches = subst (λ (l : LaneView). Matches run places (seen_by l) t) (sym same) matches }
vains run places view tree context ancestors key number is_path has within t there a b alone matches (suc attempts) m until more =
    let limits : Limits = run.store.id.cells.limits in
    let middle : LaneView = more.0 in
    let last = more.2 in
    let paths : context ∷ last.refused.0 ≡ context ∷ ancestors = one_path run.store.tree tree context (context ∷ last.refused.0) (context ∷ ancestors) last.refused.1 is_path in
    let above : last.refused.0 ≡ ancestors = cc paths in
    let why_so : IsRefused limits run.store context ancestors number middle m last.why = subst (λ w. IsRefused limits run.store context w number middle m last.why) above last.refused.2 in
    let goes = refused_goes run places view tree context ancestors key number is_path has within t there limits middle m last.why last.undecided why_so in
    let first = vains run places view tree context ancestors key number is_path has within t there a b alone matches attempts middle (prefix_trans (seen_by middle) (seen_by m) (seen_by b) goes.0 until) more.1 in
    let later : IsAlone run places middle m =
    alone_first run places middle m b until (alone_later run places a middle b first.goes first.number alone) in
    record {
      goes = prefix_trans (seen_by a) (seen_by middle) (seen_by m) first.goes goes.0;
      number = goes.1 ∙ first.number;
      matches = refused_leaves run places view tree context ancestors key number is_path has within t there limits middle m later first.matches last.why last.undecided why_so;
    }

-- ---- a compute whose factory gives a value

module _ (run : RunView) (places : Places) (view : IsRunView run) (tree : IsTree run.store.tree) (name label : List ℕ) (context : ℕ) (ancestors : List ℕ) (key : KeyValue) (number : ℕ)
    (is_path : IsPathOf run.store.tree context (context ∷ ancestors)) (has : HasNumberIn run key number) (within : All (λ c. places c key ≡ true) (context ∷ ancestors)) (t : ValueState)
    (there : is_there t.keys key ≡ true) (left : t.store.drawn < t.numbers) (numbered : IsNumbered places t) (v : ValueText) (a b : PlanLane) (o : Outcome) (lane : IsLaneIn run b)
    (finds : FindsAll name label o) (alone : IsAlone run places a.cells.view b.cells.view) (matches : Matches run places (seen_by a.cells.view) t) where
  abbrev its_end : StepEnd
  its_end = compute_looked name label (context, number_of_key t.keys key) v t (found_along (number_of_key t.keys key) (context ∷ ancestors) t)

  value_unkept : (why : KeepFault) → EndsUnkept name label why o → ⊥
  value_unkept keep_fault.Memory ends = finds.memory ends.0
  value_unkept keep_fault.NumbersFull ends = has_room name label reasons.NumbersFull o tt finds ends
  value_unkept keep_fault.Contended ends = ends
  value_unkept keep_fault.Unplaced ends = has_room name label reasons.Unplaced o tt finds ends

  module _ (limits : Limits) (attempts : ℕ) (mid : LaneView) (in_vain : VainAttempts (claiming.ClaimsMissing (context_cells run.store) context number) attempts a.cells.view mid) where
    -- what is so of the last attempt, which goes on to the end
    vain_end : IsPrefix (seen_by mid) (seen_by b.cells.view) → InVain run places a.cells.view mid t
    vain_end goes = vains run places view tree context ancestors key number is_path has within t there a.cells.view b.cells.view alone matches attempts mid goes in_vain

    last_alone : (goes : IsPrefix (seen_by mid) (seen_by b.cells.view)) → IsAlone run places mid b.cells.view
    last_alone goes = let vain = vain_end goes in alone_later run places a.cells.view mid b.cells.view vain.goes vain.number alone

    meets_goes : (what : Look) → Meets limits run.store context ancestors number mid b.cells.view what → IsPrefix (seen_by mid) (seen_by b.cells.view)
    unfolding claiming.Meets
    meets_goes what (inl holds) = seen_goes_on holds.calls
    meets_goes what (inr given_up) = seen_goes_on given_up.0

    met_alike : (what : Look) → (shown_of run.meaning what ≡ Some absent → ⊥) → Meets limits run.store context ancestors number mid b.cells.view what
        → ShowTheSame run.meaning (plain_meaning t.values) what (found_along (number_of_key t.keys key) (context ∷ ancestors) t) × Matches run places (seen_by b.cells.view) t
    met_alike what some meets =
        let goes = meets_goes what meets in
        meets_alike run places view tree context ancestors key number is_path has within t there limits mid b.cells.view (last_alone goes) (vain_end goes).matches what some meets

    -- a value that was computed
    computed_alike : (n : ℕ) → claiming.ClaimsAndLooks limits (context_cells run.store) context ancestors number mid b.cells.view look.Absent → Fills limits (Claim (cell_of run number context) ∷ []) (cell_of run number context) mid b.cells.view n
        → run.meaning.values n ≡ Some v → Ends successful 1 0 o → EndAlike run places o b its_end
    computed_alike n looked fills known ends =
        let cell_is : ℕ = cell_of run number context in
        let goes = seen_goes_on fills.calls in
        let vain = vain_end goes in
        let alone_last = last_alone goes in
        let first = looked.claims.looked_first in
        let none : found_along (number_of_key t.keys key) (context ∷ ancestors) t ≡ look.Absent =
        plain_absent run places view tree context ancestors key number is_path has within t there limits first.at (matches_to run places mid b.cells.view alone_last first.at t first.point vain.matches) first.missing in
        let empty : t.store.slots (context, number_of_key t.keys key) ≡ None = absent_first (under t.store (number_of_key t.keys key)) context ancestors none in
        let after : ValueState = filled t context key there empty v left places numbered in
        let mine : History = by mid.number (Claim cell_is) ∷ by mid.number (Keep n) ∷ by mid.number (Fill cell_is n) ∷ [] in
        let here_in : places context key ≡ true = All-head (λ c. places c key ≡ true) context ancestors within in
        let others : Matches run (but places context key) (seen_by b.cells.view) t =
        others_after run places view context key number here_in has mid b.cells.view alone_last mine (seen_by b.cells.view) (only_fill cell_is mid.number n) goes (prefix_refl (seen_by b.cells.view)) fills.calls.own_events t vain.matches in
        let stands : (state_after (seen_by b.cells.view)).slots cell_is ≡ Some (slot.Entry n) =
        slot_by_own run places view context key number here_in has mid b.cells.view alone_last mine (seen_by b.cells.view) (only_fill cell_is mid.number n) goes (prefix_refl (seen_by b.cells.view)) fills.calls.own_events
        ∙ ap (fold then_there ((state_after (seen_by mid)).slots cell_is)) (on_fill cell_is mid.number n) in
        let end_is : its_end ≡ record { state = after; verdict = successful; computed = 1; found = 0 } =
        ap (compute_looked name label (context, number_of_key t.keys key) v t) none
        ∙ (claims_first t context key there empty name label (factory_gave name label (context, number_of_key t.keys key) v) ∙ factory_gives t context key there empty v left places numbered name label) in
        subst (λ (end : StepEnd). EndAlike run places o b end) (sym end_is) (record {
          says = said successful o.verdict finds.memory ends.says;
          computed = ends.computed_are;
          found = ends.found_are;
          matches = matches_join run places context key number (seen_by b.cells.view) after has
              (record {
                standing = value v;
                here = ap (standing_of run.meaning) stands ∙ ap value_stands known;
                there = ap (standing_of (plain_meaning after.values)) (filled_slot t context key there empty v left places numbered) ∙ ap value_stands (filled_value t context key there empty v left places numbered);
              })
              (filled_others t context key there empty v left places numbered run (seen_by b.cells.view) others);
          numbered = filled_numbered t context key there empty v left places numbered;
        })

    -- what was met
    found_alike : (at n : ℕ) → Meets limits run.store context ancestors number mid b.cells.view (look.Found at n) → Ends successful 0 1 o → EndAlike run places o b its_end
    found_alike at n meets ends =
        let alike = met_alike (look.Found at n) (λ is. value_not_absent at (run.meaning.values n) is) meets in
        let form = value_form at (run.meaning.values n) alike.0.shown alike.0.here in
        let end_is = end_found name label context (number_of_key t.keys key) v t (found_along (number_of_key t.keys key) (context ∷ ancestors) t) at form.0 (alike.0.there ∙ ap Some form.1) in
        subst (λ (end : StepEnd). EndAlike run places o b end) (sym end_is) (record {
          says = said successful o.verdict finds.memory ends.says;
          computed = ends.computed_are;
          found = ends.found_are;
          matches = alike.1;
          numbered = numbered;
        })

    fault_alike : (at n : ℕ) (between : PlanLane) (seen : SeenText) → Meets limits run.store context ancestors number mid b.cells.view (look.Fault at n) → Shows (look.Fault at n) between seen b
        → Ends (none_verdict name label seen) 0 0 o → EndAlike run places o b its_end
    fault_alike at n between seen meets shows ends =
        let alike = met_alike (look.Fault at n) (λ is. fault_not_absent at (run.meaning.faults n) is) meets in
        let form = fault_form at (run.meaning.faults n) alike.0.shown alike.0.here in
        let seen_is : seen ≡ seen_of (met at form.0) = elim (lane_shows run between b (look.Fault at n) seen alike.0.shown lane alike.0.here shows) [
          | inl is ↦ is ∙ ap seen_of form.1
          | inr hidden ↦ absurd (has_room name label reasons.NotShown o tt finds (subst (λ s. Ends (none_verdict name label s) 0 0 o) hidden ends))
        ] in
        let end_is = end_met name label context (number_of_key t.keys key) v t (found_along (number_of_key t.keys key) (context ∷ ancestors) t) at form.0 (alike.0.there ∙ ap Some form.1) in
        subst (λ (end : StepEnd). EndAlike run places o b end) (sym end_is) (record {
          says = said (none_verdict name label seen) o.verdict finds.memory ends.says ∙ ap (none_verdict name label) seen_is;
          computed = ends.computed_are;
          found = ends.found_are;
          matches = alike.1;
          numbered = numbered;
        })

    closed_alike : (at : ℕ) → Meets limits run.store context ancestors number mid b.cells.view (look.Closed at) → Ends (refused name label reasons.Closed) 0 0 o → EndAlike run places o b its_end
    closed_alike at meets ends =
        let alike = met_alike (look.Closed at) (λ is. absurd (cc is)) meets in
        let form : closed at ≡ alike.0.shown = some_is (closed at) alike.0.shown alike.0.here in
        let end_is = end_closed name label context (number_of_key t.keys key) v t (found_along (number_of_key t.keys key) (context ∷ ancestors) t) at (alike.0.there ∙ ap Some (sym form)) in
        subst (λ (end : StepEnd). EndAlike run places o b end) (sym end_is) (record {
          says = said (refused name label reasons.Closed) o.verdict finds.memory ends.says;
          computed = ends.computed_are;
          found = ends.found_are;
          matches = alike.1;
          numbered = numbered;
        })

    refused_alike : (why : Refusal) → IsRefused limits run.store context ancestors number mid b.cells.view why → EndsRefused name label why o → EndAlike run places o b its_end
    unfolding claiming.IsRefused
    refused_alike (refusal.Busy at) is ends = absurd ends
    refused_alike (refusal.Closed at) is ends = closed_alike at is ends
    refused_alike refusal.Contended is ends = absurd ends
    refused_alike refusal.Exhausted is ends = absurd (has_room name label reasons.Exhausted o tt finds ends)
    refused_alike refusal.DirectoryFull is ends = absurd (has_room name label reasons.DirectoryFull o tt finds ends)
    refused_alike refusal.Unplaced is ends = absurd ends
    refused_alike refusal.Memory is ends = absurd (finds.memory ends.0)

    value_result : (given : StoredValue) → stored_view given ≡ v → (result : Compute StoredValue (Unit {0})) → ComputesFrom limits run.store context ancestors number mid b.cells.view result → (between : PlanLane)
        → Uses (λ answer. answer ≡ Ok given) a between result → EndsCompute name label result between o b → EndAlike run places o b its_end
    unfolding ComputesFrom
    value_result given is (computes.Computed n) from between uses ends =
        let known : known_at b.known n ≡ Some uses.0 = ap (λ (l : PlanLane). known_at l.known n) ends.0 ∙ uses.2.learnt in
        let one : uses.0 ≡ given = cc uses.1 in
        computed_alike n from.0 from.1 (lane.values n uses.0 known ∙ ap Some (ap stored_view one ∙ is)) ends.1
    value_result given is (computes.Found at n unused) from between uses ends = found_alike at n from ends.1
    value_result given is (computes.Failed why) from between uses ends = absurd ends
    value_result given is (computes.FaultKept n) from between uses ends = absurd ends
    value_result given is (computes.FaultUnkept why cause) from between uses ends = absurd ends
    value_result given is (computes.FaultStands at n unused) from between uses ends = fault_alike at n between ends.1 from (ends.0, ends.2) ends.3
    value_result given is (computes.Unkept other cause) from between uses ends = absurd (value_unkept cause ends.1)
    value_result given is (computes.Refused why unused) from between uses ends = refused_alike why from ends.1

  pub value_alike : ComputesValue run.store context number name label v a o b → EndAlike run places o b its_end
  unfolding ComputesAfterWaits Computes
  value_alike made =
      let waits = made.computed in
      let last = waits.then_is in
      let paths : context ∷ last.0 ≡ context ∷ ancestors = one_path run.store.tree tree context (context ∷ last.0) (context ∷ ancestors) last.1 is_path in
      let above : last.0 ≡ ancestors = cc paths in
      value_result a.cells.cells.limits waits.attempts waits.between waits.in_vain made.given made.value_is made.result
      (subst (λ w. ComputesFrom a.cells.cells.limits run.store context w number waits.between b.cells.view made.result) above last.2) made.between made.uses made.ends

-- ---- the steps

module _ (run : RunView) (keys : List KeyText) (path : List ℕ) (places : Places) (name : List ℕ) (key : StepKeyText) (up : ℕ) (v : ValueText) (a : PlanLane) (o : Outcome) (b : PlanLane) (s : ValueState)
    (within : LooksWithin keys path places key up) (both : AreCompared run keys path places name key up a o b s) where
  value_along : (below : List ℕ) → drop up path ≡ below → (it : IsNamed places (key_of_step keys key) s) → (number : ℕ) → IsKeyNumber b.keys (key_of_step keys key) number
      → ComputesValue run.store (start_of below) number name (label_of keys key) v a o b → IsPathOf run.store.tree (start_of below) below → All (λ c. places c (key_of_step keys key) ≡ true) below
      → EndAlike run places o b (compute_numbered enough name (label_of keys key) below v (number_of_key it.state.keys (key_of_step keys key)) it.state)
  value_along [] same it number has made is_path inside = absurd is_path
  value_along (context ∷ above) same it number has made is_path inside =
      value_alike run places both.view both.tree name (label_of keys key) context above (key_of_step keys key) number is_path (number_stays b.keys run.numbering (key_of_step keys key) number both.lane.keys has) inside
      it.state it.there (subst (λ n. it.state.store.drawn < n) (sym it.numbers) (subst (λ (st : State Place). st.drawn < s.numbers) (sym it.drawn) both.room.numbers)) it.numbered v a b o both.lane both.finds both.alone
      (it.matches run (seen_by a.cells.view) both.matches) made

  pub computes_end_alike : StepComputes run.store (call_of keys path name key up) v a o b → EndAlike run places o b (numbered_by enough name (label_of keys key) (key_of_step keys key) (compute_numbered enough name (label_of keys key) (drop up path) v) s)
  computes_end_alike (inr (why, refused_key, (same, ends))) = absurd (key_found name (label_of keys key) o a b (key_of_step keys key) why both.finds refused_key ends)
  computes_end_alike (inl (number, has, made)) =
      let it : IsNamed places (key_of_step keys key) s = named places (key_of_step keys key) s both.room.keys both.numbered in
      subst (λ (end : StepEnd). EndAlike run places o b end) (sym (it.goes name (label_of keys key) (compute_numbered enough name (label_of keys key) (drop up path) v)))
      (value_along (drop up path) refl it number has made both.path_is within)

pub values_end_alike : WordEndsAlike words.Compute
values_end_alike key text up run keys path places a o b s within both made = computes_end_alike run keys path places (codes "compute") key up (record { text = text; closeable = false }) a o b s within both made

pub closeable_values_end_alike : WordEndsAlike words.ComputeCloseable
closeable_values_end_alike key text up run keys path places a o b s within both made = computes_end_alike run keys path places (codes "compute!") key up (record { text = text; closeable = true }) a o b s within both made
