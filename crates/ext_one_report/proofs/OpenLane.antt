-- A compute on a lane at an open place: where nothing stands above it, the value stands there afterwards, or the kept fault, left by the lane or found; or its factory fails, and nothing is kept.
use Rattle.std.proofs.Common.{◌≡◌, ℕ, ◌+◌, inl, inr, List, [], ◌∷◌, ◌++◌, Contains, take, drop, refl, ap, sym, subst, ◌∙◌, eq-eqb, append_assoc, Option, None, Some}
use Rattle.std.proofs.lemmas.List.Elements.{Contains-append_right}
use Rattle.std.specs.List.{slice_index_or}
use Rattle.std.specs.Prelude.{All, Err, Ok, String, false, if◌then◌else◌, string_bytes, true, ◌==◌}
use Rattle.std.specs.declared.alloc.Global.{Global}
use mathlib.Core.List.{IsPrefix}
use base.Growing.{prefix_trans}
use Rattle.ext_history.specs.Histories.{seen_by}
use Rattle.ext_history.proofs.Composed.{events_past, quiet_point, seen_goes_on}
use Rattle.ext_history.proofs.Lists.{contains_from_filter, contains_here, contains_later}
use Rattle.ext_engine.proofs.Between.{split_at}
use Rattle.ext_model.specs.declared.event.Act.{Act}
use Rattle.ext_model.specs.declared.event.Act.TheVariants.{Keep, Claim, Fail, Fill}
use Rattle.ext_model.specs.declared.event.Event.{Event}
use Rattle.ext_model.specs.declared.look.Fault.TheVariants as faults
use Rattle.ext_model.specs.declared.look.Look.{Look}
use Rattle.ext_model.specs.declared.look.Look.TheVariants as look
use Rattle.ext_model.specs.declared.slot.Slot.{Slot}
use Rattle.ext_model.specs.declared.slot.Slot.TheVariants as slot
use Rattle.ext_model.specs.State.{look_in}
use Rattle.ext_model.specs.History.{History, IsLegal, Limits, by, slots_in, state_after}
use Rattle.ext_model.specs.CallActs.{Calls, LaneView, events_by, look_after}
use Rattle.ext_model.proofs.Lookups.{empty_path}
use Rattle.ext_model.proofs.Words.{slots-push}
use Rattle.ext_tree.specs.Keys.{KeyValue}
use Rattle.ext_tree.specs.Trees.{IsTree, IsPathOf}
use Rattle.ext_tree.proofs.Walks.{one_path}
use Rattle.ext_values.specs.Known.{known_at}
use Rattle.ext_lifecycle.specs.declared.outcome.Outcome.{Outcome}
use Rattle.ext_lifecycle.specs.Endings.{successful}
use Rattle.ext_lifecycle.specs.FaultTexts.{verdict_text}
use Rattle.ext_plan.specs.declared.reason.Reason.TheVariants as reasons
use Rattle.ext_plan.specs.Values.{ValueText}
use Rattle.ext_plan.specs.Verdicts.{SeenText, fail_verdict, seen_fault}
use Rattle.ext_store_core.specs.Claiming as claiming
use Rattle.ext_store_core.specs.Waiting.{VainAttempts}
use Rattle.ext_store_core.specs.declared.fault.Refusal.{Refusal}
use Rattle.ext_store_core.specs.declared.fault.Refusal.TheVariants as refusal
use Rattle.ext_store.specs.declared.fault.KeepFault.{KeepFault}
use Rattle.ext_store.specs.declared.fault.KeepFault.TheVariants as keep_fault
use Rattle.ext_store.specs.declared.computed.Compute.{Compute}
use Rattle.ext_store.specs.declared.computed.Compute.TheVariants as computes
use Rattle.ext_store.specs.Stores.{context_cells}
use Rattle.ext_store.specs.Computing.{Computes, ComputesFrom, Fails, Fills, IsRefused, Meets, Uses, given_up_events}
use Rattle.ext_store.specs.Waiting.{ComputesAfterWaits}
use Rattle.ext_plan_plain.specs.ValueStates.{ValueState}
use Rattle.ext_plan_parallel.specs.declared.steps.stored_value.StoredValue.{StoredValue}
use Rattle.ext_plan_parallel.specs.Saying.{Ends, EndsRefused, EndsUnkept}
use Rattle.ext_plan_parallel.specs.StoreCalls.{ComputesFault, ComputesValue, EndsCompute, EndsComputeFail, PlanLane, Shows, stored_view}
use Rattle.ext_one_report.proofs.StandingsWords.{fault_shown, met}
use Rattle.ext_one_report.proofs.MatchingWords.{HasNumberIn, IsRunView, Matches, Places, RunView, TextMeaning, cell_of, plain_meaning, plain_slot}
use Rattle.ext_one_report.specs.FullRuns.{FindsAll}
use Rattle.ext_one_report.proofs.StepsWords.{IsAlone, IsLaneIn, words_of}
use Rattle.ext_one_report.proofs.Computes.{only_fill}
use Rattle.ext_one_report.proofs.FailComputes.{only_fail}
use Rattle.ext_one_report.proofs.OwnCell.{OnlyAt}
use Rattle.ext_one_report.proofs.Standings.{matched_empty}
use Rattle.ext_one_report.proofs.StepLooks.{has_room, lane_shows, said}
use Rattle.ext_one_report.proofs.Open.{AreOpenBeside, Given, IsEntry, IsFault, MayStand, Means, OnlyComputed, Open, Stands, left_slot, of_fault, of_nothing, of_value}
use Rattle.ext_one_report.proofs.OpenFills.{ComputesOrNot, FillsNothing, nothing_quiet, nothing_then, vain_nothing}
use Rattle.ext_one_report.proofs.OpenPlain.{counted, look_first, own_fault}
use Rattle.ext_one_report.proofs.OwnEvents.{ActsOn, acts_called, acts_given_up, acts_quiet, acts_then, matches_at, near_at, stands_on, vain_acts}

-- ---- what a look-up shows where what is computed may stand

-- it shows a value of the place,
entry_there : (meaning : TextMeaning) (v : Given) (context at number : ℕ) (x : Option Slot) → MayStand meaning v x → look_in context x ≡ look.Found at number → (x ≡ Some (slot.Entry number)) × IsEntry meaning v number
entry_there meaning v context at number None near is = absurd (cc is)
entry_there meaning v context at number (Some (slot.Entry n)) near is = let same : n ≡ number = cc is in (ap (λ k. Some (slot.Entry k)) same, subst (IsEntry meaning v) same near)
entry_there meaning v context at number (Some (slot.Fault n)) near is = absurd (cc is)
entry_there meaning v context at number (Some (slot.Claim lane)) near is = absurd (cc is)
entry_there meaning v context at number (Some (slot.Sealed kept)) near is = absurd near

-- a fault of the place,
fault_there : (meaning : TextMeaning) (v : Given) (context at number : ℕ) (x : Option Slot) → MayStand meaning v x → look_in context x ≡ look.Fault at number → (x ≡ Some (slot.Fault number)) × IsFault meaning v number
fault_there meaning v context at number None near is = absurd (cc is)
fault_there meaning v context at number (Some (slot.Entry n)) near is = absurd (cc is)
fault_there meaning v context at number (Some (slot.Fault n)) near is = let same : n ≡ number = cc is in (ap (λ k. Some (slot.Fault k)) same, subst (IsFault meaning v) same near)
fault_there meaning v context at number (Some (slot.Claim lane)) near is = absurd (cc is)
fault_there meaning v context at number (Some (slot.Sealed kept)) near is = absurd near

-- and no end of the context
not_closed : (meaning : TextMeaning) (v : Given) (context at : ℕ) (x : Option Slot) → MayStand meaning v x → look_in context x ≡ look.Closed at → ⊥
not_closed meaning v context at None near is = cc is
not_closed meaning v context at (Some (slot.Entry n)) near is = cc is
not_closed meaning v context at (Some (slot.Fault n)) near is = cc is
not_closed meaning v context at (Some (slot.Claim lane)) near is = cc is
not_closed meaning v context at (Some (slot.Sealed kept)) near is = near

-- ---- an event of a call

-- a point directly after an event that is among those of a history
pub record EventPoint (h : History) (e : Event ℕ) : Type 0 where
  pub before : History
  pub later : History
  pub is : h ≡ before ++ e ∷ later

event_point : (h : History) (e : Event ℕ) → Contains h e → EventPoint h e
event_point h e there = record { before = take there.0 h; later = drop (there.0 + 1) h; is = split_at h there.0 e there.1 (sym there.2) }

-- what stands in a cell directly after it is filled
fills_cell : (h : History) (lane cell number : ℕ) → (state_after (h ++ by lane (Fill cell number) ∷ [])).slots cell ≡ Some (slot.Entry number)
fills_cell h lane cell number =
    slots-push h (by lane (Fill cell number)) cell ∙ ap (λ b. if b then Some (slot.Entry number) else (state_after h).slots cell) (eq-eqb cell cell refl)

-- or a fault is kept in it
fails_cell : (h : History) (lane cell number : ℕ) → (state_after (h ++ by lane (Fail cell number) ∷ [])).slots cell ≡ Some (slot.Fault number)
fails_cell h lane cell number =
    slots-push h (by lane (Fail cell number)) cell ∙ ap (λ b. if b then Some (slot.Fault number) else (state_after h).slots cell) (eq-eqb cell cell refl)

-- ---- the compute

-- where it is a value the lane fills the cell as it says
abbrev pub FillsAsSaid : Given → ℕ → LaneView → LaneView → Outcome → Type 0
FillsAsSaid (of_value v) cell a b o = ComputesOrNot cell a b o
FillsAsSaid (of_fault text) cell a b o = Unit {0}
FillsAsSaid (of_nothing text) cell a b o = Unit {0}

-- how such a step ends on a lane: what it computes stands there,
pub record LaneEnds (run : RunView) (context number : ℕ) (v : Given) (a : PlanLane) (o : Outcome) (b : PlanLane) : Type 0 where
  pub says : verdict_text o.verdict ≡ successful
  pub counts : o.computed + o.found ≡ counted v
  pub acts : ActsOn (cell_of run number context) a.cells.view b.cells.view
  pub fills : FillsAsSaid v (cell_of run number context) a.cells.view b.cells.view o
  pub stands : Stands run.meaning v (slots_in (cell_of run number) (seen_by b.cells.view) context)

-- or its factory fails and nothing is kept
pub record LaneFails (run : RunView) (context number : ℕ) (a : PlanLane) (o : Outcome) (b : PlanLane) : Type 0 where
  pub says : verdict_text o.verdict ≡ successful
  pub computed : o.computed ≡ 0
  pub found : o.found ≡ 0
  pub acts : ActsOn (cell_of run number context) a.cells.view b.cells.view

-- between two moments the lane makes this event, and has acted on the cell alone; what it computes stands in the end
record StoredThere (run : RunView) (context number : ℕ) (v : Given) (act : Act ℕ) (a b : LaneView) : Type 0 where
  acts : ActsOn (cell_of run number context) a b
  more : History
  is : seen_by b ≡ seen_by a ++ more
  there : Contains more (by a.number act)
  stands : Stands run.meaning v (slots_in (cell_of run number) (seen_by b) context)

-- A point between two moments of a lane that acts on the cell alone, and fills it not: what a look-up shows of the place itself
record Meeting (cell : ℕ) (cell_of_it : ℕ → ℕ) (context : ℕ) (a b : LaneView) (what : Look) : Type 0 where
  acts : ActsOn cell a b
  nothing : FillsNothing a b
  at : History
  since : IsPrefix (seen_by a) at
  until : IsPrefix at (seen_by b)
  shows : look_in context (slots_in cell_of_it at context) ≡ what

module _ (run : RunView) (places : Places) (open_at : Open) (view : IsRunView run) (tree : IsTree run.store.tree) (beside : AreOpenBeside run places open_at) (name label : List ℕ)
    (context : ℕ) (ancestors : List ℕ) (key : KeyValue) (number : ℕ) (is_path : IsPathOf run.store.tree context (context ∷ ancestors)) (has : HasNumberIn run key number)
    (v : Given) (is_open : open_at context key ≡ Some v) (s : ValueState) (none : All (λ c. plain_slot s c key ≡ None) ancestors)
    (a b : PlanLane) (o : Outcome) (lane : IsLaneIn run b) (finds : FindsAll name label o) (alone : IsAlone run places a.cells.view b.cells.view) (computed : OnlyComputed run open_at a.cells.view b.cells.view)
    (legal : IsLegal run.store.id.cells.limits (seen_by b.cells.view)) (matches : Matches run places (seen_by a.cells.view) s)
    (near : MayStand run.meaning v (slots_in (cell_of run number) (seen_by a.cells.view) context)) where
  module _ (acts : ActsOn (cell_of run number context) a.cells.view b.cells.view) (p : History) (since : IsPrefix (seen_by a.cells.view) p) (until : IsPrefix p (seen_by b.cells.view)) where
    -- at no point anything stands above
    none_above : All (λ c. slots_in (cell_of run number) p c ≡ None) ancestors
    none_above = λ i d less.
        let c : ℕ = slice_index_or ancestors i d in
        let here : Matches run places p s =
        matches_at run places view context key number has (beside.apart context key v is_open) a.cells.view b.cells.view alone acts s matches p since until in
        (matched_empty run.meaning (plain_meaning s.values) _ _ (here.slots c key number (beside.above context key v ancestors is_open is_path i d less) has)).1 (none i d less)

    absent_above : look_after (cell_of run number) ancestors p ≡ look.Absent
    absent_above = empty_path (slots_in (cell_of run number) p) ancestors none_above

    looks_first : look_after (cell_of run number) (context ∷ ancestors) p ≡ look_in context (slots_in (cell_of run number) p context)
    looks_first = look_first (slots_in (cell_of run number) p) context ancestors none_above (slots_in (cell_of run number) p context) refl

    near_there : MayStand run.meaning v (slots_in (cell_of run number) p context)
    near_there = near_at run open_at a.cells.view b.cells.view computed context key number v is_open has p since until near

    stands_then : Stands run.meaning v (slots_in (cell_of run number) p context) → Stands run.meaning v (slots_in (cell_of run number) (seen_by b.cells.view) context)
    stands_then = stands_on run open_at a.cells.view b.cells.view computed context key number v is_open has p since until run.store.id.cells.limits legal

  module _ (limits : Limits) (attempts : ℕ) (mid : LaneView) (in_vain : VainAttempts (claiming.ClaimsMissing (context_cells run.store) context number) attempts a.cells.view mid) where
    vain : ActsOn (cell_of run number context) a.cells.view mid
    vain = vain_acts run.store context number attempts a.cells.view mid in_vain

    -- what a compute meets it meets at the place itself
    meeting : (what : Look) → (look.Absent ≡ what → ⊥) → Meets limits run.store context ancestors number mid b.cells.view what → Meeting (cell_of run number context) (cell_of run number) context a.cells.view b.cells.view what
    unfolding claiming.Meets
    meeting what some (inl holds) =
        let acts = acts_then (cell_of run number context) a.cells.view mid b.cells.view vain (acts_quiet (cell_of run number context) limits mid b.cells.view holds.calls) in
        let nothing = nothing_then a.cells.view mid b.cells.view (vain_nothing run.store context number attempts a.cells.view mid in_vain) (nothing_quiet limits mid b.cells.view holds.calls) in
        let p : History = holds.point.0 in
        let at = quiet_point holds.calls p holds.point.1 in
        let since : IsPrefix (seen_by a.cells.view) p = prefix_trans (seen_by a.cells.view) (seen_by mid) p vain.goes at.since in
        record { acts = acts; nothing = nothing; at = p; since = since; until = at.until; shows = sym (looks_first acts p since at.until) ∙ holds.point.2 }
    meeting what some (inr given_up) =
        let acts = acts_then (cell_of run number context) a.cells.view mid b.cells.view vain (acts_given_up run.store context number limits mid b.cells.view given_up.0) in
        let looked = given_up.1.looked in
        let since : IsPrefix (seen_by a.cells.view) looked.0 = prefix_trans (seen_by a.cells.view) (seen_by mid) looked.0 vain.goes looked.1.since in
        absurd (some (sym (absent_above acts looked.0 since looked.1.until) ∙ looked.2))

    -- what it stores in the cell under its claim
    stored_there : (n : ℕ) (act : Act ℕ) → Calls limits mid b.cells.view (Claim (cell_of run number context) ∷ Keep n ∷ act ∷ [])
        → OnlyAt (cell_of run number context) (events_by mid.number (Claim (cell_of run number context) ∷ Keep n ∷ act ∷ []))
        → ((h : History) → (state_after (h ++ by mid.number act ∷ [])).slots (cell_of run number context) ≡ Some (left_slot v n)) → Means run.meaning v n → StoredThere run context number v act a.cells.view b.cells.view
    stored_there n act calls only leaves known =
        let cell_is : ℕ = cell_of run number context in
        let acts : ActsOn cell_is a.cells.view b.cells.view =
        acts_then cell_is a.cells.view mid b.cells.view vain (acts_called cell_is limits mid b.cells.view (Claim cell_is ∷ Keep n ∷ act ∷ []) calls only) in
        let last : Event ℕ = by mid.number act in
        let claim : Event ℕ = by mid.number (Claim cell_is) in
        let keep : Event ℕ = by mid.number (Keep n) in
        let goes = seen_goes_on calls in
        let mine : Contains (claim ∷ keep ∷ last ∷ []) last = contains_later claim (keep ∷ last ∷ []) last (contains_later keep (last ∷ []) last (contains_here last [])) in
        let among : Contains goes.0 last = contains_from_filter (λ (e : Event ℕ). e.lane == mid.number) goes.0 last (subst (λ l. Contains l last) (sym (events_past calls)) mine) in
        let seen : seen_by b.cells.view ≡ seen_by a.cells.view ++ (vain.goes.0 ++ goes.0) =
        sym goes.1 ∙ (ap (λ l. l ++ goes.0) (sym vain.goes.1) ∙ append_assoc (seen_by a.cells.view) vain.goes.0 goes.0) in
        let there : Contains (vain.goes.0 ++ goes.0) (by a.cells.view.number act) =
        subst (λ lane. Contains (vain.goes.0 ++ goes.0) (by lane act)) vain.number (Contains-append_right vain.goes.0 goes.0 last among) in
        let cut : EventPoint goes.0 last = event_point goes.0 last among in
        let before : History = seen_by mid ++ cut.before in
        let p : History = before ++ last ∷ [] in
        let all : p ++ cut.later ≡ seen_by b.cells.view =
        append_assoc before (last ∷ []) cut.later ∙ (append_assoc (seen_by mid) cut.before (last ∷ cut.later) ∙ (ap (λ l. seen_by mid ++ l) (sym cut.is) ∙ goes.1)) in
        let since : IsPrefix (seen_by a.cells.view) p = prefix_trans (seen_by a.cells.view) (seen_by mid) p vain.goes (cut.before ++ last ∷ [], sym (append_assoc (seen_by mid) cut.before (last ∷ []))) in
        record {
          acts = acts;
          more = vain.goes.0 ++ goes.0;
          is = seen;
          there = there;
          stands = stands_then acts p since (cut.later, all) (record { number = n; there = leaves before; means = known });
        }

    -- what a look-up met
    entry_met : (at n : ℕ) (m : Meeting (cell_of run number context) (cell_of run number) context a.cells.view b.cells.view (look.Found at n))
        → (slots_in (cell_of run number) m.at context ≡ Some (slot.Entry n)) × IsEntry run.meaning v n
    entry_met at n m = entry_there run.meaning v context at n (slots_in (cell_of run number) m.at context) (near_there m.acts m.at m.since m.until) m.shows

    fault_met : (at n : ℕ) (m : Meeting (cell_of run number context) (cell_of run number) context a.cells.view b.cells.view (look.Fault at n))
        → (slots_in (cell_of run number) m.at context ≡ Some (slot.Fault n)) × IsFault run.meaning v n
    fault_met at n m = fault_there run.meaning v context at n (slots_in (cell_of run number) m.at context) (near_there m.acts m.at m.since m.until) m.shows

    refused_there : (why : Refusal) → IsRefused limits run.store context ancestors number mid b.cells.view why → EndsRefused name label why o → ⊥
    unfolding claiming.IsRefused
    refused_there (refusal.Busy at) is ends = ends
    refused_there (refusal.Closed at) is ends =
        let m = meeting (look.Closed at) (λ same. cc same) is in
        not_closed run.meaning v context at (slots_in (cell_of run number) m.at context) (near_there m.acts m.at m.since m.until) m.shows
    refused_there refusal.Contended is ends = ends
    refused_there refusal.Exhausted is ends = has_room name label reasons.Exhausted o tt finds ends
    refused_there refusal.DirectoryFull is ends = has_room name label reasons.DirectoryFull o tt finds ends
    refused_there refusal.Unplaced is ends = ends
    refused_there refusal.Memory is ends = finds.memory ends.0

    unkept_there : (why : KeepFault) → EndsUnkept name label why o → ⊥
    unkept_there keep_fault.Memory ends = finds.memory ends.0
    unkept_there keep_fault.NumbersFull ends = has_room name label reasons.NumbersFull o tt finds ends
    unkept_there keep_fault.Contended ends = ends
    unkept_there keep_fault.Unplaced ends = has_room name label reasons.Unplaced o tt finds ends

    -- ---- of a value

    module _ (w : ValueText) (v_is : v ≡ of_value w) where
      -- that was computed
      computed_there : (n : ℕ) → Fills limits (Claim (cell_of run number context) ∷ []) (cell_of run number context) mid b.cells.view n → run.meaning.values n ≡ Some w → Ends successful 1 0 o → LaneEnds run context number v a o b
      computed_there n fills known ends =
          let cell_is : ℕ = cell_of run number context in
          let stored = stored_there n (Fill cell_is n) fills.calls (only_fill cell_is mid.number n) (λ h. fills_cell h mid.number cell_is n ∙ ap (λ g. Some (left_slot g n)) (sym v_is)) (subst (λ g. Means run.meaning g n) (sym v_is) known) in
          record {
            says = said successful o.verdict finds.memory ends.says;
            counts = ap (λ k. k + o.found) ends.computed_are ∙ (ap (λ k. 1 + k) ends.found_are ∙ ap counted (sym v_is));
            acts = stored.acts;
            fills = subst (λ g. FillsAsSaid g cell_is a.cells.view b.cells.view o) (sym v_is) (inl (ends.computed_are, record { more = stored.more; is = stored.is; value = n; there = stored.there }));
            stands = stored.stands;
          }

      -- that was found
      found_there : (at n : ℕ) → Meets limits run.store context ancestors number mid b.cells.view (look.Found at n) → Ends successful 0 1 o → LaneEnds run context number v a o b
      found_there at n meets ends =
          let m = meeting (look.Found at n) (λ is. cc is) meets in
          let it = entry_met at n m in
          record {
            says = said successful o.verdict finds.memory ends.says;
            counts = ap (λ k. k + o.found) ends.computed_are ∙ (ap (λ k. 0 + k) ends.found_are ∙ ap counted (sym v_is));
            acts = m.acts;
            fills = subst (λ g. FillsAsSaid g (cell_of run number context) a.cells.view b.cells.view o) (sym v_is) (inr (ends.computed_are, m.nothing));
            stands = stands_then m.acts m.at m.since m.until
                (record { number = n; there = it.0 ∙ ap (λ g. Some (left_slot g n)) (sym v_is); means = subst (λ g. Means run.meaning g n) (sym v_is) (subst (λ g. IsEntry run.meaning g n) v_is it.1) });
          }

      no_fault_there : (at n : ℕ) → Meets limits run.store context ancestors number mid b.cells.view (look.Fault at n) → ⊥
      no_fault_there at n meets = subst (λ g. IsFault run.meaning g n) v_is (fault_met at n (meeting (look.Fault at n) (λ is. cc is) meets)).1

      value_result : (given : StoredValue) → stored_view given ≡ w → (result : Compute StoredValue (Unit {0})) → ComputesFrom limits run.store context ancestors number mid b.cells.view result → (between : PlanLane)
          → Uses (λ answer. answer ≡ Ok given) a between result → EndsCompute name label result between o b → LaneEnds run context number v a o b
      unfolding ComputesFrom
      value_result given is (computes.Computed n) from between uses ends =
          let known : known_at b.known n ≡ Some uses.0 = ap (λ (l : PlanLane). known_at l.known n) ends.0 ∙ uses.2.learnt in
          let one : uses.0 ≡ given = cc uses.1 in
          computed_there n from.1 (lane.values n uses.0 known ∙ ap Some (ap stored_view one ∙ is)) ends.1
      value_result given is (computes.Found at n unused) from between uses ends = found_there at n from ends.1
      value_result given is (computes.Failed why) from between uses ends = absurd ends
      value_result given is (computes.FaultKept n) from between uses ends = absurd ends
      value_result given is (computes.FaultUnkept why cause) from between uses ends = absurd ends
      value_result given is (computes.FaultStands at n unused) from between uses ends = absurd (no_fault_there at n from)
      value_result given is (computes.Unkept other cause) from between uses ends = absurd (unkept_there cause ends.1)
      value_result given is (computes.Refused why unused) from between uses ends = absurd (refused_there why from ends.1)

    -- ---- of a fault that is kept

    module _ (text : List ℕ) (v_is : v ≡ of_fault text) where
      -- by this lane,
      kept_there : (n : ℕ) → Fails limits (Claim (cell_of run number context) ∷ []) (cell_of run number context) mid b.cells.view n → run.meaning.faults n ≡ Some text → Ends successful 0 0 o → LaneEnds run context number v a o b
      kept_there n fails known ends =
          let cell_is : ℕ = cell_of run number context in
          let stored = stored_there n (Fail cell_is n) fails.calls (only_fail cell_is mid.number n) (λ h. fails_cell h mid.number cell_is n ∙ ap (λ g. Some (left_slot g n)) (sym v_is)) (subst (λ g. Means run.meaning g n) (sym v_is) known) in
          record {
            says = said successful o.verdict finds.memory ends.says;
            counts = ap (λ k. k + o.found) ends.computed_are ∙ (ap (λ k. 0 + k) ends.found_are ∙ ap counted (sym v_is));
            acts = stored.acts;
            fills = subst (λ g. FillsAsSaid g cell_is a.cells.view b.cells.view o) (sym v_is) tt;
            stands = stored.stands;
          }

      -- or by one before it
      met_there : (at n : ℕ) (between : PlanLane) (seen : SeenText) → Meets limits run.store context ancestors number mid b.cells.view (look.Fault at n) → Shows (look.Fault at n) between seen b → Ends (fail_verdict name label text seen) 0 0 o
          → LaneEnds run context number v a o b
      met_there at n between seen meets shows ends =
          let m = meeting (look.Fault at n) (λ is. cc is) meets in
          let it = fault_met at n m in
          let means : run.meaning.faults n ≡ Some text = subst (λ g. IsFault run.meaning g n) v_is it.1 in
          let seen_is : seen ≡ seen_fault text = elim (lane_shows run between b (look.Fault at n) seen (met at text) lane (ap (fault_shown at) means) shows) [
            | inl is ↦ is
            | inr hidden ↦ absurd (has_room name label reasons.NotShown o tt finds (subst (λ s. Ends (fail_verdict name label text s) 0 0 o) hidden ends))
          ] in
          record {
            says = said (fail_verdict name label text seen) o.verdict finds.memory ends.says ∙ (ap (fail_verdict name label text) seen_is ∙ own_fault name label text);
            counts = ap (λ k. k + o.found) ends.computed_are ∙ (ap (λ k. 0 + k) ends.found_are ∙ ap counted (sym v_is));
            acts = m.acts;
            fills = subst (λ g. FillsAsSaid g (cell_of run number context) a.cells.view b.cells.view o) (sym v_is) tt;
            stands = stands_then m.acts m.at m.since m.until (record { number = n; there = it.0 ∙ ap (λ g. Some (left_slot g n)) (sym v_is); means = subst (λ g. Means run.meaning g n) (sym v_is) means });
          }

      fault_result : limits.keep_faults ≡ true → (message : String Global) → string_bytes message ≡ text → (result : Compute StoredValue (Unit {0})) → ComputesFrom limits run.store context ancestors number mid b.cells.view result
          → (between : PlanLane) → Uses (λ answer. answer ≡ Err (faults.Text message)) a between result → EndsComputeFail name label text result between o b → LaneEnds run context number v a o b
      unfolding ComputesFrom
      fault_result keeps message is (computes.Computed n) from between uses ends = absurd ends
      fault_result keeps message is (computes.Found at n unused) from between uses ends = absurd (subst (λ g. IsEntry run.meaning g n) v_is (entry_met at n (meeting (look.Found at n) (λ same. cc same) from)).1)
      fault_result keeps message is (computes.Failed why) from between uses ends = absurd (cc (sym keeps ∙ from.0))
      fault_result keeps message is (computes.FaultKept n) from between uses ends =
          let known : known_at b.faults n ≡ Some uses.0 = ap (λ (l : PlanLane). known_at l.faults n) ends.0 ∙ uses.3.learnt in
          let one : uses.0 ≡ faults.Text message = cc uses.1 in
          kept_there n from.2 (lane.faults n uses.0 known ∙ (ap words_of one ∙ ap Some is)) ends.1
      fault_result keeps message is (computes.FaultUnkept why cause) from between uses ends = absurd (unkept_there cause ends.1)
      fault_result keeps message is (computes.FaultStands at n unused) from between uses ends = met_there at n between ends.1 from (ends.0, ends.2) ends.3
      fault_result keeps message is (computes.Unkept other cause) from between uses ends = absurd ends
      fault_result keeps message is (computes.Refused why unused) from between uses ends = absurd (refused_there why from ends.1)

    -- ---- of a fault that is not kept

    module _ (text : List ℕ) (v_is : v ≡ of_nothing text) where
      given_back : Calls limits mid b.cells.view (given_up_events run.store context number) → Ends successful 0 0 o → LaneFails run context number a o b
      given_back calls ends = record {
        says = said successful o.verdict finds.memory ends.says;
        computed = ends.computed_are;
        found = ends.found_are;
        acts = acts_then (cell_of run number context) a.cells.view mid b.cells.view vain (acts_given_up run.store context number limits mid b.cells.view calls);
      }

      nothing_result : limits.keep_faults ≡ false → (result : Compute StoredValue (Unit {0})) → ComputesFrom limits run.store context ancestors number mid b.cells.view result → (between : PlanLane)
          → EndsComputeFail name label text result between o b → LaneFails run context number a o b
      unfolding ComputesFrom
      nothing_result keeps (computes.Computed n) from between ends = absurd ends
      nothing_result keeps (computes.Found at n unused) from between ends = absurd (subst (λ g. IsEntry run.meaning g n) v_is (entry_met at n (meeting (look.Found at n) (λ same. cc same) from)).1)
      nothing_result keeps (computes.Failed why) from between ends = given_back from.2 ends.1
      nothing_result keeps (computes.FaultKept n) from between ends = absurd (cc (sym keeps ∙ from.0))
      nothing_result keeps (computes.FaultUnkept why cause) from between ends = absurd (unkept_there cause ends.1)
      nothing_result keeps (computes.FaultStands at n unused) from between ends = absurd (subst (λ g. IsFault run.meaning g n) v_is (fault_met at n (meeting (look.Fault at n) (λ same. cc same) from)).1)
      nothing_result keeps (computes.Unkept other cause) from between ends = absurd ends
      nothing_result keeps (computes.Refused why unused) from between ends = absurd (refused_there why from ends.1)

  -- ---- along its path

  above_is : (above : List ℕ) → IsPathOf run.store.tree context (context ∷ above) → above ≡ ancestors
  above_is above its_path = let paths : context ∷ above ≡ context ∷ ancestors = one_path run.store.tree tree context (context ∷ above) (context ∷ ancestors) its_path is_path in cc paths

  -- a value is computed there,
  pub lane_ends : (w : ValueText) → v ≡ of_value w → ComputesValue run.store context number name label w a o b → LaneEnds run context number v a o b
  unfolding ComputesAfterWaits Computes
  lane_ends w v_is made =
      let waits = made.computed in
      let last_is = waits.then_is in
      value_result a.cells.cells.limits waits.attempts waits.between waits.in_vain w v_is made.given made.value_is made.result
      (subst (λ u. ComputesFrom a.cells.cells.limits run.store context u number waits.between b.cells.view made.result) (above_is last_is.0 last_is.1) last_is.2) made.between made.uses made.ends

  -- a fault that is kept,
  pub lane_faults : (text : List ℕ) → v ≡ of_fault text → a.cells.cells.limits.keep_faults ≡ true → ComputesFault run.store context number name label text a o b → LaneEnds run context number v a o b
  unfolding ComputesAfterWaits Computes
  lane_faults text v_is keeps made =
      let waits = made.computed in
      let last_is = waits.then_is in
      fault_result a.cells.cells.limits waits.attempts waits.between waits.in_vain text v_is keeps made.message made.message_is made.result
      (subst (λ u. ComputesFrom a.cells.cells.limits run.store context u number waits.between b.cells.view made.result) (above_is last_is.0 last_is.1) last_is.2) made.between made.uses made.ends

  -- or a fault that is not
  pub lane_fails : (text : List ℕ) → v ≡ of_nothing text → a.cells.cells.limits.keep_faults ≡ false → ComputesFault run.store context number name label text a o b → LaneFails run context number a o b
  unfolding ComputesAfterWaits Computes
  lane_fails text v_is keeps made =
      let waits = made.computed in
      let last_is = waits.then_is in
      nothing_result a.cells.cells.limits waits.attempts waits.between waits.in_vain text v_is keeps made.result
      (subst (λ u. ComputesFrom a.cells.cells.limits run.store context u number waits.between b.cells.view made.result) (above_is last_is.0 last_is.1) last_is.2) made.between made.ends
