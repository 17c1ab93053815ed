-- In a run of a plan on several lanes a step that sees a value or a kept fault sees one that a step of the plan keeps under that key.
use Rattle.std.proofs.Common.{◌≡◌, inl, inr, ℕ, zero, suc, ◌+◌, ◌%◌, ◌==◌, ◌<◌, ◌≤◌, true, false, List, [], ◌∷◌, Contains, Option, Some, length, get_or, map, refl, ap, sym, subst, ◌∙◌, arith, eq-eqb}
use Rattle.std.specs.Prelude.{All, AllPairs, IfSome, IsTrue, Ok}
use Rattle.std.specs.List.{AllZip}
use mathlib.Core.List.{IsPrefix}
use base.Growing.{prefix_trans}
use Rattle.std.proofs.lemmas.List.Elements.{All-nil, All-cons, All-head, All-tail, All-contains, Contains-append_left, Contains-get_or}
use Rattle.std.proofs.lemmas.Nat.{mod-mul-add}
use Rattle.std.proofs.lemmas.Bool.Decides.{nat_tests}
use Rattle.ext_history.specs.Histories.{last_after, seen_by}
use Rattle.ext_history.proofs.Legal.{legal_begun, legal_each}
use Rattle.ext_history.proofs.Lists.{bools, contains_cons, contains_filter, contains_filter_map, contains_here, contains_later, contains_none}
use Rattle.ext_history.proofs.Once.{contains-map}
use Rattle.ext_model.specs.declared.event.Act.{Act}
use Rattle.ext_model.specs.declared.event.Act.TheVariants.{Keep, Put, Remove, Claim, Fill, Fail, Abandon, Seal}
use Rattle.ext_model.specs.declared.event.Event.{Event}
use Rattle.ext_model.specs.declared.look.Fault.{Fault}
use Rattle.ext_model.specs.declared.look.Fault.TheVariants as faults
use Rattle.ext_model.specs.declared.look.Look.{Look}
use Rattle.ext_model.specs.declared.look.Look.TheVariants as look
use Rattle.ext_model.specs.declared.slot.Slot.{Slot}
use Rattle.ext_model.specs.declared.slot.Slot.TheVariants as slot
use Rattle.ext_model.specs.CallActs.{look_after, LaneView}
use Rattle.ext_model.specs.History.{History, Limits, IsAllowed, fault_number, lane_of, own, state_after}
use Rattle.ext_lifecycle.specs.declared.call.Call.{Call}
use Rattle.ext_lifecycle.specs.declared.outcome.Outcome.{Outcome}
use Rattle.ext_lifecycle.specs.Endings.{is_successful}
use Rattle.ext_lifecycle.specs.FaultTexts.{VerdictText}
use Rattle.ext_lifecycle.specs.Lifecycle.{ending_of}
use Rattle.ext_lifecycle.specs.Results.{ResultOf}
use Rattle.ext_locks.specs.Sets.{HeldView}
use Rattle.ext_tree.specs.Keys.{KeyValue, IsKeyNumber, KeepsKeys, OneKey, OneNumber, key_at}
use Rattle.ext_tree.proofs.KeyPlaceLaws.{shared_notes_agree}
use Rattle.ext_plan.specs.Values.{ValueText}
use Rattle.ext_plan.specs.declared.word.Word.{Word}
use Rattle.ext_plan.specs.declared.word.Word.TheVariants as words
use Rattle.ext_plan.specs.Plans.{PlanText, StepText, keyed, fail, abort}
use Rattle.ext_plan.specs.StepWords.{word_text}
use Rattle.ext_plan.specs.PlanCalls.{steps_of_call}
use Rattle.ext_values.specs.Known.{Known, AllAgree, known_at}
use Rattle.ext_cells.specs.Lanes.{CellsId, Lane, fresh_lanes}
use Rattle.ext_store.specs.Stores.{StoreView, IsLaneOf, cell_in, fresh_store_lane}
use Rattle.ext_store.specs.declared.computed.Compute.{Compute}
use Rattle.ext_store.specs.declared.computed.Compute.TheVariants as computes
use Rattle.ext_store.specs.LaneCalls.{Gets}
use Rattle.ext_store.specs.Computing.{Computes, ComputesFrom, Meets}
use Rattle.ext_store.specs.Waiting.{ComputesAfterWaits}
use Rattle.ext_store_core.specs.ContextCalls as store_core
use Rattle.ext_store_core.specs.Claiming as claiming
use Rattle.ext_plan.specs.StepCalls.{CallText, call_of, start_of}
use Rattle.ext_plan.specs.Verdicts.{SeenText, none_verdict, want_verdict}
use Rattle.ext_plan_parallel.specs.declared.steps.stored_value.StoredValue.{StoredValue}
use Rattle.ext_plan_parallel.specs.StoreCalls.{EndsCompute, EndsComputeFail, PlanLane, PlanNotes, Shows, ShowsFault, ShowsNumber, fault_seen, stored_view}
use Rattle.ext_plan_parallel.specs.StoreSteps.{StepComputes, StepDoes, StepFails, StepLooks, StepRun, StepsRun}
use Rattle.ext_engine.specs.Order.{LaneGoesOn}
use Rattle.ext_engine.proofs.Finer.{tree_finer}
use Rattle.ext_engine.proofs.Going.{goes_met, goes_same, goes_sealed, goes_then}
use Rattle.ext_engine.proofs.Relates.{tree_relates}
use Rattle.ext_plan_parallel.specs.Finding.{CallFinds, ComputeFinds, IsFaultOfPlan, IsKeptByPlan, IsMetOfPlan, IsSeenOfPlan, LanesNumberAlike, LookFinds, RunsFindWhatIsKept, StepFinds, StepsFind, ValueFinds, WordFinds}
use Rattle.ext_plan_parallel.specs.Opened.{all_faults, all_known}
use Rattle.ext_plan_parallel.specs.ParallelRun.{MakesCall, ParallelRun, setting_of_plan}
use Rattle.ext_plan_parallel.proofs.Moves.{IsKnownOwn, IsOwn, Moves, OwnKept, call_moves, lane_framed, moves_met, moves_same, moves_sealed, moves_then, number_within, plans_go_on, steps_go}
use Rattle.ext_plan_parallel.proofs.Values.{IsNumber, Stored, found_stands, met_stands, slot_stored, was_stored}

-- ---- what two lanes know of one number

module _ {X : Type 0} where
  agree_rest : (first : List (Known X)) (rest : List (List (Known X))) → AllPairs AllAgree (first ∷ rest) → All (AllAgree first) rest
  agree_rest first rest pairs = λ i d less. pairs 0 (suc i) d (omega arith) (omega (arith, less))

  agree_later : (first : List (Known X)) (rest : List (List (Known X))) → AllPairs AllAgree (first ∷ rest) → AllPairs AllAgree rest
  agree_later first rest pairs = λ i j d less within. pairs (suc i) (suc j) d (omega (arith, less)) (omega (arith, within))

  agree_of : (notes : List (List (Known X))) → AllPairs AllAgree notes → (a b : List (Known X)) → Contains notes a → Contains notes b → (number : ℕ) (v w : X) → known_at a number ≡ Some v → known_at b number ≡ Some w → v ≡ w
  agree_of [] pairs a b in_a in_b number v w is_v is_w = absurd (contains_none a in_a)
  agree_of (n ∷ notes) pairs a b in_a in_b number v w is_v is_w = elim (contains_cons n notes a in_a) [
    | inl here ↦ elim (contains_cons n notes b in_b) [
      | inl also ↦
          let x : known_at n number ≡ Some v = ap (λ (l : List (Known X)). known_at l number) here ∙ is_v in
          let y : known_at n number ≡ Some w = ap (λ (l : List (Known X)). known_at l number) also ∙ is_w in
          let z : Some v ≡ Some w = sym x ∙ y in
          cc z
      | inr later ↦ (All-contains (AllAgree n) notes b (agree_rest n notes pairs) later) number v w (ap (λ (l : List (Known X)). known_at l number) here ∙ is_v) is_w
    ]
    | inr later ↦ elim (contains_cons n notes b in_b) [
      | inl here ↦ sym ((All-contains (AllAgree n) notes a (agree_rest n notes pairs) later) number w v (ap (λ (l : List (Known X)). known_at l number) here ∙ is_w) is_v)
      | inr also ↦ agree_of notes (agree_later n notes pairs) a b later also number v w is_v is_w
    ]
  ]

-- ---- parts of the one history

last_part : (h x : History) (fronts : List History) → IsPrefix x h → All (λ front. IsPrefix front h) fronts → IsPrefix (last_after x fronts) h
last_part h x [] within all = within
last_part h x (front ∷ fronts) within all = last_part h front fronts (All-head (λ f. IsPrefix f h) front fronts all) (All-tail (λ f. IsPrefix f h) front fronts all)

seen_part : (h : History) (lane : PlanLane) → All (λ front. IsPrefix front h) lane.cells.view.fronts → IsPrefix (seen_by lane.cells.view) h
seen_part h lane all = last_part h [] lane.cells.view.fronts (h, refl) all

-- ---- the lanes of a run

module _ (plan : PlanText) (store : StoreView) (cells : CellsId) (slots fault_slots keys : List ℕ) where
  abbrev Fresh : ℕ → ℕ → List PlanLane
  Fresh first n = map (fresh_store_lane slots fault_slots keys) (fresh_lanes cells first n)

  fresh_kept : (first n : ℕ) → All (OwnKept plan store) (Fresh first n)
  fresh_kept first zero = All-nil (OwnKept plan store)
  fresh_kept first (suc n) = All-cons (OwnKept plan store) _ (Fresh (first + 1) n) (λ cell s there. absurd (contains_none {A = Stored} (cell, s) there)) (fresh_kept (first + 1) n)

  all_keep : (xs ys : List PlanLane) → AllZip (Moves plan store) xs ys → All (OwnKept plan store) xs → All (OwnKept plan store) ys
  all_keep [] [] moves all = All-nil (OwnKept plan store)
  all_keep [] (b ∷ ys) moves all = absurd moves
  all_keep (a ∷ xs) [] moves all = absurd moves
  all_keep (a ∷ xs) (b ∷ ys) moves all =
      All-cons (OwnKept plan store) b ys (moves.0.keeps (All-head (OwnKept plan store) a xs all)) (all_keep xs ys moves.1 (All-tail (OwnKept plan store) a xs all))

  -- there is a lane of each number
  numbered : (first n : ℕ) (ys : List PlanLane) → AllZip (Moves plan store) (Fresh first n) ys → (j : ℕ) → first ≤ j → j < first + n → (lane : PlanLane) × Contains ys lane × (lane.cells.view.number ≡ j)
  numbered first zero ys moves j low high = absurd (omega (arith, low, high))
  numbered first (suc n) [] moves j low high = absurd moves
  numbered first (suc n) (y ∷ ys) moves j low high = elim (bools (first == j)) [
    | inl here ↦ (y, contains_here y ys, moves.0.goes.number ∙ eqb-eq first j here)
    | inr off ↦
        let r = numbered (first + 1) n ys moves.1 j (past first j low off) (omega (arith, high)) in
        (r.0, contains_later y ys r.0 r.1, r.2)
  ]
    where
      eqb-eq : (a b : ℕ) → (a == b) ≡ true → a ≡ b
      eqb-eq a b is = grind (arith, nat_tests)

      past : (a b : ℕ) → a ≤ b → (a == b) ≡ false → a + 1 ≤ b
      past a b low is = grind (arith, nat_tests)

-- ---- a run

module _ (plan : PlanText) (lanes : ℕ) (results : List (ResultOf Fault)) (run : ParallelRun plan lanes results) where
  abbrev store : StoreView
  store = run.store

  abbrev ended : List PlanLane
  ended = run.after.first

  abbrev h : History
  h = run.shared.history

  moved : AllZip (Moves plan store) run.first.first ended
  moved =
      tree_relates (setting_of_plan plan store run.locks) (Moves plan store) (moves_same plan store)
      (moves_then plan store) (call_moves plan store) (moves_met plan store) (moves_sealed plan store) 16 0 run.first run.ran run.after run.run

  from_fresh : AllZip (Moves plan store) (Fresh plan store store.id.cells store.id.slots store.id.fault_slots store.id.keys 0 lanes) ended
  from_fresh = subst (λ (l : List PlanLane). AllZip (Moves plan store) l ended) run.fresh moved

  all_own : All (OwnKept plan store) ended
  all_own = all_keep plan store store.id.cells store.id.slots store.id.fault_slots store.id.keys _ ended from_fresh (fresh_kept plan store store.id.cells store.id.slots store.id.fault_slots store.id.keys 0 lanes)

  part_of : (lane : PlanLane) → Contains ended lane → IsPrefix (seen_by lane.cells.view) h
  part_of lane there = seen_part h lane (All-contains (λ (l : PlanLane). All (λ front. IsPrefix front h) l.cells.view.fronts) ended lane run.shared.parts there)

  -- the lane goes on to one of the lanes at the end
  record Leads (lane : PlanLane) : Type 0 where
    pub last : PlanLane
    pub among : Contains ended last
    pub goes : LaneGoesOn lane last

  leads_back : (a b : PlanLane) → LaneGoesOn a b → Leads b → Leads a
  leads_back a b go leads = record { last = leads.last; among = leads.among; goes = goes_then a b leads.last go leads.goes }

  -- the lane that made an event of the history knows what it stored
  storer : (e : Event ℕ) (cell : ℕ) (s : Slot) → Contains h e → slot_stored e.act ≡ Some (cell, s) → (lane : PlanLane) × Contains ended lane × IsOwn plan store lane cell s
  storer e cell s there stores =
      let below : e.lane < store.id.cells.limits.lanes = legal_each (IsAllowed store.id.cells.limits) (λ (x : Event ℕ). x.lane < store.id.cells.limits.lanes) (λ before x allowed. allowed.lane) h run.shared.legal e there in
      let few : store.id.cells.limits.lanes ≡ lanes = ap (λ (l : Limits). l.lanes) run.store_is.limits in
      let r = numbered plan store store.id.cells store.id.slots store.id.fault_slots store.id.keys 0 lanes ended from_fresh e.lane (omega arith) (omega (arith, below, few)) in
      let n = r.0.cells.view.number in
      let mine : Contains (own n h) e = contains_filter (λ (x : Event ℕ). lane_of x == n) h e (eq-eqb e.lane n (sym r.2)) there in
      let seen = subst (λ (l : History). Contains l e) (All-contains (λ (l : PlanLane). own l.cells.view.number h ≡ own l.cells.view.number (seen_by l.cells.view)) ended r.0 run.shared.own_events r.1) mine in
      (r.0, r.1, All-contains (OwnKept plan store) ended r.0 all_own r.1 cell s (contains_filter_map (λ (x : Event ℕ). slot_stored x.act) (own n (seen_by r.0.cells.view)) e (cell, s) stores seen))

  -- ---- a look-up

  same_key : (context other key second : ℕ) → key < length store.id.keys → second < length store.id.keys → cell_in store key context ≡ cell_in store second other → key ≡ second
  same_key context other key second low high same =
      sym (mod-mul-add context (length store.id.keys) key low) ∙ (ap (λ n. n % length store.id.keys) same ∙ mod-mul-add other (length store.id.keys) second high)

  -- all lanes number alike
  pub alike : (lane other : PlanLane) → Contains ended lane → Contains ended other → OneNumber lane.keys other.keys × OneKey lane.keys other.keys
  alike lane other there also =
      let numbering = run.numbered.numbering in
      shared_notes_agree lane.keys other.keys numbering (All-contains (λ (l : PlanLane). KeepsKeys l.keys numbering) ended lane run.numbered.parts there)
      (All-contains (λ (l : PlanLane). KeepsKeys l.keys numbering) ended other run.numbered.parts also)

  no_value : (at n cell number : ℕ) → ◌≡◌ {A = Option Stored} (Some (at, slot.Entry n)) (Some (cell, slot.Fault number)) → ⊥
  no_value at n cell number is =
      let both : ◌≡◌ {A = Stored} (at, slot.Entry n) (cell, slot.Fault number) = cc is in
      let e : slot.Entry n ≡ slot.Fault number = ap (λ (x : Stored). x.1) both in
      absurd (cc e)

  -- an act that stores a fault is made in a store that keeps faults
  fault_keeps : (act : Act ℕ) (cell number : ℕ) → slot_stored act ≡ Some (cell, slot.Fault number) → IfSome (fault_number act) (λ number. IsTrue store.id.cells.limits.keep_faults) → IsTrue plan.keep_faults
  fault_keeps (Keep n) cell number is keeps = absurd (cc is)
  fault_keeps (Put at n) cell number is keeps = absurd (no_value at n cell number is)
  fault_keeps (Remove at) cell number is keeps = absurd (cc is)
  fault_keeps (Claim at) cell number is keeps = absurd (cc is)
  fault_keeps (Fill at n) cell number is keeps = absurd (no_value at n cell number is)
  fault_keeps (Fail at n) cell number is keeps = subst IsTrue (ap (λ (l : Limits). l.keep_faults) run.store_is.limits) keeps
  fault_keeps (Abandon at) cell number is keeps = absurd (cc is)
  fault_keeps (Seal at) cell number is keeps = absurd (cc is)

  -- what a look-up finds at a point that the lane has seen
  module _ (key : ℕ) (name : KeyValue) (b : PlanLane) (mine : IsLaneOf store.id b) (named : IsKeyNumber b.keys name key) (leads : Leads b) where
    -- it was stored by a lane that knows what it is, under this key
    record WasKept (s : Slot) : Type 0 where
      pub event : Event ℕ
      pub among : Contains h event
      pub cell : ℕ
      pub stores : slot_stored event.act ≡ Some (cell, s)
      pub lane : PlanLane
      pub there : Contains ended lane
      pub own : IsKnownOwn plan store lane name s

    kept_from : (at : ℕ) (s : Slot) (p : History) → IsNumber s → IsPrefix p (seen_by b.cells.view) → (state_after p).slots (cell_in store key at) ≡ Some s → WasKept s
    kept_from at s p some until stands =
        let part = prefix_trans p (seen_by b.cells.view) h until (prefix_trans (seen_by b.cells.view) (seen_by leads.last.cells.view) h leads.goes.seen (part_of leads.last leads.among)) in
        let was = was_stored p (cell_in store key at) s some (legal_begun p h part run.shared.legal) stands in
        let there : Contains h was.event = subst (λ (l : History). Contains l was.event) part.1 (Contains-append_left p part.0 was.event was.among) in
        let other = storer was.event (cell_in store key at) s there was.stores in
        let own_one = other.2 in
        let place : key ≡ own_one.key = same_key at own_one.context key own_one.key (number_within store b name key mine named) own_one.within own_one.cell_is in
        let theirs : key_at other.0.keys key ≡ Some own_one.name = subst (λ n. key_at other.0.keys n ≡ Some own_one.name) (sym place) own_one.named.there in
        let keys : name ≡ own_one.name = (alike leads.last other.0 leads.among other.1).1 key name own_one.name (leads.goes.keys.keys key name named.there) theirs in
        record { event = was.event; among = there; cell = cell_in store key at; stores = was.stores; lane = other.0; there = other.1; own = subst (λ k. IsKnownOwn plan store other.0 k s) (sym keys) own_one.own }

    -- a value
    kept_at : (at number : ℕ) (path : List ℕ) (p : History) → IsPrefix p (seen_by b.cells.view) → look_after (cell_in store key) path p ≡ look.Found at number → (value : StoredValue) → known_at b.known number ≡ Some value
        → IsKeptByPlan plan name (stored_view value).text
    kept_at at number path p until found value known =
        let kept = kept_from at (slot.Entry number) p tt until (found_stands (cell_in store key) path p at number found) in
        let same : value ≡ kept.own.0 =
        agree_of (all_known ended) run.shared.agree leads.last.known kept.lane.known (contains-map (λ (l : PlanLane). l.known) ended leads.last leads.among) (contains-map (λ (l : PlanLane). l.known) ended kept.lane kept.there) number value kept.own.0
        (leads.goes.known number value known) kept.own.1 in
        subst (λ (v : StoredValue). IsKeptByPlan plan name (stored_view v).text) (sym same) kept.own.2

    -- or a kept fault
    fault_at : (at number : ℕ) (path : List ℕ) (p : History) → IsPrefix p (seen_by b.cells.view) → look_after (cell_in store key) path p ≡ look.Fault at number → (fault : Fault) → known_at b.faults number ≡ Some fault
        → IsSeenOfPlan plan name (fault_seen fault)
    fault_at at number path p until met fault known =
        let kept = kept_from at (slot.Fault number) p tt until (met_stands (cell_in store key) path p at number met) in
        let same : fault ≡ faults.Text kept.own.0 =
        agree_of (all_faults ended) run.shared.agree_faults leads.last.faults kept.lane.faults (contains-map (λ (l : PlanLane). l.faults) ended leads.last leads.among) (contains-map (λ (l : PlanLane). l.faults) ended kept.lane kept.there) number fault (faults.Text kept.own.0)
        (leads.goes.faults number fault known) kept.own.1 in
        let keeps : IfSome (fault_number kept.event.act) (λ n. IsTrue store.id.cells.limits.keep_faults) =
        legal_each (IsAllowed store.id.cells.limits) (λ (x : Event ℕ). IfSome (fault_number x.act) (λ n. IsTrue store.id.cells.limits.keep_faults)) (λ before x allowed. allowed.keeps) h run.shared.legal kept.event kept.among in
        subst (λ (f : Fault). IsSeenOfPlan plan name (fault_seen f)) (sym same) (fault_keeps kept.event.act kept.cell number kept.stores keeps, kept.own.2)

    found_kept : (context : ℕ) (a : PlanLane) (at number : ℕ) → Gets store context key a.cells b.cells (Ok (look.Found at number)) → (value : StoredValue) → known_at b.known number ≡ Some value
        → IsKeptByPlan plan name (stored_view value).text
    unfolding store_core.Gets
    found_kept context a at number gets value known =
        let point = (gets.2.looked.replied (λ is. absurd (cc is))).point in
        let found : look_after (cell_in store key) gets.0 point.0 ≡ look.Found at number = cc point.2 in
        kept_at at number gets.0 point.0 point.1.1 found value known

    fault_met : (context : ℕ) (a : PlanLane) (at number : ℕ) → Gets store context key a.cells b.cells (Ok (look.Fault at number)) → (fault : Fault) → known_at b.faults number ≡ Some fault
        → IsSeenOfPlan plan name (fault_seen fault)
    unfolding store_core.Gets
    fault_met context a at number gets fault known =
        let point = (gets.2.looked.replied (λ is. absurd (cc is))).point in
        let met : look_after (cell_in store key) gets.0 point.0 ≡ look.Fault at number = cc point.2 in
        fault_at at number gets.0 point.0 point.1.1 met fault known

    met_kept : (limits : Limits) (context : ℕ) (ancestors : List ℕ) (a : LaneView) (at number : ℕ) → Meets limits store context ancestors key a b.cells.view (look.Found at number) → (value : StoredValue)
        → known_at b.known number ≡ Some value → IsKeptByPlan plan name (stored_view value).text
    unfolding claiming.Meets
    met_kept limits context ancestors a at number (inl here) value known = kept_at at number (context ∷ ancestors) here.point.0 here.point.1.1 here.point.2 value known
    met_kept limits context ancestors a at number (inr given_up) value known =
        let looked = given_up.1.looked in
        kept_at at number ancestors looked.0 looked.1.until looked.2 value known

    met_fault : (limits : Limits) (context : ℕ) (ancestors : List ℕ) (a : LaneView) (at number : ℕ) → Meets limits store context ancestors key a b.cells.view (look.Fault at number) → (fault : Fault)
        → known_at b.faults number ≡ Some fault → IsSeenOfPlan plan name (fault_seen fault)
    unfolding claiming.Meets
    met_fault limits context ancestors a at number (inl here) fault known = fault_at at number (context ∷ ancestors) here.point.0 here.point.1.1 here.point.2 fault known
    met_fault limits context ancestors a at number (inr given_up) fault known =
        let looked = given_up.1.looked in
        fault_at at number ancestors looked.0 looked.1.until looked.2 fault known

    computes_kept : (context : ℕ) (a : Lane) (at number : ℕ) (unused : Unit {0}) → ComputesAfterWaits {V = StoredValue} store context key a b.cells (computes.Found at number unused) → (value : StoredValue)
        → known_at b.known number ≡ Some value → IsKeptByPlan plan name (stored_view value).text
    unfolding ComputesAfterWaits Computes ComputesFrom
    computes_kept context a at number unused waits value known = met_kept a.cells.limits context waits.then_is.0 waits.between at number waits.then_is.2 value known

    computes_met : (context : ℕ) (a : Lane) (at number : ℕ) (unused : Unit {0}) → ComputesAfterWaits {V = StoredValue} store context key a b.cells (computes.FaultStands at number unused) → (fault : Fault)
        → known_at b.faults number ≡ Some fault → IsSeenOfPlan plan name (fault_seen fault)
    unfolding ComputesAfterWaits Computes ComputesFrom
    computes_met context a at number unused waits fault known = met_fault a.cells.limits context waits.then_is.0 waits.between at number waits.then_is.2 fault known

  seen_kept : (key : KeyValue) (seen other : SeenText) → seen ≡ other → IsSeenOfPlan plan key other → IsSeenOfPlan plan key seen
  seen_kept key seen other is kept = subst (λ (s : SeenText). IsSeenOfPlan plan key s) (sym is) kept

  fault_shown : (key : KeyValue) (before : List (Known Fault)) (b : PlanLane) (seen : SeenText) (number : ℕ) → ShowsFault number before seen b.faults
      → ((fault : Fault) → known_at b.faults number ≡ Some fault → IsSeenOfPlan plan key (fault_seen fault)) → IsSeenOfPlan plan key seen
  fault_shown key before b seen number (inl known) kept = seen_kept key seen _ known.2 (kept known.0 known.1.learnt)
  fault_shown key before b seen number (inr unknown) kept = seen_kept key seen _ unknown.2 tt

  shown_kept : (key : KeyValue) (before : PlanNotes) (b : PlanLane) (seen : SeenText) (number : ℕ) → ShowsNumber number before seen b.known
      → ((value : StoredValue) → known_at b.known number ≡ Some value → IsKeptByPlan plan key (stored_view value).text) → IsSeenOfPlan plan key seen
  shown_kept key before b seen number (inl known) kept = seen_kept key seen _ known.2 (kept known.0 known.1.learnt)
  shown_kept key before b seen number (inr unknown) kept = seen_kept key seen _ unknown.2 tt

  module _ (key : ℕ) (name : KeyValue) (b : PlanLane) (mine : IsLaneOf store.id b) (named : IsKeyNumber b.keys name key) (leads : Leads b) where
    answer_kept : (context : ℕ) (a : PlanLane) (seen : SeenText) (answer : Look) → Gets store context key a.cells b.cells (Ok answer) → Shows answer a seen b → IsSeenOfPlan plan name seen
    answer_kept context a seen (look.Found at number) gets shown = shown_kept name a.known b seen number shown.1 (λ value known. found_kept key name b mine named leads context a at number gets value known)
    answer_kept context a seen (look.Fault at number) gets shown = fault_shown name a.faults b seen number shown.1 (λ fault known. fault_met key name b mine named leads context a at number gets fault known)
    answer_kept context a seen look.Absent gets shown = seen_kept name seen _ shown.1 tt
    answer_kept context a seen (look.Busy at) gets shown = absurd shown
    answer_kept context a seen (look.Closed at) gets shown = seen_kept name seen _ shown.1 tt

    -- a compute whose factory fails
    made_kept : (context : ℕ) (said label text : List ℕ) (a : PlanLane) (o : Outcome) (result : Compute StoredValue (Unit {0})) (between : PlanLane) → ComputesAfterWaits store context key a.cells b.cells result
        → (ends : EndsComputeFail said label text result between o b) → IsMetOfPlan plan name said label text result between o b ends
    made_kept context said label text a o (computes.Computed number) between waits ends = tt
    made_kept context said label text a o (computes.Found at number unused) between waits ends =
        shown_kept name between.known b ends.1 number ends.2 (λ value known. computes_kept key name b mine named leads context a.cells at number unused waits value known)
    made_kept context said label text a o (computes.Failed why) between waits ends = tt
    made_kept context said label text a o (computes.FaultKept number) between waits ends = tt
    made_kept context said label text a o (computes.FaultUnkept why cause) between waits ends = tt
    made_kept context said label text a o (computes.FaultStands at number unused) between waits ends =
        fault_shown name between.faults b ends.1 number ends.2 (λ fault known. computes_met key name b mine named leads context a.cells at number unused waits fault known)
    made_kept context said label text a o (computes.Unkept value cause) between waits ends = tt
    made_kept context said label text a o (computes.Refused why unused) between waits ends = tt

    -- a compute whose factory gives a value
    given_kept : (context : ℕ) (said label : List ℕ) (a : PlanLane) (o : Outcome) (result : Compute StoredValue (Unit {0})) (between : PlanLane) → ComputesAfterWaits store context key a.cells b.cells result
        → (ends : EndsCompute said label result between o b) → IsFaultOfPlan plan name said label result between o b ends
    given_kept context said label a o (computes.Computed number) between waits ends = tt
    given_kept context said label a o (computes.Found at number unused) between waits ends = tt
    given_kept context said label a o (computes.Failed why) between waits ends = tt
    given_kept context said label a o (computes.FaultKept number) between waits ends = tt
    given_kept context said label a o (computes.FaultUnkept why cause) between waits ends = tt
    given_kept context said label a o (computes.FaultStands at number unused) between waits ends =
        fault_shown name between.faults b ends.1 number ends.2 (λ fault known. computes_met key name b mine named leads context a.cells at number unused waits fault known)
    given_kept context said label a o (computes.Unkept value cause) between waits ends = tt
    given_kept context said label a o (computes.Refused why unused) between waits ends = tt

  look_finds : (call : CallText) (verdict : SeenText → VerdictText) (a : PlanLane) (o : Outcome) (b : PlanLane) → IsLaneOf store.id b → StepLooks store call verdict a o b → Leads b → LookFinds plan store call verdict a o b
  look_finds call verdict a o b mine (inl made) leads =
      inl (made.0, made.1, (made.2.0, made.2.1, made.2.2, answer_kept made.0 call.key b mine made.1 leads (start_of call.path) a made.2.0 made.2.1.answer made.2.1.looked made.2.1.shown))
  look_finds call verdict a o b mine (inr refused) leads = inr refused

  fail_finds : (call : CallText) (text : List ℕ) (a : PlanLane) (o : Outcome) (b : PlanLane) → IsLaneOf store.id b → StepFails store call text a o b → Leads b → ComputeFinds plan store call text a o b
  fail_finds call text a o b mine (inl made) leads =
      inl (made.0, made.1, (made.2, made_kept made.0 call.key b mine made.1 leads (start_of call.path) call.name call.label text a o made.2.result made.2.between made.2.computed made.2.ends))
  fail_finds call text a o b mine (inr refused) leads = inr refused

  value_finds : (call : CallText) (value : ValueText) (a : PlanLane) (o : Outcome) (b : PlanLane) → IsLaneOf store.id b → StepComputes store call value a o b → Leads b → ValueFinds plan store call value a o b
  value_finds call value a o b mine (inl made) leads =
      inl (made.0, made.1, (made.2, given_kept made.0 call.key b mine made.1 leads (start_of call.path) call.name call.label a o made.2.result made.2.between made.2.computed made.2.ends))
  value_finds call value a o b mine (inr refused) leads = inr refused

  -- ---- steps

  word_finds : (call : CallText) (word : Word) (text : List ℕ) (a : PlanLane) (o : Outcome) (b : PlanLane) → IsLaneOf store.id b → StepDoes store call word text a o b → Leads b → WordFinds plan store call word text a o b
  word_finds call words.Want text a o b mine made leads = look_finds call (want_verdict call.name call.label text) a o b mine made leads
  word_finds call words.None text a o b mine made leads = look_finds call (none_verdict call.name call.label) a o b mine made leads
  word_finds call words.Compute text a o b mine made leads = value_finds call (record { text = text; closeable = false }) a o b mine made leads
  word_finds call words.ComputeCloseable text a o b mine made leads = value_finds call (record { text = text; closeable = true }) a o b mine made leads
  word_finds call words.ComputeFail text a o b mine made leads = fail_finds call text a o b mine made leads
  word_finds call word text a o b mine made leads = made

  step_finds : (path : List ℕ) (step : StepText) (a : PlanLane) (o : Outcome) (b : PlanLane) → IsLaneOf store.id b → StepRun store plan.keys path step a o b → Leads b → StepFinds plan store path step a o b
  step_finds path (keyed word key text up) a o b mine (inl made) leads = inl (word_finds (call_of plan.keys path (word_text word) key up) word text a o b mine made leads)
  step_finds path (keyed word key text up) a o b mine (inr lacks) leads = inr lacks
  step_finds path (fail text) a o b mine made leads = made
  step_finds path (abort text) a o b mine made leads = made

  steps_find : (path : List ℕ) (steps : List StepText) (a : PlanLane) (o : Outcome) (b : PlanLane) → StepsRun store plan.keys path steps a o b → Leads b → StepsFind plan store path steps a o b
  unfolding StepsRun
  steps_find path [] a o b made leads = made
  steps_find path (step ∷ more) a o b made leads =
      let here : Leads made.1 = elim (bools (is_successful (ending_of made.0.verdict))) [
        | inl on ↦ leads_back made.1 b (steps_go plan store path more made.1 (made.4.0 on).0 b (made.4.0 on).1) leads
        | inr off ↦ subst Leads (made.4.1 off).1 leads
      ] in (
        made.0,
        made.1,
        step_finds path step a made.0 made.1 (lane_framed store a made.1 made.3) made.2 here,
        ((λ on. let r = made.4.0 on in (r.0, steps_find path more made.1 r.0 b r.1 leads, r.2)), made.4.1),
      )

  call_finds : (node : ℕ) (call : Call) (held : Option HeldView) (a : PlanLane) (o : Outcome) (b : PlanLane) → MakesCall plan store node call held a o b → Leads b → CallFinds plan store node call held a o b
  call_finds node call held a o b made leads = record { path = made.path; path_is = made.path_is; steps = steps_find made.path (steps_of_call plan call) a o b made.steps leads }

  all_lead : All Leads ended
  all_lead = λ i d within. record { last = get_or ended i d; among = Contains-get_or ended i d within; goes = goes_same (get_or ended i d) }

pub runs_find : RunsFindWhatIsKept
runs_find plan lanes results run =
    tree_finer (setting_of_plan plan run.store run.locks) (CallFinds plan run.store)
    LaneGoesOn goes_same goes_then (plans_go_on plan run.store) (goes_met run.store) (goes_sealed run.store) (Leads plan lanes results run) (leads_back plan lanes results run) (call_finds plan lanes results run)
    16 0 run.first run.ran run.after run.run (all_lead plan lanes results run)

pub lanes_number_alike : LanesNumberAlike
lanes_number_alike plan lanes results run lane other there also = alike plan lanes results run lane other there also
