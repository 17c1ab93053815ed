-- What a step of a plan leaves of its lane: it goes on, and each number that it stored is one that it knows the value or the fault of, which a step of the plan keeps under that key.
use Rattle.std.proofs.Common.{◌≡◌, inl, inr, ℕ, ◌<◌, List, [], ◌∷◌, ◌++◌, Contains, Option, Some, None, refl, ap, sym, subst, ◌∙◌, append-nil, length, codes, arith}
use Rattle.std.specs.Prelude.{Result, Ok, Err, String, string_bytes}
use Rattle.std.specs.declared.alloc.Global.{Global}
use mathlib.Core.List.{IsPrefix}
use base.Growing.{prefix_refl}
use Rattle.std.proofs.lemmas.List.Elements.{Contains-append_cases}
use Rattle.ext_history.specs.Histories.{seen_by}
use Rattle.ext_history.proofs.Composed.{seen_goes_on}
use Rattle.ext_history.proofs.Lists.{bools, contains_cons, contains_here, contains_later, contains_none}
use Rattle.ext_model.specs.declared.event.Act.TheVariants.{Keep, Put, Remove}
use Rattle.ext_model.specs.declared.look.Fault.{Fault}
use Rattle.ext_model.specs.declared.look.Fault.TheVariants as faults
use Rattle.ext_model.specs.declared.slot.Slot.{Slot}
use Rattle.ext_model.specs.declared.slot.Slot.TheVariants as slot
use Rattle.ext_model.specs.CallActs.{Calls, events_by}
use Rattle.ext_lifecycle.specs.declared.call.Call.{Call}
use Rattle.ext_lifecycle.specs.declared.outcome.Outcome.{Outcome}
use Rattle.ext_lifecycle.specs.Endings.{is_successful}
use Rattle.ext_lifecycle.specs.FaultTexts.{VerdictText}
use Rattle.ext_lifecycle.specs.Lifecycle.{ending_of}
use Rattle.ext_locks.specs.Sets.{HeldView}
use Rattle.ext_tree.specs.Keys.{KeyValue, IsKeyNumber}
use Rattle.ext_tree.proofs.KeyPlacing.{key_within, length-places, number_stays}
use Rattle.ext_plan.specs.declared.word.Word.{Word}
use Rattle.ext_plan.specs.declared.word.Word.TheVariants as words
use Rattle.ext_plan.specs.Plans.{PlanText, StepKeyText, StepText, keyed, fail, abort}
use Rattle.ext_plan.specs.StepWords.{word_text}
use Rattle.ext_plan.specs.StoreKeys.{key_of_step}
use Rattle.ext_plan.specs.PlanCalls.{steps_of_call}
use Rattle.ext_values.specs.Known.{known_at}
use Rattle.ext_cells.specs.Lanes.{Lane}
use Rattle.ext_store_core.specs.declared.fault.Refusal.{Refusal}
use Rattle.ext_store_core.specs.declared.fault.Refusal.TheVariants as refusal
use Rattle.ext_store.specs.declared.computed.Compute.{Compute}
use Rattle.ext_store.specs.declared.computed.Compute.TheVariants as computes
use Rattle.ext_store.specs.Stores.{StoreView, IsLaneOf, cell_in}
use Rattle.ext_store.specs.LaneCalls.{Frame}
use Rattle.ext_store.specs.Computing.{Uses}
use Rattle.ext_store_core.specs.ContextCalls.{put_acts, remove_acts}
use Rattle.ext_plan_parallel.specs.Saying.{EndsRefused}
use Rattle.ext_closing.specs.Sealing.{MakesSeals}
use Rattle.ext_store.specs.ContextCalls.{seals_of}
use Rattle.ext_plan.specs.StepCalls.{CallText, call_of, start_of}
use Rattle.ext_plan.specs.Values.{ValueText}
use Rattle.ext_plan.specs.Verdicts.{SeenText}
use Rattle.ext_plan_parallel.specs.declared.steps.stored_value.StoredValue.{StoredValue}
use Rattle.ext_plan_parallel.specs.StoreCalls.{ComputesFault, ComputesValue, EndsChange, EndsCompute, EndsComputeFail, EndsPut, HasFrame, PlanLane, RemovesThere, StoresThere, stored_view}
use Rattle.ext_plan_parallel.specs.StoreSteps.{LacksMemory, OfCallKey, PutsKept, StepComputes, StepDoes, StepFails, StepLooks, StepPuts, StepRemoves, StepRun, StepsRun}
use Rattle.ext_plan_parallel.specs.PlanSuites.{RunsCall}
use Rattle.ext_engine.specs.Meeting.{OnlyMeets}
use Rattle.ext_engine.specs.Order.{LaneGoesOn}
use Rattle.ext_engine.proofs.Going.{goes_met, goes_same, goes_sealed, goes_then}
use Rattle.ext_plan_parallel.specs.Finding.{IsFailedByPlan, IsKeptByPlan, PlansGoOn, kept_by}
use Rattle.ext_plan_parallel.proofs.Values.{Stored, calls_quiet, calls_stored, own_stored, stored_in}
use Rattle.ext_plan_parallel.proofs.StepValues.{filled, gets_quiet, keep_quiet, puts_values, removes_values, waits_values}

-- ---- results

ok_is_no_err : (stood : Option ℕ) (number : ℕ) → ◌≡◌ {A = Result (Option ℕ) (ℕ × Refusal)} (Ok stood) (Err (number, refusal.Contended)) → ⊥
ok_is_no_err stood number is = absurd (cc is)

err_why : (m n : ℕ) (v w : Refusal) → ◌≡◌ {A = Result (Option ℕ) (ℕ × Refusal)} (Err (m, v)) (Err (n, w)) → v ≡ w
err_why m n v w is = let e : ◌≡◌ {A = ℕ × Refusal} (m, v) (n, w) = cc is in ap (λ (x : ℕ × Refusal). x.1) e

taken_is_no_err : (taken : Option ℕ) → ◌≡◌ {A = Result (Option ℕ) Refusal} (Ok taken) (Err refusal.Contended) → ⊥
taken_is_no_err taken is = absurd (cc is)

change_why : (v w : Refusal) → ◌≡◌ {A = Result (Option ℕ) Refusal} (Err v) (Err w) → v ≡ w
change_why v w is = cc is

-- ---- frames

pub goes_framed : (store : StoreView) (a b : PlanLane) → HasFrame store a b → LaneGoesOn a b
unfolding Frame
goes_framed store a b frame = elim frame.steps.1 [
  | inl still ↦ record {
    number = ap (λ (l : Lane). l.view.number) still.0;
    seen = subst (λ (l : Lane). IsPrefix (seen_by a.cells.view) (seen_by l.view)) (sym still.0) (prefix_refl (seen_by a.cells.view));
    known = frame.known;
    faults = frame.faults;
    keys = frame.keys;
  }
  | inr calls ↦ record { number = ap (λ v. v.number) calls.fronts; seen = seen_goes_on calls; known = frame.known; faults = frame.faults; keys = frame.keys }
]

pub lane_framed : (store : StoreView) (a b : PlanLane) → HasFrame store a b → IsLaneOf store.id b
unfolding Frame
lane_framed store a b frame = frame.lane

-- the number of a key is one of a place
pub number_within : (store : StoreView) (lane : PlanLane) (key : KeyValue) (number : ℕ) → IsLaneOf store.id lane → IsKeyNumber lane.keys key number → number < length store.id.keys
number_within store lane key number mine named =
    let count = length-places lane.keys store.id.keys mine.keys in
    let below = key_within lane.keys number key named.there in
    omega (arith, count, below)

pub steps_go : (plan : PlanText) (store : StoreView) (path : List ℕ) (steps : List StepText) (a : PlanLane) (o : Outcome) (b : PlanLane) → StepsRun store plan.keys path steps a o b → LaneGoesOn a b
unfolding StepsRun
steps_go plan store path [] a o b run = subst (λ x. LaneGoesOn a x) (sym run.0) (goes_same a)
steps_go plan store path (step ∷ more) a o b run =
    let one = goes_framed store a run.1 run.3 in
    elim (bools (is_successful (ending_of run.0.verdict))) [
      | inl on ↦ goes_then a run.1 b one (steps_go plan store path more run.1 (run.4.0 on).0 b (run.4.0 on).1)
      | inr off ↦ subst (λ x. LaneGoesOn a x) (sym (run.4.1 off).1) one
    ]

pub plans_go_on : PlansGoOn
plans_go_on plan store node call held before outcome after made = steps_go plan store made.path (steps_of_call plan call) before outcome after made.steps

-- ---- what a lane stored

module _ (plan : PlanText) (store : StoreView) where
  -- the lane knows what the number stands for, and a step of the plan keeps that under the key
  abbrev pub IsKnownOwn : PlanLane → KeyValue → Slot → Type 0
  IsKnownOwn lane name (slot.Entry number) = (value : StoredValue) × (known_at lane.known number ≡ Some value) × IsKeptByPlan plan name (stored_view value).text
  IsKnownOwn lane name (slot.Fault number) = (message : String Global) × (known_at lane.faults number ≡ Some (faults.Text message)) × IsFailedByPlan plan name (string_bytes message)
  IsKnownOwn lane name (slot.Claim other) = ⊥
  IsKnownOwn lane name (slot.Sealed kept) = ⊥

  -- a number is stored in a cell of a key, whose number the lane knows
  pub record IsOwn (lane : PlanLane) (cell : ℕ) (s : Slot) : Type 0 where
    pub key : ℕ
    pub context : ℕ
    pub cell_is : cell ≡ cell_in store key context
    pub name : KeyValue
    pub named : IsKeyNumber lane.keys name key
    pub within : key < length store.id.keys
    pub own : IsKnownOwn lane name s

  -- so it is with each number that the lane stored itself
  abbrev pub OwnKept : PlanLane → Type 0
  OwnKept lane = (cell : ℕ) (s : Slot) → Contains (own_stored lane.cells.view) (cell, s) → IsOwn lane cell s

  pub record Moves (a b : PlanLane) : Type 0 where
    pub goes : LaneGoesOn a b
    pub keeps : OwnKept a → OwnKept b

  still_known : (a b : PlanLane) (name : KeyValue) (s : Slot) → LaneGoesOn a b → IsKnownOwn a name s → IsKnownOwn b name s
  still_known a b name (slot.Entry number) goes own = (own.0, goes.known number own.0 own.1, own.2)
  still_known a b name (slot.Fault number) goes own = (own.0, goes.faults number (faults.Text own.0) own.1, own.2)
  still_known a b name (slot.Claim other) goes own = own
  still_known a b name (slot.Sealed kept) goes own = own

  still_own : (a b : PlanLane) (cell : ℕ) (s : Slot) → LaneGoesOn a b → IsOwn a cell s → IsOwn b cell s
  still_own a b cell s goes own = record {
    key = own.key;
    context = own.context;
    cell_is = own.cell_is;
    name = own.name;
    named = number_stays a.keys b.keys own.name own.key goes.keys own.named;
    within = own.within;
    own = still_known a b own.name s goes own.own;
  }

  moves_by : (a b : PlanLane) (new : List Stored) → LaneGoesOn a b → own_stored b.cells.view ≡ own_stored a.cells.view ++ new → ((cell : ℕ) (s : Slot) → Contains new (cell, s) → IsOwn b cell s) → Moves a b
  moves_by a b new goes is each = record {
    goes = goes;
    keeps = λ own cell s there. elim (Contains-append_cases (own_stored a.cells.view) new (cell, s) (subst (λ l. Contains l (cell, s)) is there)) [
      | inl old ↦ still_own a b cell s goes (own cell s old)
      | inr fresh ↦ each cell s fresh
    ];
  }

  moves_quiet : (a b : PlanLane) → LaneGoesOn a b → own_stored b.cells.view ≡ own_stored a.cells.view → Moves a b
  moves_quiet a b goes is = record { goes = goes; keeps = λ own cell s there. still_own a b cell s goes (own cell s (subst (λ l. Contains l (cell, s)) is there)) }

  pub moves_same : (a : PlanLane) → Moves a a
  moves_same a = record { goes = goes_same a; keeps = λ own. own }

  pub moves_then : (a b c : PlanLane) → Moves a b → Moves b c → Moves a c
  moves_then a b c one two = record { goes = goes_then a b c one.goes two.goes; keeps = λ own. two.keeps (one.keeps own) }

  pub moves_met : (a b : PlanLane) → OnlyMeets store a b → Moves a b
  moves_met a b met = moves_quiet a b (goes_met store a b met) (calls_quiet a.cells.view b.cells.view [] met.calls refl)

  seals_none : (n context : ℕ) (keys : List ℕ) → stored_in (events_by n (seals_of store context keys)) ≡ []
  seals_none n context [] = refl
  seals_none n context (key ∷ keys) = seals_none n context keys

  pub moves_sealed : (context : ℕ) (a : PlanLane) (cells : Lane) → MakesSeals store context a.cells cells → Moves a (record { cells = cells; known = a.known; faults = a.faults; keys = a.keys })
  moves_sealed context a cells made =
      let b : PlanLane = record { cells = cells; known = a.known; faults = a.faults; keys = a.keys } in
      let quiet : own_stored cells.view ≡ own_stored a.cells.view = calls_quiet a.cells.view cells.view _ made.calls (seals_none a.cells.view.number context made.sealed) in
      moves_quiet a b (goes_sealed store context a cells made) quiet

  -- ---- a step

  -- under a key that the step names
  module _ (names : StepKeyText) (key context : ℕ) (b : PlanLane) (mine : IsLaneOf store.id b) (named : IsKeyNumber b.keys (key_of_step plan.keys names) key) where
    -- a number that the step stored
    one_own : (s : Slot) → IsKnownOwn b (key_of_step plan.keys names) s → IsOwn b (cell_in store key context) s
    one_own s own = record {
      key = key;
      context = context;
      cell_is = refl;
      name = key_of_step plan.keys names;
      named = named;
      within = number_within store b (key_of_step plan.keys names) key mine named;
      own = own;
    }

    only_own : (s : Slot) → IsKnownOwn b (key_of_step plan.keys names) s → (c : ℕ) (t : Slot) → Contains {X = Stored} ((cell_in store key context, s) ∷ []) (c, t) → IsOwn b c t
    only_own s own c t there = elim (contains_cons {A = Stored} (cell_in store key context, s) [] (c, t) there) [
      | inl same ↦ subst (λ (x : Stored). IsOwn b x.0 x.1) same (one_own s own)
      | inr more ↦ absurd (contains_none {A = Stored} (c, t) more)
    ]

  module _ (call : Call) (step : StepText) (among : Contains (steps_of_call plan call) step) (names : StepKeyText) (value : ValueText) (keeps : kept_by step ≡ Some (names, value)) (key context : ℕ)
      (b : PlanLane) (mine : IsLaneOf store.id b) (named : IsKeyNumber b.keys (key_of_step plan.keys names) key) where
    value_own : (number : ℕ) (kept : StoredValue) → stored_view kept ≡ value → known_at b.known number ≡ Some kept
        → (c : ℕ) (t : Slot) → Contains {X = Stored} ((cell_in store key context, slot.Entry number) ∷ []) (c, t) → IsOwn b c t
    value_own number kept is known =
        only_own names key context b mine named (slot.Entry number)
        (kept, known, record { call = call; step = step; among = among; names = names; value = value; keeps = keeps; text_is = ap (λ (v : ValueText). v.text) (sym is); key_is = refl })

    module _ (name said : List ℕ) (a : PlanLane) (o : Outcome) (goes : LaneGoesOn a b) where
      put_made : (between : PlanLane) (kept : ℕ) (v : StoredValue) → stored_view v ≡ value → known_at b.known kept ≡ Some v → own_stored between.cells.view ≡ own_stored a.cells.view
          → (p : StoresThere store context key name said kept between o b) → (result : Result (Option ℕ) (ℕ × Refusal)) → p.result ≡ result → EndsPut name said result o → Moves a b
      put_made between kept v value_is known quiet p (Ok stood) is ends =
          let calls = puts_values store context key kept between.cells b.cells p.result p.puts (λ e. absurd (ok_is_no_err stood kept (sym is ∙ e))) in
          let made : own_stored b.cells.view ≡ own_stored between.cells.view ++ (cell_in store key context, slot.Entry kept) ∷ [] =
          calls_stored between.cells.view b.cells.view (Put (cell_in store key context) kept ∷ []) (subst (λ r. Calls between.cells.cells.limits between.cells.view b.cells.view (put_acts (cell_in store key context) kept r)) is calls) in
          moves_by a b ((cell_in store key context, slot.Entry kept) ∷ []) goes (made ∙ ap (λ l. l ++ (cell_in store key context, slot.Entry kept) ∷ []) quiet) (value_own kept v value_is known)
      put_made between kept v value_is known quiet p (Err (m, why)) is ends =
          let calls = puts_values store context key kept between.cells b.cells p.result p.puts (λ e. decided why ends (err_why m kept why refusal.Contended (sym is ∙ e))) in
          let none : own_stored b.cells.view ≡ own_stored between.cells.view =
          calls_quiet between.cells.view b.cells.view [] (subst (λ r. Calls between.cells.cells.limits between.cells.view b.cells.view (put_acts (cell_in store key context) kept r)) is calls) refl in
          moves_quiet a b goes (none ∙ quiet)
        where
          decided : (w : Refusal) → EndsRefused name said w o → w ≡ refusal.Contended → ⊥
          decided w ends e = subst (λ x. EndsRefused name said x o) e ends

      computed_moves : (c : ComputesValue store context key name said value a o b) → (result : Compute StoredValue (Unit {0})) → c.result ≡ result → own_stored b.cells.view ≡ own_stored a.cells.view ++ filled (cell_in store key context) result
          → Uses (λ answer. answer ≡ Ok c.given) a c.between result → EndsCompute name said result c.between o b → Moves a b
      computed_moves c (computes.Computed number) is made uses ends =
          let same : uses.0 ≡ c.given = cc uses.1 in
          moves_by a b ((cell_in store key context, slot.Entry number) ∷ []) goes made (value_own number c.given c.value_is (ap (λ (l : PlanLane). known_at l.known number) ends.0 ∙ (uses.2.learnt ∙ ap Some same)))
      computed_moves c (computes.Found at number unused) is made uses ends = moves_quiet a b goes (made ∙ append-nil (own_stored a.cells.view))
      computed_moves c (computes.Failed why) is made uses ends = moves_quiet a b goes (made ∙ append-nil (own_stored a.cells.view))
      computed_moves c (computes.FaultKept number) is made uses ends = absurd ends
      computed_moves c (computes.FaultUnkept why cause) is made uses ends = moves_quiet a b goes (made ∙ append-nil (own_stored a.cells.view))
      computed_moves c (computes.FaultStands at number unused) is made uses ends = moves_quiet a b goes (made ∙ append-nil (own_stored a.cells.view))
      computed_moves c (computes.Unkept v cause) is made uses ends = moves_quiet a b goes (made ∙ append-nil (own_stored a.cells.view))
      computed_moves c (computes.Refused why unused) is made uses ends = moves_quiet a b goes (made ∙ append-nil (own_stored a.cells.view))

  -- ---- steps, by their calls

  module _ (call : Call) (step : StepText) (among : Contains (steps_of_call plan call) step) (names : StepKeyText) (value : ValueText) (keeps : kept_by step ≡ Some (names, value)) (path : List ℕ) (name : List ℕ) (up : ℕ) (a : PlanLane)
      (o : Outcome) (b : PlanLane) (mine : IsLaneOf store.id b) (goes : LaneGoesOn a b) where
    abbrev made_by : CallText
    made_by = call_of plan.keys path name names up

    between_quiet : (p : PutsKept store made_by value a o b) → own_stored p.between.cells.view ≡ own_stored a.cells.view
    between_quiet p = calls_quiet a.cells.view p.between.cells.view (Keep p.kept ∷ []) p.keeps.drawn.calls refl

    kept_known : (p : PutsKept store made_by value a o b) → known_at b.known p.kept ≡ Some p.kept_value
    kept_known p = ap (λ l. known_at l p.kept) p.known.0 ∙ p.keeps.learnt.learnt

    kept_moves : (p : PutsKept store made_by value a o b) → OfCallKey store made_by p.between o b (λ number. StoresThere store (start_of made_by.path) number made_by.name made_by.label p.kept p.between o b) → Moves a b
    kept_moves p (inl stores) =
        put_made call step among names value keeps stores.0 (start_of made_by.path) b mine stores.1 made_by.name made_by.label a o goes p.between p.kept p.kept_value p.value_is (kept_known p) (between_quiet p) stores.2 stores.2.result refl
        stores.2.ends
    kept_moves p (inr refused) = moves_quiet a b goes (ap (λ (l : Lane). own_stored l.view) refused.1.still ∙ between_quiet p)

    put_moves : StepPuts store made_by value a o b → Moves a b
    put_moves (inl p) = kept_moves p p.stores
    put_moves (inr n) = moves_quiet a b goes (keep_quiet store a.cells b.cells n.why n.keeps_nothing.fails)

    compute_moves : StepComputes store made_by value a o b → Moves a b
    compute_moves (inl c) =
        computed_moves call step among names value keeps c.0 (start_of made_by.path) b mine c.1 made_by.name made_by.label a o goes c.2 c.2.result refl
        (waits_values store (start_of made_by.path) c.0 a.cells b.cells c.2.result c.2.computed) c.2.uses c.2.ends
    compute_moves (inr refused) = moves_quiet a b goes (ap (λ (l : Lane). own_stored l.view) refused.1.still)

  -- ---- steps that keep no value

  module _ (context key : ℕ) (name said : List ℕ) (a : PlanLane) (o : Outcome) (b : PlanLane) (goes : LaneGoesOn a b) where
    remove_made : (r : RemovesThere store context key name said a o b) → (result : Result (Option ℕ) Refusal) → r.result ≡ result → EndsChange name said result o → Moves a b
    remove_made r (Ok None) is ends =
        let calls = removes_values store context key a.cells b.cells r.result r.removes (λ e. absurd (taken_is_no_err None (sym is ∙ e))) in
        moves_quiet a b goes (calls_quiet a.cells.view b.cells.view [] (subst (λ x. Calls a.cells.cells.limits a.cells.view b.cells.view (remove_acts (cell_in store key context) x)) is calls) refl)
    remove_made r (Ok (Some number)) is ends =
        let calls = removes_values store context key a.cells b.cells r.result r.removes (λ e. absurd (taken_is_no_err (Some number) (sym is ∙ e))) in
        moves_quiet a b goes (calls_quiet a.cells.view b.cells.view (Remove (cell_in store key context) ∷ []) (subst (λ x. Calls a.cells.cells.limits a.cells.view b.cells.view (remove_acts (cell_in store key context) x)) is calls) refl)
    remove_made r (Err why) is ends =
        let calls = removes_values store context key a.cells b.cells r.result r.removes (λ e. decided why ends (change_why why refusal.Contended (sym is ∙ e))) in
        moves_quiet a b goes (calls_quiet a.cells.view b.cells.view [] (subst (λ x. Calls a.cells.cells.limits a.cells.view b.cells.view (remove_acts (cell_in store key context) x)) is calls) refl)
      where
        decided : (w : Refusal) → EndsRefused name said w o → w ≡ refusal.Contended → ⊥
        decided w ends e = subst (λ x. EndsRefused name said x o) e ends

  -- ---- a step whose factory fails

  module _ (call : Call) (names : StepKeyText) (text : List ℕ) (up : ℕ) (among : Contains (steps_of_call plan call) (keyed words.ComputeFail names text up)) (key context : ℕ) (name said : List ℕ) (a : PlanLane) (o : Outcome) (b : PlanLane)
      (mine : IsLaneOf store.id b) (named : IsKeyNumber b.keys (key_of_step plan.keys names) key) (goes : LaneGoesOn a b) where
    fault_own : (number : ℕ) (message : String Global) → string_bytes message ≡ text → (fault : Fault) → known_at b.faults number ≡ Some fault → ◌≡◌ {A = Result StoredValue Fault} (Err fault) (Err (faults.Text message))
        → (c : ℕ) (t : Slot) → Contains {X = Stored} ((cell_in store key context, slot.Fault number) ∷ []) (c, t) → IsOwn b c t
    fault_own number message is fault known gives =
        let same : fault ≡ faults.Text message = cc gives in
        only_own names key context b mine named (slot.Fault number)
        (message, known ∙ ap Some same, subst (IsFailedByPlan plan (key_of_step plan.keys names)) (sym is) (record { call = call; names = names; up = up; among = among; key_is = refl }))

    failed_moves : (c : ComputesFault store context key name said text a o b) → (result : Compute StoredValue (Unit {0})) → own_stored b.cells.view ≡ own_stored a.cells.view ++ filled (cell_in store key context) result
        → Uses (λ answer. answer ≡ Err (faults.Text c.message)) a c.between result → EndsComputeFail name said text result c.between o b → Moves a b
    failed_moves c (computes.Computed number) made uses ends = absurd ends
    failed_moves c (computes.Found at number unused) made uses ends = moves_quiet a b goes (made ∙ append-nil (own_stored a.cells.view))
    failed_moves c (computes.Failed why) made uses ends = moves_quiet a b goes (made ∙ append-nil (own_stored a.cells.view))
    failed_moves c (computes.FaultKept number) made uses ends =
        moves_by a b ((cell_in store key context, slot.Fault number) ∷ []) goes made
        (fault_own number c.message c.message_is uses.0 (ap (λ (l : PlanLane). known_at l.faults number) ends.0 ∙ uses.3.learnt) uses.1)
    failed_moves c (computes.FaultUnkept why cause) made uses ends = moves_quiet a b goes (made ∙ append-nil (own_stored a.cells.view))
    failed_moves c (computes.FaultStands at number unused) made uses ends = moves_quiet a b goes (made ∙ append-nil (own_stored a.cells.view))
    failed_moves c (computes.Unkept v cause) made uses ends = absurd ends
    failed_moves c (computes.Refused why unused) made uses ends = moves_quiet a b goes (made ∙ append-nil (own_stored a.cells.view))

  still_moves : (a b : PlanLane) → b ≡ a → Moves a b
  still_moves a b is = subst (λ x. Moves a x) (sym is) (moves_same a)

  refused_moves : (a b : PlanLane) → LaneGoesOn a b → b.cells ≡ a.cells → Moves a b
  refused_moves a b goes still = moves_quiet a b goes (ap (λ (l : Lane). own_stored l.view) still)

  look_moves : (made_by : CallText) (verdict : SeenText → VerdictText) (a : PlanLane) (o : Outcome) (b : PlanLane) → LaneGoesOn a b → StepLooks store made_by verdict a o b → Moves a b
  look_moves made_by verdict a o b goes (inl run) = moves_quiet a b goes (gets_quiet store (start_of made_by.path) run.0 a.cells b.cells run.2.1.answer run.2.1.looked)
  look_moves made_by verdict a o b goes (inr refused) = refused_moves a b goes refused.1.still

  remove_moves : (made_by : CallText) (a : PlanLane) (o : Outcome) (b : PlanLane) → LaneGoesOn a b → StepRemoves store made_by a o b → Moves a b
  remove_moves made_by a o b goes (inl run) = remove_made (start_of made_by.path) run.0 made_by.name made_by.label a o b goes run.2 run.2.result refl run.2.ends
  remove_moves made_by a o b goes (inr refused) = refused_moves a b goes refused.1.still

  fail_moves : (call : Call) (path : List ℕ) (names : StepKeyText) (text : List ℕ) (up : ℕ) → Contains (steps_of_call plan call) (keyed words.ComputeFail names text up) → (a : PlanLane) (o : Outcome) (b : PlanLane)
      → IsLaneOf store.id b → LaneGoesOn a b → StepFails store (call_of plan.keys path (codes "computefail") names up) text a o b → Moves a b
  fail_moves call path names text up among a o b mine goes (inl run) =
      let made_by = call_of plan.keys path (codes "computefail") names up in
      failed_moves call names text up among run.0 (start_of made_by.path) made_by.name made_by.label a o b mine run.1 goes run.2 run.2.result
      (waits_values store (start_of made_by.path) run.0 a.cells b.cells run.2.result run.2.computed) run.2.uses run.2.ends
  fail_moves call path names text up among a o b mine goes (inr refused) = refused_moves a b goes refused.1.still

  lacks_still : (word : Word) (key : StepKeyText) (a : PlanLane) (o : Outcome) (b : PlanLane) → LacksMemory plan.keys word key a o b → b ≡ a
  lacks_still words.ComputeFail key a o b lacks = lacks.unchanged
  lacks_still word key a o b lacks = lacks.1.unchanged

  word_moves : (call : Call) (path : List ℕ) (word : Word) (key : StepKeyText) (text : List ℕ) (up : ℕ) → Contains (steps_of_call plan call) (keyed word key text up) → (a : PlanLane) (o : Outcome) (b : PlanLane)
      → IsLaneOf store.id b → LaneGoesOn a b → StepDoes store (call_of plan.keys path (word_text word) key up) word text a o b → Moves a b
  word_moves call path words.Put key text up among a o b mine goes run = put_moves call (keyed words.Put key text up) among key _ refl path (codes "put") up a o b mine goes run
  word_moves call path words.PutCloseable key text up among a o b mine goes run = put_moves call (keyed words.PutCloseable key text up) among key _ refl path (codes "put!") up a o b mine goes run
  word_moves call path words.Want key text up among a o b mine goes run = look_moves (call_of plan.keys path (codes "want") key up) _ a o b goes run
  word_moves call path words.None key text up among a o b mine goes run = look_moves (call_of plan.keys path (codes "none") key up) _ a o b goes run
  word_moves call path words.Remove key text up among a o b mine goes run = remove_moves (call_of plan.keys path (codes "remove") key up) a o b goes run
  word_moves call path words.Compute key text up among a o b mine goes run = compute_moves call (keyed words.Compute key text up) among key _ refl path (codes "compute") up a o b mine goes run
  word_moves call path words.ComputeCloseable key text up among a o b mine goes run =
      compute_moves call (keyed words.ComputeCloseable key text up) among key _ refl path (codes "compute!") up a o b mine goes run
  word_moves call path words.ComputeFail key text up among a o b mine goes run = fail_moves call path key text up among a o b mine goes run

  step_moves : (call : Call) (path : List ℕ) (step : StepText) → Contains (steps_of_call plan call) step → (a : PlanLane) (o : Outcome) (b : PlanLane) → StepRun store plan.keys path step a o b → HasFrame store a b → Moves a b
  step_moves call path (keyed word key text up) among a o b (inl run) frame = word_moves call path word key text up among a o b (lane_framed store a b frame) (goes_framed store a b frame) run
  step_moves call path (keyed word key text up) among a o b (inr lacks) frame = still_moves a b (lacks_still word key a o b lacks)
  step_moves call path (fail text) among a o b run frame = still_moves a b run.0
  step_moves call path (abort text) among a o b run frame = still_moves a b run.0

  steps_move : (call : Call) (path : List ℕ) (steps : List StepText) → ((step : StepText) → Contains steps step → Contains (steps_of_call plan call) step) → (a : PlanLane) (o : Outcome) (b : PlanLane)
      → StepsRun store plan.keys path steps a o b → Moves a b
  unfolding StepsRun
  steps_move call path [] among a o b run = still_moves a b run.0
  steps_move call path (step ∷ more) among a o b run =
      let one = step_moves call path step (among step (contains_here step more)) a run.0 run.1 run.2 run.3 in
      elim (bools (is_successful (ending_of run.0.verdict))) [
        | inl on ↦ moves_then a run.1 b one (steps_move call path more (λ s there. among s (contains_later step more s there)) run.1 (run.4.0 on).0 b (run.4.0 on).1)
        | inr off ↦ subst (λ x. Moves a x) (sym (run.4.1 off).1) one
      ]

  pub call_moves : (node : ℕ) (call : Call) (held : Option HeldView) (a : PlanLane) (o : Outcome) (b : PlanLane) → RunsCall plan store node call a o b → Moves a b
  call_moves node call held a o b made = steps_move call made.path (steps_of_call plan call) (λ s there. there) a o b made.steps
