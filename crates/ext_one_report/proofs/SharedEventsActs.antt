-- The events of a lane in the steps of a call: at the places that its node shares they compute what is computed there, each behind a look-up that was absent.
use Rattle.std.proofs.Common.{◌≡◌, ◌⊎◌, ℕ, zero, suc, ◌≤◌, inl, inr, Bool, true, false, List, [], ◌∷◌, ◌++◌, Contains, Some, drop, length, refl, ap, sym, subst, ◌∙◌, arith}
use Rattle.std.specs.Prelude.{◌<◌, ◌==◌, codes, slice_get, Ok, Err}
use mathlib.Core.List.{IsPrefix, append_cancel_left}
use base.Growing.{prefix_refl, prefix_trans}
use Rattle.std.proofs.lemmas.Bool.{cases_lt}
use Rattle.std.proofs.lemmas.List.Elements.{Contains-append_right}
use Rattle.std.proofs.lemmas.Option.{slice_get-get_or, slice_get_within}
use Rattle.ext_history.specs.Histories.{seen_by}
use Rattle.ext_history.proofs.Composed.{events_past, same_number, seen_goes_on}
use Rattle.ext_history.proofs.Lanes.{own_append}
use Rattle.ext_history.proofs.Legal.{legal_begun}
use Rattle.ext_history.proofs.Lists.{bools, contains_cons, contains_from_filter, contains_here, contains_later, contains_none}
use Rattle.ext_history.proofs.Once.{contains-map}
use Rattle.ext_model.specs.declared.event.Act.{Act}
use Rattle.ext_model.specs.declared.event.Act.TheVariants.{Abandon, Claim, Fail, Fill, Keep}
use Rattle.ext_model.specs.declared.event.Event.{Event}
use Rattle.ext_model.specs.declared.look.Fault.TheVariants as faults
use Rattle.ext_model.specs.declared.look.Look.{Look}
use Rattle.ext_model.specs.declared.look.Look.TheVariants as look
use Rattle.ext_model.specs.CallActs.{Calls, LaneView}
use Rattle.ext_model.specs.Events.{place_of}
use Rattle.ext_model.specs.History.{History, IsLegal, Limits, by, lane_of, own, state_after}
use Rattle.ext_tree.specs.Keys.{IsKeyNumber, KeyValue, key_at}
use Rattle.ext_tree.specs.Trees.{IsPathOf, IsTree}
use Rattle.ext_tree.proofs.KeyPlacing.{number_stays}
use Rattle.ext_tree.proofs.Walks.{one_path}
use Rattle.ext_values.specs.Known.{known_at}
use Rattle.ext_lifecycle.specs.declared.outcome.Outcome.{Outcome}
use Rattle.ext_lifecycle.specs.Endings.{is_successful}
use Rattle.ext_lifecycle.specs.Lifecycle.{ending_of}
use Rattle.ext_lifecycle.specs.FaultTexts.{VerdictText}
use Rattle.ext_plan.specs.declared.word.Word.{Word}
use Rattle.ext_plan.specs.declared.word.Word.TheVariants as words
use Rattle.ext_plan.specs.Plans.{KeyText, StepKeyText, StepText, keyed, fail, abort}
use Rattle.ext_plan.specs.StepCalls.{CallText, call_of, label_of, start_of}
use Rattle.ext_plan.specs.StepWords as step_words
use Rattle.ext_plan.specs.StoreKeys.{key_of_step}
use Rattle.ext_plan.specs.Values.{ValueText}
use Rattle.ext_plan.specs.Verdicts.{SeenText}
use Rattle.ext_store_core.specs.Claiming as claiming
use Rattle.ext_store_core.specs.Waiting.{VainAttempts}
use Rattle.ext_store_core.specs.declared.fault.Refusal.{Refusal}
use Rattle.ext_store_core.specs.declared.fault.Refusal.TheVariants as refusal
use Rattle.ext_store.specs.declared.fault.KeepFault.{KeepFault}
use Rattle.ext_store.specs.declared.fault.KeepFault.TheVariants as keep_fault
use Rattle.ext_store.specs.declared.computed.Compute.{Compute}
use Rattle.ext_store.specs.declared.computed.Compute.TheVariants as computes
use Rattle.ext_store.specs.Stores.{context_cells}
use Rattle.ext_store.specs.Computing.{Computes, ComputesFrom, IsRefused, IsUnkept, Meets, Uses, given_up_events}
use Rattle.ext_store.specs.Waiting.{ComputesAfterWaits}
use Rattle.ext_engine.specs.Order.{LaneGoesOn}
use Rattle.ext_one_report.proofs.Events.{among_more, cut_at, in_part, one_of_acts}
use Rattle.ext_one_report.proofs.StoreCalls.{Only, gets_only, keep_fails, keeps_only, only_makes, only_same, puts_only, removes_only}
use Rattle.ext_plan_parallel.specs.declared.steps.stored_value.StoredValue.{StoredValue}
use Rattle.ext_plan_parallel.specs.StoreCalls.{ComputesFault, ComputesValue, EndsCompute, EndsComputeFail, PlanLane, stored_view}
use Rattle.ext_plan_parallel.specs.StoreSteps.{PutsKept, StepComputes, StepFails, StepLooks, StepPuts, StepRemoves, StepRun, StepsRun}
use Rattle.ext_one_report.proofs.PlanCells.{changed_by}
use Rattle.ext_one_report.proofs.Going.{steps_go}
use Rattle.ext_one_report.proofs.MatchingWords.{HasNumberIn, IsRunView, Places, RunView, cell_of}
use Rattle.ext_one_report.proofs.StepsWords.{IsLaneIn, words_of}
use Rattle.ext_one_report.proofs.StoreCells.{cell_apart}
use Rattle.ext_one_report.proofs.Matching.{number_within}
use Rattle.ext_one_report.proofs.Calls.{lane_before}
use Rattle.ext_one_report.proofs.OrdersHistory.{later_drawn, prefix_rises}
use Rattle.ext_one_report.proofs.Open as values
use Rattle.ext_one_report.proofs.Open.{ComputesOpen, FailsOpen, Given, IsKeptBy, Open, given_by}
use Rattle.ext_one_report.proofs.SharedEventsWords.{IsLookedFor}
use Rattle.ext_one_report.proofs.WordCases.{finds_none}

-- ---- the events of a lane

module _ (Such : ℕ → ℕ → Act ℕ → Type 0) where
  -- each event on a cell that the lane made between these two views is such, at its place
  pub record Does (a b : LaneView) : Type 0 where
    pub number : b.number ≡ a.number
    pub begins : IsPrefix (seen_by a) (seen_by b)
    pub each : (place cell : ℕ) (event : Event ℕ) → slice_get (seen_by b) place ≡ Some event → event.lane ≡ a.number → length (seen_by a) ≤ place → place_of event.act ≡ Some cell → Such place cell event.act

  does_same : (a : LaneView) → Does a a
  does_same a = record {
    number = refl;
    begins = prefix_refl (seen_by a);
    each = λ place cell event there mine since is. let less = slice_get_within (seen_by a) place event there in absurd (omega (arith, less, since));
  }

  does_then : (a b c : LaneView) → Does a b → Does b c → Does a c
  does_then a b c one two = record {
    number = two.number ∙ one.number;
    begins = prefix_trans (seen_by a) (seen_by b) (seen_by c) one.begins two.begins;
    each = λ place cell event there mine since is. elim (cases_lt place (length (seen_by b))) [
      | inl below ↦
          let s = seen_by b in
          let stands = subst (λ (l : History). slice_get l place ≡ Some event) (sym two.begins.1) there in
          one.each place cell event (in_part s two.begins.0 place event below stands) mine since is
      | inr past ↦ two.each place cell event there (mine ∙ sym one.number) past is
    ];
  }

  -- so it is where all acts on cells are such
  does_calls : (limits : Limits) (a b : LaneView) (acts : List (Act ℕ)) → Calls limits a b acts
      → ((place cell : ℕ) (event : Event ℕ) → slice_get (seen_by b) place ≡ Some event → event.lane ≡ a.number → length (seen_by a) ≤ place → place_of event.act ≡ Some cell → Contains acts event.act → Such place cell event.act)
      → Does a b
  does_calls limits a b acts calls such = record {
    number = same_number calls;
    begins = seen_goes_on calls;
    each = λ place cell event there mine since is.
        let s = seen_by a in
        let u = seen_by b in
        let within = slice_get_within u place event there in
        let among = among_more a.number s u u (seen_goes_on calls) (prefix_refl u) place event there since within mine in
        such place cell event there mine since is (one_of_acts a.number acts event (subst (λ (l : History). Contains l event) (events_past calls) among));
  }

  does_none : (limits : Limits) (a b : LaneView) → Calls limits a b [] → Does a b
  does_none limits a b calls = does_calls limits a b [] calls (λ place cell event there mine since is among. absurd (contains_none event.act among))

  -- and where the cells are such
  does_only : (cells : List ℕ) (a b : PlanLane) → Only cells a.cells.view b.cells.view → ((place cell : ℕ) (act : Act ℕ) → Contains cells cell → Such place cell act) → Does a.cells.view b.cells.view
  does_only cells a b only such = record {
    number = only.number;
    begins = only.begins;
    each = λ place cell event there mine since is.
        let within = slice_get_within (seen_by b.cells.view) place event there in
        such place cell event.act ((only_makes cells a b only).each place cell (record { event = event; there = there; own_event = mine; since = since; until = within }) is);
  }

does_more : (Such More : ℕ → ℕ → Act ℕ → Type 0) (a b : LaneView) → ((place cell : ℕ) (act : Act ℕ) → Such place cell act → More place cell act) → Does Such a b → Does More a b
does_more Such More a b more does = record { number = does.number; begins = does.begins; each = λ place cell event there mine since is. more place cell event.act (does.each place cell event there mine since is) }

-- ---- a compute

module _ (run : RunView) (h g : History) where
  -- the act at this place computes what is computed there, behind a look-up that was absent
  pub record IsComputing (place number context : ℕ) (v : Given) (act : Act ℕ) : Type 0 where
    pub computes : values.Computes run v act
    pub looked : (path : List ℕ) → IsPathOf run.store.tree context (context ∷ path) → IsLookedFor run h g place number (context ∷ path)
    -- the number that it fills in was drawn meanwhile
    pub new : (limits : Limits) → IsLegal limits h → (n : ℕ) → act ≡ Fill (cell_of run number context) n → (state_after g).drawn < n

  module _ (tree : IsTree run.store.tree) (number context : ℕ) (v : Given) where
    abbrev cell : ℕ
    cell = cell_of run number context

    -- it does so on this cell
    pub record ComputesThere (place at : ℕ) (act : Act ℕ) : Type 0 where
      pub at_is : at ≡ cell_of run number context
      pub computing : IsComputing place number context v act

    abbrev DoesThere : LaneView → LaneView → Type 0
    DoesThere a b = Does ComputesThere a b

    -- an act that is on this cell, if it is on any, and computes there what is computed there
    abbrev Good : Act ℕ → Type 0
    Good act = (at : ℕ) → place_of act ≡ Some at → (at ≡ cell_of run number context) × values.Computes run v act

    good_claim : Good (Claim (cell_of run number context))
    good_claim at is = (sym (cc is), tt)

    good_abandon : Good (Abandon (cell_of run number context))
    good_abandon at is = (sym (cc is), tt)

    good_keep : (n : ℕ) → Good (Keep n)
    good_keep n at is = absurd (cc is)

    good_fill : (n : ℕ) → values.IsEntry run.meaning v n → Good (Fill (cell_of run number context) n)
    good_fill n known at is = (sym (cc is), known)

    good_fail : (n : ℕ) → values.IsFault run.meaning v n → Good (Fail (cell_of run number context) n)
    good_fail n known at is = (sym (cc is), known)

    abbrev Goods : List (Act ℕ) → Type 0
    Goods acts = (act : Act ℕ) → Contains acts act → Good act

    goods : (act : Act ℕ) (acts : List (Act ℕ)) → Good act → Goods acts → Goods (act ∷ acts)
    goods act acts good more other there = elim (contains_cons act acts other there) [ inl same ↦ subst Good same good | inr later ↦ more other later ]

    no_acts : Goods []
    no_acts act there = absurd (contains_none act there)

    -- what these acts fill in they have kept
    abbrev KeptFirst : List (Act ℕ) → Type 0
    KeptFirst acts = (n : ℕ) → Contains acts (Fill (cell_of run number context) n) → Contains acts (Keep n)

    kept_up : KeptFirst (Claim (cell_of run number context) ∷ Abandon (cell_of run number context) ∷ [])
    kept_up n there = elim (contains_cons (Claim (cell_of run number context)) (Abandon (cell_of run number context) ∷ []) (Fill (cell_of run number context) n) there) [
      | inl claim ↦ absurd (cc claim)
      | inr later ↦ elim (contains_cons (Abandon (cell_of run number context)) [] (Fill (cell_of run number context) n) later) [
        | inl abandon ↦ absurd (cc abandon)
        | inr none ↦ absurd (contains_none (Fill (cell_of run number context) n) none)
      ]
    ]

    kept_then : (m : ℕ) (last : Act ℕ) → ((n : ℕ) → last ≡ Fill (cell_of run number context) n → n ≡ m) → KeptFirst (Claim (cell_of run number context) ∷ Keep m ∷ last ∷ [])
    kept_then m last one n there =
        let claim : Act ℕ = Claim (cell_of run number context) in
        let fill : Act ℕ = Fill (cell_of run number context) n in
        elim (contains_cons claim (Keep m ∷ last ∷ []) fill there) [
          | inl same ↦ absurd (cc same)
          | inr later ↦ elim (contains_cons (Keep m) (last ∷ []) fill later) [
            | inl same ↦ absurd (cc same)
            | inr behind ↦ elim (contains_cons last [] fill behind) [
              | inl same ↦
                  let number_is : n ≡ m = one n same in
                  contains_later claim (Keep m ∷ last ∷ []) (Keep n) (subst (λ k. Contains (Keep m ∷ last ∷ []) (Keep k)) (sym number_is) (contains_here (Keep m) (last ∷ [])))
              | inr none ↦ absurd (contains_none fill none)
            ]
          ]
        ]

    fills_one : (m n : ℕ) → Fill (cell_of run number context) m ≡ Fill (cell_of run number context) n → n ≡ m
    fills_one m n same = let e : m ≡ n = cc same in sym e

    good_up : Goods (Claim (cell_of run number context) ∷ Abandon (cell_of run number context) ∷ [])
    good_up = goods (Claim (cell_of run number context)) (Abandon (cell_of run number context) ∷ []) good_claim (goods (Abandon (cell_of run number context)) [] good_abandon no_acts)

    good_kept : (n : ℕ) (last : Act ℕ) → Good last → Goods (Claim (cell_of run number context) ∷ Keep n ∷ last ∷ [])
    good_kept n last good = goods (Claim (cell_of run number context)) (Keep n ∷ last ∷ []) good_claim (goods (Keep n) (last ∷ []) (good_keep n) (goods last [] good no_acts))

    -- ---- a call whose look-up was absent before its events

    module _ (limits : Limits) (ancestors : List ℕ) (path_is : IsPathOf run.store.tree context (context ∷ ancestors)) (a b : LaneView) (low : IsPrefix g (seen_by a)) (high : IsPrefix (seen_by b) h) where
      -- an event of the lane comes behind the point of the look-up
      looked_for : claiming.LooksFirst (cell_of run number) (context ∷ ancestors) a b → (place : ℕ) (event : Event ℕ) → slice_get (seen_by b) place ≡ Some event → event.lane ≡ a.number → length (seen_by a) ≤ place
          → IsLookedFor run h g place number (context ∷ ancestors)
      looked_for first place event there mine since =
          let s = seen_by a in
          let p = first.at in
          let point = first.point in
          let n = a.number in
          let more = point.since.0 in
          let own_is : own n s ++ own n more ≡ own n s ++ [] = sym (own_append lane_of n s more) ∙ (ap (own n) point.since.1 ∙ point.own_events) in
          let none : own n more ≡ [] = append_cancel_left (own n s) (own n more) [] own_is in
          record {
            at = p;
            since = prefix_trans g s p low point.since;
            part = prefix_trans p (seen_by b) h point.until high;
            until = elim (cases_lt place (length p)) [
              | inl below ↦ absurd (contains_none event (subst (λ (l : History). Contains l event) none (among_more n s p (seen_by b) point.since point.until place event there since below mine)))
              | inr past ↦ past
            ];
            absent = first.missing;
          }

      -- what the lane does in these acts is among what it has seen in the end and had not seen before
      made_among : (acts : List (Act ℕ)) (calls : Calls limits a b acts) (act : Act ℕ) → Contains acts act → Contains (seen_goes_on calls).0 (by a.number act)
      made_among acts calls act among =
          let goes = seen_goes_on calls in
          contains_from_filter (λ (x : Event ℕ). lane_of x == a.number) goes.0 (by a.number act) (subst (λ (l : History). Contains l (by a.number act)) (sym (events_past calls)) (contains-map (by a.number) acts act among))

      -- a number that the lane keeps in these acts is greater than all that were drawn before
      keeps_new : (acts : List (Act ℕ)) → Calls limits a b acts → (lim : Limits) → IsLegal lim h → (n : ℕ) → Contains acts (Keep n) → (state_after g).drawn < n
      keeps_new acts calls lim legal n among =
          let goes = seen_goes_on calls in
          let there = made_among acts calls (Keep n) among in
          let legal_there : IsLegal lim (seen_by a ++ goes.0) = subst (IsLegal lim) (sym goes.1) (legal_begun (seen_by b) h high legal) in
          let late = later_drawn lim (seen_by a) goes.0 a.number n legal_there there in
          let early = prefix_rises g (seen_by a) low in
          omega (arith, late, early)

      attempt : (acts : List (Act ℕ)) → Calls limits a b acts → Goods acts → KeptFirst acts → claiming.LooksFirst (cell_of run number) (context ∷ ancestors) a b → DoesThere a b
      attempt acts calls good kept first = does_calls ComputesThere limits a b acts calls (λ place at event there mine since is among.
          let its = good event.act among at is in
          record {
            at_is = its.0;
            computing = record {
              computes = its.1;
              looked = λ path other.
                  subst (λ (l : List ℕ). IsLookedFor run h g place number l) (one_path run.store.tree tree context (context ∷ ancestors) (context ∷ path) path_is other) (looked_for first place event there mine since);
              new = λ lim legal n is. keeps_new acts calls lim legal n (kept n (subst (Contains acts) is among));
            };
          })

      given_up : Calls limits a b (given_up_events run.store context number) → claiming.LooksFirst (cell_of run number) (context ∷ ancestors) a b → DoesThere a b
      given_up calls first = attempt (given_up_events run.store context number) calls good_up kept_up first

      meets : (met : Look) → Meets limits run.store context ancestors number a b met → DoesThere a b
      unfolding claiming.Meets
      meets met (inl at) = does_none ComputesThere limits a b at.calls
      meets met (inr up) = given_up up.0 up.1.claims.looked_first

      refused : (why : Refusal) → IsRefused limits run.store context ancestors number a b why → DoesThere a b
      unfolding claiming.IsRefused
      refused (refusal.Busy at) r = meets (look.Busy at) r
      refused (refusal.Closed at) r = meets (look.Closed at) r
      refused refusal.Contended (inl overtaken) = does_none ComputesThere limits a b overtaken.calls
      refused refusal.Contended (inr up) = given_up up.0 up.1.looked_first
      refused refusal.DirectoryFull r = absurd r
      refused refusal.Unplaced r = absurd r
      refused refusal.Memory r = absurd r
      refused refusal.Exhausted r = does_none ComputesThere limits a b r.0.calls

      unkept : (why : KeepFault) → claiming.LooksFirst (cell_of run number) (context ∷ ancestors) a b → IsUnkept limits run.store.tries (Claim (cell_of run number context) ∷ []) (cell_of run number context) a b why → DoesThere a b
      unfolding IsUnkept
      unkept keep_fault.Memory first r = given_up r first
      unkept keep_fault.NumbersFull first r = given_up r.0 first
      unkept keep_fault.Contended first r = given_up r.0 first
      unkept keep_fault.Unplaced first r = attempt (Claim (cell_of run number context) ∷ Keep r.0 ∷ Abandon (cell_of run number context) ∷ []) r.1 (good_kept r.0 (Abandon (cell_of run number context)) good_abandon) (kept_then r.0 (Abandon (cell_of run number context)) (λ n same. absurd (cc same))) first

      -- `known` says what a number stands for that was computed, and `faulted` what that of a kept fault does
      from : (result : Compute StoredValue (Unit {0})) → ComputesFrom limits run.store context ancestors number a b result → ((n : ℕ) → result ≡ computes.Computed n → values.IsEntry run.meaning v n)
          → ((n : ℕ) → result ≡ computes.FaultKept n → Contains (seen_by b) (by a.number (Fail (cell_of run number context) n)) → values.IsFault run.meaning v n) → DoesThere a b
      unfolding ComputesFrom
      from (computes.Computed n) r known faulted =
          attempt (Claim (cell_of run number context) ∷ Keep n ∷ Fill (cell_of run number context) n ∷ []) r.1.calls (good_kept n (Fill (cell_of run number context) n) (good_fill n (known n refl))) (kept_then n (Fill (cell_of run number context) n) (fills_one n)) r.0.claims.looked_first
      from (computes.Found at n unused) r known faulted = meets (look.Found at n) r
      from (computes.Failed why) r known faulted = given_up r.2 r.1.claims.looked_first
      from (computes.FaultKept n) r known faulted =
          let cell : ℕ = cell_of run number context in
          let calls = r.2.calls in
          let goes = seen_goes_on calls in
          let acts : List (Act ℕ) = Claim cell ∷ Keep n ∷ Fail cell n ∷ [] in
          let last : Contains acts (Fail cell n) = contains_later (Claim cell) (Keep n ∷ Fail cell n ∷ []) (Fail cell n) (contains_later (Keep n) (Fail cell n ∷ []) (Fail cell n) (contains_here (Fail cell n) [])) in
          let seen : Contains (seen_by b) (by a.number (Fail cell n)) =
          subst (λ (l : History). Contains l (by a.number (Fail cell n))) goes.1 (Contains-append_right (seen_by a) goes.0 (by a.number (Fail cell n)) (made_among acts calls (Fail cell n) last)) in
          attempt acts calls (good_kept n (Fail cell n) (good_fail n (faulted n refl seen))) (kept_then n (Fail cell n) (λ m same. absurd (cc same))) r.1.claims.looked_first
      from (computes.FaultUnkept why cause) r known faulted = unkept cause r.1.claims.looked_first r.2
      from (computes.FaultStands at n unused) r known faulted = meets (look.Fault at n) r
      from (computes.Unkept value cause) r known faulted = unkept cause r.0.claims.looked_first r.1
      from (computes.Refused why unused) r known faulted = refused why r

-- a store in whose history a fault is kept keeps faults
keeps_faults : (limits : Limits) (h : History) (lane cell n : ℕ) → IsLegal limits h → Contains h (by lane (Fail cell n)) → limits.keep_faults ≡ true
keeps_faults limits h lane cell n legal there =
    let event : Event ℕ = by lane (Fail cell n) in
    let cut = cut_at h there.0 event (slice_get-get_or h there.0 event there.1 ∙ ap Some there.2) in
    (legal.each cut.0 event cut.1 cut.2).keeps

module _ (run : RunView) (h g : History) (tree : IsTree run.store.tree) (number context : ℕ) (v : Given) where
  abbrev At : ℕ → ℕ → Act ℕ → Type 0
  At = ComputesThere run h g tree number context v

  -- a lane goes on in an attempt that is refused
  refused_goes : (limits : Limits) (ancestors : List ℕ) → IsPathOf run.store.tree context (context ∷ ancestors) → (a b : LaneView) (why : Refusal) → IsRefused limits run.store context ancestors number a b why
      → IsPrefix (seen_by a) (seen_by b)
  refused_goes limits ancestors path_is a b why r = (refused run (seen_by b) [] tree number context v limits ancestors path_is a b (seen_by a, refl) (prefix_refl (seen_by b)) why r).begins

  -- attempts in vain
  vain : (attempts : ℕ) (a b : LaneView) → IsPrefix g (seen_by a) → IsPrefix (seen_by b) h → VainAttempts (claiming.ClaimsMissing (context_cells run.store) context number) attempts a b → Does At a b
  vain zero a b low high same = subst (λ (l : LaneView). Does At a l) (sym same) (does_same At a)
  vain (suc attempts) a b low high more =
      let m = more.0 in
      let limits = run.store.id.cells.limits in
      let last = more.2.refused in
      let goes = refused_goes limits last.0 last.1 m b more.2.why last.2 in
      let early = vain attempts a m low (prefix_trans (seen_by m) (seen_by b) h goes high) more.1 in
      does_then At a m b early (refused run h g tree number context v limits last.0 last.1 m b (prefix_trans g (seen_by a) (seen_by m) low early.begins) high more.2.why last.2)

  -- what a compute does that may wait
  computes_does : (a b : PlanLane) (result : Compute StoredValue (Unit {0})) → ((n : ℕ) → result ≡ computes.Computed n → values.IsEntry run.meaning v n)
      → ((lane n : ℕ) → result ≡ computes.FaultKept n → Contains (seen_by b.cells.view) (by lane (Fail (cell_of run number context) n)) → values.IsFault run.meaning v n)
      → IsPrefix g (seen_by a.cells.view) → IsPrefix (seen_by b.cells.view) h → ComputesAfterWaits run.store context number a.cells b.cells result → Does At a.cells.view b.cells.view
  unfolding ComputesAfterWaits Computes
  computes_does a b result known faulted low high waits =
      let m = waits.between in
      let last = waits.then_is in
      let limits = a.cells.cells.limits in
      let s = seen_by b.cells.view in
      let goes = (from run s [] tree number context v limits last.0 last.1 m b.cells.view (seen_by m, refl) (prefix_refl s) result last.2 known (faulted m.number)).begins in
      let early = vain waits.attempts a.cells.view m low (prefix_trans (seen_by m) s h goes high) waits.in_vain in
      does_then At a.cells.view m b.cells.view early
      (from run h g tree number context v limits last.0 last.1 m b.cells.view (prefix_trans g (seen_by a.cells.view) (seen_by m) low early.begins) high result last.2 known (faulted m.number))

module _ (run : RunView) (h g : History) (tree : IsTree run.store.tree) (number context : ℕ) (name label : List ℕ) (a : PlanLane) (o : Outcome) (b : PlanLane) (lane : IsLaneIn run b)
    (low : IsPrefix g (seen_by a.cells.view)) (high : IsPrefix (seen_by b.cells.view) h) where
  -- one whose factory gives this value,
  value_does : (v : ValueText) → ComputesValue run.store context number name label v a o b → Does (ComputesThere run h g tree number context (values.of_value v)) a.cells.view b.cells.view
  value_does v made =
      let Ends : Compute StoredValue (Unit {0}) → Type 0 = λ r. EndsCompute name label r made.between o b in
      let known : (n : ℕ) → made.result ≡ computes.Computed n → run.meaning.values n ≡ Some v = λ n is.
      let uses = subst (λ (r : Compute StoredValue (Unit {0})). Uses (λ answer. answer ≡ Ok made.given) a made.between r) is made.uses in
      let ends = subst Ends is made.ends in
      let told : known_at b.known n ≡ Some uses.0 = ap (λ (l : PlanLane). known_at l.known n) ends.0 ∙ uses.2.learnt in
      let one : uses.0 ≡ made.given = cc uses.1 in
      lane.values n uses.0 told ∙ ap Some (ap stored_view one ∙ made.value_is) in
      computes_does run h g tree number context (values.of_value v) a b made.result known (λ who n is there. absurd (subst Ends is made.ends)) low high made.computed

  -- and one whose factory fails with this text: where the store keeps faults, it keeps this one
  fault_does : (text : List ℕ) (v : Given) → IsLegal run.store.id.cells.limits h → (run.store.id.cells.limits.keep_faults ≡ true → v ≡ values.of_fault text) → ComputesFault run.store context number name label text a o b
      → Does (ComputesThere run h g tree number context v) a.cells.view b.cells.view
  fault_does text v legal given made =
      let Ends : Compute StoredValue (Unit {0}) → Type 0 = λ r. EndsComputeFail name label text r made.between o b in
      let faulted : (who n : ℕ) → made.result ≡ computes.FaultKept n → Contains (seen_by b.cells.view) (by who (Fail (cell_of run number context) n)) → values.IsFault run.meaning v n = λ who n is there.
      let uses = subst (λ (r : Compute StoredValue (Unit {0})). Uses (λ answer. answer ≡ Err (faults.Text made.message)) a made.between r) is made.uses in
      let ends = subst Ends is made.ends in
      let told : known_at b.faults n ≡ Some uses.0 = ap (λ (l : PlanLane). known_at l.faults n) ends.0 ∙ uses.3.learnt in
      let one : uses.0 ≡ faults.Text made.message = cc uses.1 in
      let means : run.meaning.faults n ≡ Some text = lane.faults n uses.0 told ∙ (ap words_of one ∙ ap Some made.message_is) in
      let keeps = keeps_faults run.store.id.cells.limits (seen_by b.cells.view) who (cell_of run number context) n (legal_begun (seen_by b.cells.view) h high legal) there in
      subst (λ x. values.IsFault run.meaning x n) (sym (given keeps)) means in
      computes_does run h g tree number context v a b made.result (λ n is. absurd (subst Ends is made.ends)) faulted low high made.computed

-- ---- steps

-- `changed` has the places that the node may change, and `shared` those that it shares, where the store keeps what is left there
module _ (run : RunView) (view : IsRunView run) (tree : IsTree run.store.tree) (h g : History) (legal : IsLegal run.store.id.cells.limits h) (changed : Places) (shared : Open)
    (kept : (context : ℕ) (key : KeyValue) (v : Given) → shared context key ≡ Some v → IsKeptBy run.store.id.cells.limits.keep_faults v) where
  -- an act at this place on a cell is at one of the places that may be changed, and where the place is shared it computes what is computed there
  abbrev pub IsAsShared : ℕ → ℕ → Act ℕ → Type 0
  IsAsShared place cell act =
      (context number : ℕ) (key : KeyValue) → HasNumberIn run key number → cell ≡ cell_of run number context
      → (changed context key ≡ true) × ((v : Given) → shared context key ≡ Some v → IsComputing run h g place number context v act)

  -- what a factory leaves that fails with this text
  abbrev left_if : List ℕ → Bool → Given
  left_if text keep = given_by keep words.ComputeFail text

  abbrev left_by : List ℕ → Given
  left_by text = left_if text run.store.id.cells.limits.keep_faults

  abbrev DoesAsShared : PlanLane → PlanLane → Type 0
  DoesAsShared a b = Does IsAsShared a.cells.view b.cells.view

  module _ (keys : List KeyText) (path : List ℕ) where
    -- the step computes what is left at a shared place, or its factory fails where nothing is
    abbrev pub ComputesShared : StepText → Type 0
    ComputesShared step = ComputesOpen keys path shared step ⊎ FailsOpen keys path shared step

    -- what a step changes is one of these places, and where it is shared the step computes there
    pub record IsFit (step : StepText) : Type 0 where
      pub changes_there : (key : StepKeyText) (up : ℕ) → changed_by step ≡ Some (key, up) → changed (start_of (drop up path)) (key_of_step keys key) ≡ true
      pub computes : (key : StepKeyText) (up : ℕ) (v : Given) → changed_by step ≡ Some (key, up) → shared (start_of (drop up path)) (key_of_step keys key) ≡ Some v → ComputesShared step

    module _ (step : StepText) (fit : IsFit step) (key : StepKeyText) (up : ℕ) (changes : changed_by step ≡ Some (key, up)) (number : ℕ) (has : HasNumberIn run (key_of_step keys key) number) where
      -- an act on the cell of the step
      at_cell : (place : ℕ) (act : Act ℕ) → ((v : Given) → shared (start_of (drop up path)) (key_of_step keys key) ≡ Some v → IsComputing run h g place number (start_of (drop up path)) v act)
          → IsAsShared place (cell_of run number (start_of (drop up path))) act
      at_cell place act computing context n other has_other same =
          let start : ℕ = start_of (drop up path) in
          let k : KeyValue = key_of_step keys key in
          let parts = cell_apart run.store start context number n (number_within run k number view has) (number_within run other n view has_other) same in
          let both : Some k ≡ Some other = sym has.there ∙ (ap (λ m. key_at run.numbering m) parts.1 ∙ has_other.there) in
          let key_is : k ≡ other = cc both in
          let P : ℕ → ℕ → KeyValue → Type 0 = λ c m x. (changed c x ≡ true) × ((v : Given) → shared c x ≡ Some v → IsComputing run h g place m c v act) in
          subst (λ c. P c n other) parts.0 (subst (λ m. P start m other) parts.1 (subst (λ x. P start number x) key_is (fit.changes_there key up changes, computing)))

      -- a step that computes at no place
      does_one : (ComputesShared step → ⊥) → (a b : PlanLane) → Only (cell_of run number (start_of (drop up path)) ∷ []) a.cells.view b.cells.view → DoesAsShared a b
      does_one never a b only = does_only IsAsShared (cell_of run number (start_of (drop up path)) ∷ []) a b only (λ place at act there.
          let such = at_cell place act (λ v is. absurd (never (fit.computes key up v changes is))) in
          elim (contains_cons (cell_of run number (start_of (drop up path))) [] at there) [
            | inl same ↦ subst (λ c. IsAsShared place c act) same such
            | inr none ↦ absurd (contains_none at none)
          ])

      -- one that computes this
      does_compute : (v : Given) → (ComputesShared step → shared (start_of (drop up path)) (key_of_step keys key) ≡ Some v) → (a b : PlanLane)
          → Does (ComputesThere run h g tree number (start_of (drop up path)) v) a.cells.view b.cells.view → DoesAsShared a b
      does_compute v is_given a b does =
          let start : ℕ = start_of (drop up path) in
          does_more (ComputesThere run h g tree number start v) IsAsShared a.cells.view b.cells.view
          (λ place at act its.
          let such = at_cell place act (λ w is.
          let both : Some w ≡ Some v = sym is ∙ is_given (fit.computes key up w changes is) in
          let same : w ≡ v = cc both in
          subst (λ x. IsComputing run h g place number start x act) (sym same) its.computing) in
          subst (λ c. IsAsShared place c act) (sym its.at_is) such)
          does

    does_nothing : (a b : PlanLane) → Only [] a.cells.view b.cells.view → DoesAsShared a b
    does_nothing a b only = does_only IsAsShared [] a b only (λ place at act there. absurd (contains_none at there))

    still : (a b : PlanLane) → b.cells ≡ a.cells → DoesAsShared a b
    still a b same = does_nothing a b (subst (λ l. Only [] a.cells.view l.view) (sym same) (only_same [] a.cells.view))

    unchanged : (a b : PlanLane) → b ≡ a → DoesAsShared a b
    unchanged a b same = still a b (ap (λ (l : PlanLane). l.cells) same)

    looks : (call : CallText) (verdict : SeenText → VerdictText) (a : PlanLane) (o : Outcome) (b : PlanLane) → StepLooks run.store call verdict a o b → DoesAsShared a b
    looks call verdict a o b (inl made) = does_nothing a b (gets_only run.store (start_of call.path) made.0 a.cells b.cells _ made.2.1.looked)
    looks call verdict a o b (inr refused) = still a b refused.1.still

    module _ (step : StepText) (fit : IsFit step) (key : StepKeyText) (up : ℕ) (changes : changed_by step ≡ Some (key, up)) (name : List ℕ) (a : PlanLane) (o : Outcome) (b : PlanLane) (lane : IsLaneIn run b) where
      abbrev call : CallText
      call = call_of keys path name key up

      has_number : (number : ℕ) → IsKeyNumber b.keys (key_of_step keys key) number → HasNumberIn run (key_of_step keys key) number
      has_number number named = number_stays b.keys run.numbering (key_of_step keys key) number lane.keys named

      puts : (ComputesShared step → ⊥) → (value : ValueText) → StepPuts run.store (call_of keys path name key up) value a o b → DoesAsShared a b
      puts never value (inr n) = does_nothing a b (keep_fails run.store a.cells b.cells n.why n.keeps_nothing.fails)
      puts never value (inl p) = does_then IsAsShared a.cells.view p.between.cells.view b.cells.view (does_nothing a p.between (keeps_only p.kept_value a p.between p.kept p.keeps)) (stores p)
        where
          stores : (p : PutsKept run.store (call_of keys path name key up) value a o b) → DoesAsShared p.between b
          stores p = elim p.stores [
            | inl made ↦ does_one step fit key up changes made.0 (has_number made.0 made.1) never p.between b (puts_only run.store (start_of (drop up path)) made.0 p.kept p.between.cells b.cells made.2.result made.2.puts)
            | inr refused ↦ still p.between b refused.1.still
          ]

      removes : (ComputesShared step → ⊥) → StepRemoves run.store (call_of keys path name key up) a o b → DoesAsShared a b
      removes never (inl made) = does_one step fit key up changes made.0 (has_number made.0 made.1) never a b (removes_only run.store (start_of (drop up path)) made.0 a.cells b.cells made.2.result made.2.removes)
      removes never (inr refused) = still a b refused.1.still

      gives : (v : ValueText) → (ComputesShared step → shared (start_of (drop up path)) (key_of_step keys key) ≡ Some (values.of_value v)) → IsPrefix g (seen_by a.cells.view) → IsPrefix (seen_by b.cells.view) h
          → StepComputes run.store (call_of keys path name key up) v a o b → DoesAsShared a b
      gives v is_given low high (inl made) =
          does_compute step fit key up changes made.0 (has_number made.0 made.1) (values.of_value v) is_given a b
          (value_does run h g tree made.0 (start_of (drop up path)) name (label_of keys key) a o b lane low high v made.2)
      gives v is_given low high (inr refused) = still a b refused.1.still

      fails : (text : List ℕ) → (ComputesShared step → shared (start_of (drop up path)) (key_of_step keys key) ≡ Some (left_by text)) → IsPrefix g (seen_by a.cells.view) → IsPrefix (seen_by b.cells.view) h
          → StepFails run.store (call_of keys path name key up) text a o b → DoesAsShared a b
      fails text is_given low high (inl made) =
          does_compute step fit key up changes made.0 (has_number made.0 made.1) (left_by text) is_given a b
          (fault_does run h g tree made.0 (start_of (drop up path)) name (label_of keys key) a o b lane low high text (left_by text) legal (λ keeps. ap (left_if text) keeps) made.2)
      fails text is_given low high (inr refused) = still a b refused.1.still

    -- what a step gives that computes, and is shared
    shared_value : (word : Word) (key : StepKeyText) (text : List ℕ) (up : ℕ) → (word ≡ words.ComputeFail → ⊥) → ComputesShared (keyed word key text up)
        → shared (start_of (drop up path)) (key_of_step keys key) ≡ Some (given_by true word text)
    shared_value word key text up never (inl it) = it.1
    shared_value word key text up never (inr fails) = absurd (never fails.0)

    shared_fault : (key : StepKeyText) (text : List ℕ) (up : ℕ) → ComputesShared (keyed words.ComputeFail key text up) → shared (start_of (drop up path)) (key_of_step keys key) ≡ Some (left_by text)
    shared_fault key text up (inl it) =
        let start : ℕ = start_of (drop up path) in
        it.1 ∙ ap Some (sym (ap (left_if text) (kept start (key_of_step keys key) (values.of_fault text) it.1)))
    shared_fault key text up (inr fails) =
        let start : ℕ = start_of (drop up path) in
        fails.1 ∙ ap Some (sym (ap (left_if text) (kept start (key_of_step keys key) (values.of_nothing text) fails.1)))

    never_computes : (word : Word) (key : StepKeyText) (text : List ℕ) (up : ℕ) → step_words.computes word ≡ false → ComputesShared (keyed word key text up) → ⊥
    never_computes word key text up none (inl it) = let both : true ≡ false = sym it.0 ∙ none in cc both
    never_computes word key text up none (inr fails) = let both : true ≡ false = ap step_words.computes (sym fails.0) ∙ none in cc both

    step_does : (step : StepText) (a : PlanLane) (o : Outcome) (b : PlanLane) → StepRun run.store keys path step a o b → IsFit step → IsLaneIn run b → IsPrefix g (seen_by a.cells.view) → IsPrefix (seen_by b.cells.view) h → DoesAsShared a b
    step_does (keyed words.Put key text up) a o b (inl made) fit lane low high = puts (keyed words.Put key text up) fit key up refl (codes "put") a o b lane (never_computes words.Put key text up refl) _ made
    step_does (keyed words.PutCloseable key text up) a o b (inl made) fit lane low high = puts (keyed words.PutCloseable key text up) fit key up refl (codes "put!") a o b lane (never_computes words.PutCloseable key text up refl) _ made
    step_does (keyed words.Want key text up) a o b (inl made) fit lane low high = looks (call_of keys path (codes "want") key up) _ a o b made
    step_does (keyed words.None key text up) a o b (inl made) fit lane low high = looks (call_of keys path (codes "none") key up) _ a o b made
    step_does (keyed words.Remove key text up) a o b (inl made) fit lane low high = removes (keyed words.Remove key text up) fit key up refl (codes "remove") a o b lane (never_computes words.Remove key text up refl) made
    step_does (keyed words.Compute key text up) a o b (inl made) fit lane low high = gives (keyed words.Compute key text up) fit key up refl (codes "compute") a o b lane _ (shared_value words.Compute key text up (λ is. cc is)) low high made
    step_does (keyed words.ComputeCloseable key text up) a o b (inl made) fit lane low high = gives (keyed words.ComputeCloseable key text up) fit key up refl (codes "compute!") a o b lane _ (shared_value words.ComputeCloseable key text up (λ is. cc is)) low high made
    step_does (keyed words.ComputeFail key text up) a o b (inl made) fit lane low high = fails (keyed words.ComputeFail key text up) fit key up refl (codes "computefail") a o b lane text (shared_fault key text up) low high made
    step_does (keyed word key text up) a o b (inr lacks) fit lane low high = unchanged a b (finds_none keys word key a o b lacks).unchanged
    step_does (fail text) a o b made fit lane low high = unchanged a b made.0
    step_does (abort text) a o b made fit lane low high = unchanged a b made.0

    pub steps_do : (steps : List StepText) (a : PlanLane) (o : Outcome) (b : PlanLane) → StepsRun run.store keys path steps a o b → ((step : StepText) → Contains steps step → IsFit step) → IsLaneIn run b
        → IsPrefix g (seen_by a.cells.view) → IsPrefix (seen_by b.cells.view) h → DoesAsShared a b
    unfolding StepsRun
    steps_do [] a o b made fit lane low high = unchanged a b made.0
    steps_do (step ∷ more) a o b made fit lane low high =
        let m = made.1 in
        elim (bools (is_successful (ending_of made.0.verdict))) [
          | inl on ↦
              let later = made.4.0 on in
              let goes : LaneGoesOn m b = steps_go run.store keys path more m later.0 b later.1 in
              let one = step_does step a made.0 m made.2 (fit step (contains_here step more)) (lane_before run m b goes lane) low (prefix_trans (seen_by m.cells.view) (seen_by b.cells.view) h goes.seen high) in
              does_then IsAsShared a.cells.view m.cells.view b.cells.view one
              (steps_do more m later.0 b later.1 (λ s there. fit s (contains_later step more s there)) lane (prefix_trans g (seen_by a.cells.view) (seen_by m.cells.view) low one.begins) high)
          | inr off ↦ subst (λ (x : PlanLane). IsLaneIn run x → IsPrefix (seen_by x.cells.view) h → DoesAsShared a x) (sym (made.4.1 off).1) (λ last within. step_does step a made.0 m made.2 (fit step (contains_here step more)) last low within) lane high
        ]
