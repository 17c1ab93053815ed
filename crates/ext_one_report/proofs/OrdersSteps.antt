-- One step at the place that it changes: it leaves what stood there in both runs, or a new number in both.
use Rattle.std.proofs.Common.{◌≡◌, ◌<◌, ◌+◌, ◌⊎◌, ℕ, inl, inr, true, false, List, [], ◌∷◌, ◌++◌, drop, length, Option, None, Some, refl, ap, sym, subst, ◌∙◌, arith}
use Rattle.std.specs.Prelude.{if◌then◌else◌}
use Rattle.std.proofs.lemmas.List.{length-drop}
use Rattle.ext_history.specs.Histories.{seen_by}
use Rattle.ext_history.proofs.Legal.{legal_begun}
use Rattle.ext_model.specs.declared.event.Act.TheVariants.{Put, Remove}
use Rattle.ext_model.specs.declared.slot.Slot.{Slot}
use Rattle.ext_model.specs.declared.slot.Slot.TheVariants as slot
use Rattle.ext_model.specs.Events.{slot_after}
use Rattle.ext_model.specs.History.{History, IsLegal, Limits, by, state_after}
use Rattle.ext_model.specs.Plain.{Place, any_lane}
use Rattle.ext_model.specs.State.{State}
use Rattle.ext_model.proofs.Changes as model_changes
use Rattle.ext_model.proofs.Words.{slots-push}
use Rattle.ext_tree.specs.Keys.{KeyValue}
use Rattle.ext_tree.proofs.KeyPlacing.{one_key, one_number}
use Rattle.ext_lifecycle.specs.declared.outcome.Outcome.{Outcome}
use Rattle.ext_plan.specs.declared.word.Word.TheVariants as words
use Rattle.ext_plan.specs.Plans.{KeyText, StepKeyText, StepText, abort, fail, keyed}
use Rattle.ext_plan.specs.Steps.{height}
use Rattle.ext_plan.specs.StepWords.{word_text}
use Rattle.ext_plan.specs.StepCalls.{call_of, label_of, start_of}
use Rattle.ext_plan.specs.StoreKeys.{is_there, key_of_step, number_of_key}
use Rattle.ext_plan.specs.Values.{ValueText}
use Rattle.ext_plan_plain.specs.ValueStates.{ValueState, after_act, enough, reply_to}
use Rattle.ext_plan_plain.specs.StepRuns.{StepEnd, compute_looked, compute_numbered, computefail_looked, computefail_numbered, found_along, numbered_by, put_by, remove_numbered, step_run}
use Rattle.ext_plan_parallel.specs.StoreCalls.{PlanLane}
use Rattle.ext_plan_parallel.specs.StoreSteps.{StepComputes, StepFails, StepRemoves, StepRun}
use Rattle.ext_one_report.proofs.MatchingWords.{HasNumberIn, Places, RunView, TextMeaning, after_event, cell_of, plain_meaning, plain_slot}
use Rattle.ext_one_report.proofs.StandingsWords.{AreMatched, Standing, fault, nothing, sealed, value}
use Rattle.ext_one_report.proofs.Standings.{Holds, holds}
use Rattle.ext_one_report.specs.FullRuns.{FindsAll, StepFinds}
use Rattle.ext_one_report.proofs.PlanCells.{changed_by}
use Rattle.ext_one_report.proofs.CallsWords.{AreBeside, StepHasRoom}
use Rattle.ext_one_report.proofs.StepsWords.{AreCompared, HasRoom}
use Rattle.ext_one_report.proofs.WordCases.{finds_none}
use Rattle.ext_one_report.proofs.Calls.{path_above}
use Rattle.ext_cells.specs.Lanes.{CellsId}
use Rattle.ext_one_report.proofs.StepLooks.{key_found}
use Rattle.ext_one_report.proofs.Matching.{kept_drawn, place_then, plain_there}
use Rattle.ext_one_report.proofs.FrameSlots.{ActsAt, acts_itself, acts_more, leaves_kept}
use Rattle.ext_one_report.proofs.FrameSteps.{compute_acts, fail_acts}
use Rattle.ext_one_report.proofs.PlainFrames.{no_context}
use Rattle.ext_one_report.proofs.OpenPlain.{IsNamedThere, named_there}
use Rattle.ext_one_report.proofs.Changes.{PutLeft, put_left}
use Rattle.ext_one_report.proofs.OfPlan.{value_in}
use Rattle.ext_one_report.proofs.OfPlanStates.{less_by, less_none}
use Rattle.ext_one_report.proofs.Orders.{AreNew, StandWith, drawn_in}
use Rattle.ext_one_report.proofs.OrdersHistory.{later_drawn, on_cell, stood_or_stored}
use Rattle.ext_one_report.proofs.OrdersPlain.{Newer, compute_newer, fail_newer, look_ends}
use Rattle.ext_one_report.proofs.OrdersTries.{StoresNone, Tries, drew_there, entry_stays, kept_tries, removes_none, waits_tries}

-- a value stands in both, or in neither
abbrev pub Coupled : Option Slot → Option Slot → Type 0
Coupled x y = ((n : ℕ) × (m : ℕ) × (value_in x ≡ Some n) × (value_in y ≡ Some m)) ⊎ ((value_in x ≡ None) × (value_in y ≡ None))

couple_by : (ours theirs : TextMeaning) (x y : Option Slot) (s : Standing ValueText (List ℕ)) → Holds ours s x → Holds theirs s y → Coupled x y
couple_by ours theirs x y nothing here there = inr (ap value_in here, ap value_in there)
couple_by ours theirs x y (value w) here there = inl (here.0, there.0, ap value_in here.1, ap value_in there.1)
couple_by ours theirs x y (fault f) here there = inr (ap value_in here.1, ap value_in there.1)
couple_by ours theirs x y (sealed None) here there = inr (ap value_in here, ap value_in there)
couple_by ours theirs x y (sealed (Some w)) here there = inl (here.0, there.0, ap value_in here.1, ap value_in there.1)

pub couple : (ours theirs : TextMeaning) (x y : Option Slot) → AreMatched ours theirs x y → Coupled x y
couple ours theirs x y matched = couple_by ours theirs x y matched.standing (holds ours x matched.standing matched.here) (holds theirs y matched.standing matched.there)

begins : (path : List ℕ) → 0 < length path → (above : List ℕ) × (path ≡ start_of path ∷ above)
begins [] some = absurd (omega (arith, some))
begins (first ∷ above) some = (above, refl)

module _ (run : RunView) (keys : List KeyText) (path : List ℕ) (places : Places) (name : List ℕ) (key : StepKeyText) (up : ℕ) (a : PlanLane) (o : Outcome) (b : PlanLane) (s : ValueState)
    (here : places (start_of (drop up path)) (key_of_step keys key) ≡ true) (both : AreCompared run keys path places name key up a o b s) (limits : Limits) (legal : IsLegal limits (seen_by b.cells.view)) where
  abbrev context : ℕ
  context = start_of (drop up path)

  abbrev k : KeyValue
  k = key_of_step keys key

  -- at the place: as it was in both, or new in both
  abbrev pub AtEnd : ValueState → Type 0
  AtEnd t = (m n : ℕ) → StandWith run context k (seen_by b.cells.view) t m n → StandWith run context k (seen_by a.cells.view) s m n ⊎ AreNew (seen_by a.cells.view) s m n

  abbrev stood : ℕ → Option Slot
  stood number = (state_after (seen_by a.cells.view)).slots (cell_of run number context)

  abbrev stands_now : ℕ → Option Slot
  stands_now number = (state_after (seen_by b.cells.view)).slots (cell_of run number context)

  lanes_new : Tries a.cells.view b.cells.view → (number m : ℕ) → HasNumberIn run k number → value_in (stands_now number) ≡ Some m → (value_in (stood number) ≡ Some m) ⊎ (drawn_in (seen_by a.cells.view) < m)
  lanes_new tries number m has is =
      let cell = cell_of run number context in
      elim (stood_or_stored (seen_by a.cells.view) tries.more cell m (subst (λ (h : History). value_in ((state_after h).slots cell) ≡ Some m) tries.is is)) [
        | inl was ↦ inl was
        | inr w ↦
            let mine = both.alone.own tries.more tries.is context k number here has w.event w.there (on_cell cell w.event.act w.on) in
            inr (later_drawn limits (seen_by a.cells.view) tries.more a.cells.view.number m (subst (IsLegal limits) tries.is legal) (tries.drawn w.event m w.there mine w.stores))
      ]

  lanes_stay : Tries a.cells.view b.cells.view → (number m : ℕ) → HasNumberIn run k number → value_in (stood number) ≡ Some m → stands_now number ≡ stood number
  lanes_stay tries number m has is =
      let cell = cell_of run number context in
      ap (λ (h : History). (state_after h).slots cell) tries.is
      ∙ entry_stays limits (seen_by a.cells.view) tries.more cell m (subst (IsLegal limits) tries.is legal) is
      (λ e there at. tries.each e there (both.alone.own tries.more tries.is context k number here has e there (on_cell cell e.act at)))

  lanes_less : StoresNone a.cells.view b.cells.view → (number m : ℕ) → HasNumberIn run k number → value_in (stands_now number) ≡ Some m → value_in (stood number) ≡ Some m
  lanes_less quiet number m has is =
      let cell = cell_of run number context in
      elim (stood_or_stored (seen_by a.cells.view) quiet.more cell m (subst (λ (h : History). value_in ((state_after h).slots cell) ≡ Some m) quiet.is is)) [
        | inl was ↦ was
        | inr w ↦
            let mine = both.alone.own quiet.more quiet.is context k number here has w.event w.there (on_cell cell w.event.act w.on) in
            absurd (quiet.none w.event m w.there mine w.stores)
      ]

  -- ---- what the plain run does once the key has its number

  module _ (it : IsNamedThere k s) (t : ValueState) (acts : ActsAt (context, number_of_key it.state.keys k) it.state t) where
    abbrev place : Place
    place = (context, number_of_key it.state.keys k)

    slot_was : plain_slot s context k ≡ it.state.store.slots place
    slot_was = sym (it.leaves.slots context k refl refl (λ number past. both.numbered.beyond context k number here past)) ∙ plain_there it.state context k it.there

    slot_is : plain_slot t context k ≡ t.store.slots place
    slot_is = plain_there t context k (subst (λ ks. is_there ks k ≡ true) (sym acts.keys) it.there) ∙ ap (λ ks. t.store.slots (context, number_of_key ks k)) acts.keys

    by_tries : Tries a.cells.view b.cells.view → Newer place it.state t → ((m : ℕ) → value_in (it.state.store.slots place) ≡ Some m → t ≡ it.state) → AtEnd t
    by_tries tries newer looked m n stands =
        let number = stands.number in
        elim (couple run.meaning (plain_meaning s.values) (stood number) (plain_slot s context k) (both.matches.slots context k number here stands.has)) [
          | inl old ↦
              let same : t ≡ it.state = looked old.1 (ap value_in (sym slot_was) ∙ old.3) in
              inl (record {
                number = number;
                has = stands.has;
                lanes = ap value_in (sym (lanes_stay tries number old.0 stands.has old.2)) ∙ stands.lanes;
                plain = ap value_in slot_was ∙ (ap (λ (u : ValueState). value_in (u.store.slots place)) (sym same) ∙ (ap value_in (sym slot_is) ∙ stands.plain));
              })
          | inr none ↦ inr (
            elim (lanes_new tries number m stands.has stands.lanes) [
              | inl was ↦ absurd (cc (sym none.0 ∙ was))
              | inr late ↦ late
            ],
            elim (newer.stands n (ap value_in (sym slot_is) ∙ stands.plain)) [
              | inl was ↦ absurd (cc (sym none.1 ∙ (ap value_in slot_was ∙ was)))
              | inr late ↦ subst (λ (st : State Place). st.drawn < n) it.store late
            ],
          )
        ]

    by_less : StoresNone a.cells.view b.cells.view → ((n : ℕ) → value_in (t.store.slots place) ≡ Some n → value_in (it.state.store.slots place) ≡ Some n) → AtEnd t
    by_less quiet less m n stands = inl (record {
      number = stands.number;
      has = stands.has;
      lanes = lanes_less quiet stands.number m stands.has stands.lanes;
      plain = ap value_in slot_was ∙ less n (ap value_in (sym slot_is) ∙ stands.plain);
    })

  -- ---- the words

  along : up < length path → (above : List ℕ) × (drop up path ≡ context ∷ above)
  along below = let long = length-drop up path in begins (drop up path) (omega (arith, below, long))

  pub computes_at : up < length path → (v : ValueText) → StepComputes run.store (call_of keys path name key up) v a o b
      → AtEnd (numbered_by enough name (label_of keys key) k (compute_numbered enough name (label_of keys key) (drop up path) v) s).state
  computes_at below v (inr (why, refused_key, (same, ends))) = absurd (key_found name (label_of keys key) o a b k why both.finds refused_key ends)
  computes_at below v (inl (number, has, made)) =
      let it : IsNamedThere k s = named_there k s both.room.keys in
      let raw = number_of_key it.state.keys k in
      let found = found_along raw (drop up path) it.state in
      let end : StepEnd = compute_looked name (label_of keys key) (context, raw) v it.state found in
      let way = along below in
      subst (λ (e : StepEnd). AtEnd e.state) (sym (it.goes name (label_of keys key) (compute_numbered enough name (label_of keys key) (drop up path) v)))
      (by_tries it end.state (compute_acts (context, raw) it.state name (label_of keys key) v it.state found (acts_itself (context, raw) it.state))
      (waits_tries run.store context number a.cells b.cells made.result made.computed)
      (compute_newer (context, raw) it.state name (label_of keys key) v found)
      (λ m is. elim (look_ends context raw way.0 it.state m is) [
        | inl shows ↦ ap (λ l. (compute_looked name (label_of keys key) (context, raw) v it.state l).state) (ap (λ p. found_along raw p it.state) way.1 ∙ shows.1)
        | inr closed ↦ ap (λ l. (compute_looked name (label_of keys key) (context, raw) v it.state l).state) (ap (λ p. found_along raw p it.state) way.1 ∙ closed)
      ]))

  pub fails_at : up < length path → (text : List ℕ) → StepFails run.store (call_of keys path name key up) text a o b
      → AtEnd (numbered_by enough name (label_of keys key) k (computefail_numbered enough name (label_of keys key) (drop up path) text) s).state
  fails_at below text (inr (why, refused_key, (same, ends))) = absurd (key_found name (label_of keys key) o a b k why both.finds refused_key ends)
  fails_at below text (inl (number, has, made)) =
      let it : IsNamedThere k s = named_there k s both.room.keys in
      let raw = number_of_key it.state.keys k in
      let found = found_along raw (drop up path) it.state in
      let end : StepEnd = computefail_looked name (label_of keys key) (context, raw) text it.state found in
      let way = along below in
      subst (λ (e : StepEnd). AtEnd e.state) (sym (it.goes name (label_of keys key) (computefail_numbered enough name (label_of keys key) (drop up path) text)))
      (by_tries it end.state (fail_acts (context, raw) it.state name (label_of keys key) text it.state found (acts_itself (context, raw) it.state))
      (waits_tries run.store context number a.cells b.cells made.result made.computed)
      (fail_newer (context, raw) it.state name (label_of keys key) text found)
      (λ m is. elim (look_ends context raw way.0 it.state m is) [
        | inl shows ↦ ap (λ l. (computefail_looked name (label_of keys key) (context, raw) text it.state l).state) (ap (λ p. found_along raw p it.state) way.1 ∙ shows.1)
        | inr closed ↦ ap (λ l. (computefail_looked name (label_of keys key) (context, raw) text it.state l).state) (ap (λ p. found_along raw p it.state) way.1 ∙ closed)
      ]))

  pub removes_at : StepRemoves run.store (call_of keys path name key up) a o b → AtEnd (numbered_by enough name (label_of keys key) k (remove_numbered enough name (label_of keys key) (drop up path)) s).state
  removes_at (inr (why, refused_key, (same, ends))) = absurd (key_found name (label_of keys key) o a b k why both.finds refused_key ends)
  removes_at (inl (number, has, made)) =
      let it : IsNamedThere k s = named_there k s both.room.keys in
      let at : Place = (context, number_of_key it.state.keys k) in
      subst (λ (e : StepEnd). AtEnd e.state) (sym (it.goes name (label_of keys key) (remove_numbered enough name (label_of keys key) (drop up path))))
      (by_tries_not it at (removes_none run.store context number a.cells b.cells made.result made.removes))
    where
      by_tries_not : (it : IsNamedThere k s) (at : Place) → StoresNone a.cells.view b.cells.view → AtEnd (after_act (Remove (context, number_of_key it.state.keys k)) it.state)
      by_tries_not it at quiet =
          let its : Place = (context, number_of_key it.state.keys k) in
          by_less it (after_act (Remove its) it.state) (acts_more its (Remove its) it.state it.state refl (acts_itself its it.state)) quiet
          (λ n is. (less_by (reply_to (Remove its) it.state) it.state.store (record { lane = any_lane; act = Remove its }) its (less_none (it.state.store.slots its))).value n is)

  -- a put
  module _ (v : ValueText) (left : PutLeft run keys path places name key up v a o b s here both) where
    abbrev put_state : ValueState
    put_state = (put_by enough name (label_of keys key) context k v s).state

    abbrev after : ValueState
    after = left.named.state

    abbrev spot : Place
    spot = (context, number_of_key after.keys k)

    drawn_is : after.store.drawn ≡ s.store.drawn + 1
    drawn_is = ap (λ (st : State Place). st.drawn) left.named.drawn ∙ kept_drawn v s both.room.numbers

    happened : (p : History) → seen_by b.cells.view ≡ p ++ by left.between.cells.view.number (Put (cell_of run left.number context) left.kept) ∷ [] → put_state ≡ after_event any_lane (Put spot after.store.drawn) after → AtEnd put_state
    happened p seen_is state_is m n stands =
        let cell = cell_of run left.number context in
        let number_is : stands.number ≡ left.number = one_number run.numbering run.numbering (one_key run.numbering) k stands.number left.number stands.has left.has in
        let event = by left.between.cells.view.number (Put cell left.kept) in
        let slot_there : (state_after (seen_by b.cells.view)).slots cell ≡ Some (slot.Entry left.kept) =
        ap (λ (h : History). (state_after h).slots cell) seen_is
        ∙ (slots-push p event cell ∙ ap (λ c. if c then slot_after event.lane event.act ((state_after p).slots cell) else (state_after p).slots cell) (on_cell cell event.act refl)) in
        let lanes_one : Some m ≡ Some left.kept = sym stands.lanes ∙ (ap (λ x. value_in (stands_now x)) number_is ∙ ap value_in slot_there) in
        let m_is : m ≡ left.kept = cc lanes_one in
        let drew = drew_there a.cells.cells.limits a.cells.view left.between.cells.view left.kept left.drew in
        let late : drawn_in (seen_by a.cells.view) < left.kept = later_drawn limits (seen_by a.cells.view) drew.0 a.cells.view.number left.kept (subst (IsLegal limits) drew.1 (between_legal p seen_is)) drew.2 in
        let plain_is : plain_slot put_state context k ≡ Some (slot.Entry after.store.drawn) =
        ap (λ (u : ValueState). plain_slot u context k) state_is
        ∙ (plain_there (after_event any_lane (Put spot after.store.drawn) after) context k left.named.there ∙ place_then after.store any_lane (Put spot after.store.drawn) spot true (model_changes.here spot)) in
        let plain_one : Some n ≡ Some after.store.drawn = sym stands.plain ∙ ap value_in plain_is in
        let n_is : n ≡ after.store.drawn = cc plain_one in
        let count = drawn_is in
        inr (omega (arith, late, m_is), omega (arith, n_is, count))
      where
        between_legal : (p : History) → seen_by b.cells.view ≡ p ++ by left.between.cells.view.number (Put (cell_of run left.number context) left.kept) ∷ [] → IsLegal limits (seen_by left.between.cells.view)
        between_legal p seen_is = legal_begun (seen_by left.between.cells.view) (seen_by b.cells.view) left.goes legal

    quiet : Tries a.cells.view b.cells.view → put_state ≡ after → AtEnd put_state
    quiet tries state_is m n stands =
        let number = stands.number in
        let slot_same : plain_slot put_state context k ≡ plain_slot s context k =
        ap (λ (u : ValueState). plain_slot u context k) state_is
        ∙ (left.named.slots context k ((leaves_kept (λ c other. false) no_context v s).stays_open context refl (λ number past. both.numbered.beyond context k number here past))
        ∙ (leaves_kept (λ c other. false) no_context v s).slots context k refl refl (λ number past. both.numbered.beyond context k number here past)) in
        elim (couple run.meaning (plain_meaning s.values) (stood number) (plain_slot s context k) (both.matches.slots context k number here stands.has)) [
          | inl old ↦ inl (record {
            number = number;
            has = stands.has;
            lanes = ap value_in (sym (lanes_stay tries number old.0 stands.has old.2)) ∙ stands.lanes;
            plain = ap value_in (sym slot_same) ∙ stands.plain;
          })
          | inr none ↦ absurd (cc (sym none.1 ∙ (ap value_in (sym slot_same) ∙ stands.plain)))
        ]

    pub puts_at : AtEnd put_state
    puts_at = elim left.leaves [
      | inl event ↦ happened event.0 event.1 event.2
      | inr none ↦ quiet (kept_tries a.cells.cells.limits left.between.cells.cells.limits a.cells.view left.between.cells.view b.cells.view left.kept left.drew none.0) none.1
    ]

-- ---- a step, at the place that it changes

module _ (run : RunView) (keys : List KeyText) (path : List ℕ) (places : Places) (a : PlanLane) (o : Outcome) (b : PlanLane) (s : ValueState)
    (beside : AreBeside run path places a b s) (limits : Limits) (legal : IsLegal limits (seen_by b.cells.view)) where
  -- at the place of this key so many contexts above
  abbrev pub LeavesThere : StepKeyText → ℕ → ValueState → Type 0
  LeavesThere key up t =
      (m n : ℕ) → StandWith run (start_of (drop up path)) (key_of_step keys key) (seen_by b.cells.view) t m n
      → StandWith run (start_of (drop up path)) (key_of_step keys key) (seen_by a.cells.view) s m n ⊎ AreNew (seen_by a.cells.view) s m n

  compared : (name : List ℕ) (key : StepKeyText) (up : ℕ) → up < length path → FindsAll name (label_of keys key) o → HasRoom (key_of_step keys key) s → AreCompared run keys path places name key up a o b s
  compared name key up below finds room = record {
    view = beside.view;
    lane = beside.lane;
    tree = beside.tree;
    path_is = path_above run.store.tree path (start_of path) up beside.path_is below;
    alone = beside.alone;
    finds = finds;
    room = room;
    keeps = ap (λ (c : CellsId). c.limits.keep_faults) beside.of.cells ∙ beside.keeps;
    matches = beside.matches;
    numbered = beside.numbered;
  }

  moved : (key : StepKeyText) (up : ℕ) (name_key : StepKeyText) (above : ℕ) (t : ValueState) → ◌≡◌ {A = Option (StepKeyText × ℕ)} (Some (key, up)) (Some (name_key, above)) → LeavesThere key up t → LeavesThere name_key above t
  moved key up name_key above t is leaves =
      let pair : (key, up) ≡ (name_key, above) = cc is in
      subst (λ (p : StepKeyText × ℕ). LeavesThere p.0 p.1 t) pair leaves

  abbrev here_of : StepKeyText → ℕ → Type 0
  here_of key up = places (start_of (drop up path)) (key_of_step keys key) ≡ true

  here_is : (key : StepKeyText) (up : ℕ) (name_key : StepKeyText) (above : ℕ) → ◌≡◌ {A = Option (StepKeyText × ℕ)} (Some (key, up)) (Some (name_key, above)) → here_of name_key above → here_of key up
  here_is key up name_key above is here =
      let pair : (key, up) ≡ (name_key, above) = cc is in
      subst (λ (p : StepKeyText × ℕ). here_of p.0 p.1) (sym pair) here

  pub step_leaves_there : (step : StepText) (name_key : StepKeyText) (above : ℕ) → changed_by step ≡ Some (name_key, above) → height step < length path → here_of name_key above → StepFinds keys o step → StepHasRoom keys step s
      → StepRun run.store keys path step a o b → LeavesThere name_key above (step_run keys path step s).state
  step_leaves_there (keyed word key text up) name_key above is below here finds room (inr lacks) = absurd (finds.0 (finds_none keys word key a o b lacks).ends.0)
  step_leaves_there (keyed words.Put key text up) name_key above is below here finds room (inl does) =
      let both = compared (word_text words.Put) key up below finds.1 room in
      let there = here_is key up name_key above is here in
      let v : ValueText = record { text = text; closeable = false } in
      moved key up name_key above _ is (puts_at run keys path places (word_text words.Put) key up a o b s there both limits legal v (put_left run keys path places (word_text words.Put) key up v a o b s there both does))
  step_leaves_there (keyed words.PutCloseable key text up) name_key above is below here finds room (inl does) =
      let both = compared (word_text words.PutCloseable) key up below finds.1 room in
      let there = here_is key up name_key above is here in
      let v : ValueText = record { text = text; closeable = true } in
      moved key up name_key above _ is (puts_at run keys path places (word_text words.PutCloseable) key up a o b s there both limits legal v (put_left run keys path places (word_text words.PutCloseable) key up v a o b s there both does))
  step_leaves_there (keyed words.Want key text up) name_key above is below here finds room (inl does) = absurd (cc is)
  step_leaves_there (keyed words.None key text up) name_key above is below here finds room (inl does) = absurd (cc is)
  step_leaves_there (keyed words.Remove key text up) name_key above is below here finds room (inl does) =
      let both = compared (word_text words.Remove) key up below finds.1 room in
      moved key up name_key above _ is (removes_at run keys path places (word_text words.Remove) key up a o b s (here_is key up name_key above is here) both limits legal does)
  step_leaves_there (keyed words.Compute key text up) name_key above is below here finds room (inl does) =
      let both = compared (word_text words.Compute) key up below finds.1 room in
      moved key up name_key above _ is (computes_at run keys path places (word_text words.Compute) key up a o b s (here_is key up name_key above is here) both limits legal below (record { text = text; closeable = false }) does)
  step_leaves_there (keyed words.ComputeCloseable key text up) name_key above is below here finds room (inl does) =
      let both = compared (word_text words.ComputeCloseable) key up below finds.1 room in
      moved key up name_key above _ is (computes_at run keys path places (word_text words.ComputeCloseable) key up a o b s (here_is key up name_key above is here) both limits legal below (record { text = text; closeable = true }) does)
  step_leaves_there (keyed words.ComputeFail key text up) name_key above is below here finds room (inl does) =
      let both = compared (word_text words.ComputeFail) key up below finds.1 room in
      moved key up name_key above _ is (fails_at run keys path places (word_text words.ComputeFail) key up a o b s (here_is key up name_key above is here) both limits legal below text does)
  step_leaves_there (fail text) name_key above is below here finds room ran = absurd (cc is)
  step_leaves_there (abort text) name_key above is below here finds room ran = absurd (cc is)
