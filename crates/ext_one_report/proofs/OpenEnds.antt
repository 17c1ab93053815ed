-- One step at open places and others: it ends near that of the plain run, and leaves places near.
use Rattle.std.proofs.Common.{◌≡◌, ℕ, ◌+◌, ◌<◌, ◌≤◌, ◌⊎◌, inl, inr, Bool, true, false, true≢false, List, [], ◌∷◌, ◌++◌, length, drop, Contains, Option, None, Some, refl, ap, sym, subst, ◌∙◌, arith, nat_eq}
use Rattle.std.specs.Prelude.{◌≢◌, ◌||◌}
use Rattle.std.proofs.lemmas.List.Elements.{All-contains_itself}
use Rattle.ext_history.specs.Histories.{seen_by}
use Rattle.ext_history.proofs.Lists.{bools}
use Rattle.ext_model.specs.declared.event.Event.{Event}
use Rattle.ext_model.specs.Events.{is_on}
use Rattle.ext_model.specs.History.{History, IsLegal, slots_in, state_after}
use Rattle.ext_tree.specs.Keys.{KeyValue}
use Rattle.ext_tree.specs.Trees.{IsPathOf}
use Rattle.ext_lifecycle.specs.declared.outcome.Outcome.{Outcome}
use Rattle.ext_lifecycle.specs.FaultTexts.{verdict_text}
use Rattle.ext_plan.specs.Plans.{KeyText, StepKeyText, StepText}
use Rattle.ext_plan.specs.StepCalls.{start_of}
use Rattle.ext_plan.specs.Steps.{height, step_key}
use Rattle.ext_plan.specs.StoreKeys.{key_of_step}
use Rattle.ext_engine.specs.Order.{LaneGoesOn}
use Rattle.ext_plan_plain.specs.ValueStates.{ValueState}
use Rattle.ext_plan_plain.specs.StepRuns.{StepEnd, step_run}
use Rattle.ext_plan_parallel.specs.StoreCalls.{HasFrame, PlanLane}
use Rattle.ext_plan_parallel.specs.StoreSteps.{PlacesItsKey, StepRun, StepsRun}
use Rattle.ext_one_report.proofs.PlanCells.{changed_by}
use Rattle.ext_one_report.proofs.CallsWords.{AreComparedAll, StepHasRoom, StepWithin}
use Rattle.ext_one_report.specs.FullRuns.{StepFinds}
use Rattle.ext_one_report.proofs.MatchingWords.{HasNumberIn, IsNumbered, Matches, Places, RunView, cell_of, plain_meaning, plain_slot}
use Rattle.ext_one_report.proofs.StepsWords.{EndAlike}
use Rattle.ext_one_report.proofs.Calls.{steps_alike, steps_go}
use Rattle.ext_one_report.proofs.PlainFrames.{LeavesElse, no_context}
use Rattle.ext_one_report.proofs.FrameSteps.{steps_leave}
use Rattle.ext_one_report.proofs.NodeRooms.{steps_draw}
use Rattle.ext_one_report.proofs.OfPlan.{value_in}
use Rattle.ext_one_report.proofs.Orders.{AreNew, Orders, StandWith}
use Rattle.ext_one_report.proofs.OrdersBounds.{matched_drawn, orders_old}
use Rattle.ext_one_report.proofs.OrdersHistory.{on_cell, stood_or_stored}
use Rattle.ext_one_report.proofs.OrdersLaws.{orders_one}
use Rattle.ext_one_report.proofs.OrdersSteps.{step_leaves_there}
use Rattle.ext_history.proofs.Legal.{legal_begun}
use Rattle.ext_one_report.proofs.Fills.{Fills, IsFilledBy}
use Rattle.ext_one_report.proofs.FillsLaws.{fills_none}
use Rattle.ext_one_report.proofs.Open.{AreNear, ComputesOpen, FailsOpen, Given, MayStand, Open, StandsOrNot, also, at_place, is_left, is_open, of_value, place_of_step, still_open}
use Rattle.ext_one_report.proofs.OpenSteps.{AreBesideOpen, StepEndsNear, StepFailsNear}
use Rattle.ext_one_report.proofs.OpenCalls.{LeavesAbove, LeavesNear}
use Rattle.ext_one_report.proofs.OpenFills.{fills_on}
use Rattle.ext_one_report.proofs.OpenFits.{IsOpenStep, is_at_place, at_itself, open_step}
use Rattle.ext_one_report.proofs.OpenSingles.{IsChanged, changed_place, changes_within, elsewhere, is_changed, may_change, one_of, only_one, single_is, single_run}
use Rattle.ext_one_report.proofs.Standing.{computing_keeps_near}
use Rattle.ext_one_report.proofs.OpenFails.{fails_end_near}
use Rattle.ext_one_report.proofs.OpenStep.{knows_more, opens_end_near, or_not_more}

-- How steps end: both say the same, and together have computed and found as many values; each run computed those at open places that it filled
pub record Near (run : RunView) (places : Places) (open_at : Open) (a : PlanLane) (s : ValueState) (o : Outcome) (b : PlanLane) (end : StepEnd) : Type 0 where
  pub says : verdict_text o.verdict ≡ end.verdict
  pub counts : o.computed + o.found ≡ end.computed + end.found
  pub left : LeavesNear run places open_at a s b end.state
  pub fills : Fills (IsFilledBy run a b) open_at (still_open left.settled open_at) s o.computed end.computed

-- ---- where nothing is settled

abbrev none_settled : Places
none_settled context key = false

or_none : (a : Bool) → a ≡ a || false
or_none true = refl
or_none false = refl

-- the lane makes no event at an open place where something is left
abbrev pub TouchesNone : RunView → Open → PlanLane → PlanLane → Type 0
TouchesNone run open_at a b =
    (context : ℕ) (key : KeyValue) (number : ℕ) (v : Given) → open_at context key ≡ Some v → is_left v ≡ true → HasNumberIn run key number → (more : History) → seen_by b.cells.view ≡ seen_by a.cells.view ++ more
    → (e : Event ℕ) → Contains more e → is_on nat_eq (cell_of run number context) e.act ≡ true → e.lane ≢ a.cells.view.number

pub left_open : (run : RunView) (places : Places) (open_at : Open) (a : PlanLane) (s : ValueState) (b : PlanLane) (t : ValueState)
    → Matches run places (seen_by b.cells.view) t → IsNumbered places t → AreNear run open_at (seen_by b.cells.view) t
    → ((context : ℕ) (key : KeyValue) (v : Given) → open_at context key ≡ Some v → plain_slot t context key ≡ plain_slot s context key)
    → TouchesNone run open_at a b → s.store.drawn ≤ t.store.drawn → Orders run places (seen_by a.cells.view) (seen_by b.cells.view) s t
    → LeavesNear run places open_at a s b t
left_open run places open_at a s b t matches numbered near unchanged untouched rises orders =
    let same : places ≡ also none_settled places = λ i c k. or_none (places c k) i in
    record {
      settled = none_settled;
      matches = subst (λ (p : Places). Matches run p (seen_by b.cells.view) t) same matches;
      numbered = subst (λ (p : Places). IsNumbered p t) same numbered;
      near = near;
      were_open = λ c k here. absurd (cc here);
      named = λ c k here. absurd (cc here);
      stand = λ c k v here is. absurd (cc here);
      unchanged = λ c k v off is. unchanged c k v is;
      untouched = λ c k n v off is leaves has more now e there on. untouched c k n v is leaves has more now e there on;
      rises = rises;
      orders = orders;
    }

pub open_settled : (run : RunView) (places : Places) (open_at : Open) (a : PlanLane) (s : ValueState) (b : PlanLane) (t : ValueState)
    (matches : Matches run places (seen_by b.cells.view) t) (numbered : IsNumbered places t) (near : AreNear run open_at (seen_by b.cells.view) t)
    (unchanged : (context : ℕ) (key : KeyValue) (v : Given) → open_at context key ≡ Some v → plain_slot t context key ≡ plain_slot s context key)
    (untouched : TouchesNone run open_at a b) (rises : s.store.drawn ≤ t.store.drawn) (orders : Orders run places (seen_by a.cells.view) (seen_by b.cells.view) s t)
    → (left_open run places open_at a s b t matches numbered near unchanged untouched rises orders).settled ≡ none_settled
unfolding left_open
open_settled run places open_at a s b t matches numbered near unchanged untouched rises orders = refl

-- the lane fills no place that it does not touch
pub fills_untouched : (run : RunView) (open_at : Open) (a b : PlanLane) (s : ValueState) (n : ℕ) → TouchesNone run open_at a b → Fills (IsFilledBy run a b) open_at open_at s n n
fills_untouched run open_at a b s n untouched = fills_none (IsFilledBy run a b) open_at s n (λ spot v is filled.
    untouched spot.0 spot.1 filled.number (of_value v) is refl filled.has filled.more filled.is filled.event filled.there (fills_on (cell_of run filled.number spot.0) filled.value filled.event.act filled.act) filled.own)

opened : (open_at : Open) (context : ℕ) (key : KeyValue) (v : Given) → open_at context key ≡ Some v → is_open open_at context key ≡ true
opened open_at context key v is = ap (λ o. is_open (λ c k. o) context key) is

-- ---- a step that keeps within places where the lane is alone

module _ (run : RunView) (keys : List KeyText) (path : List ℕ) (places : Places) (open_at : Open) (step : StepText) (a : PlanLane) (o : Outcome) (b : PlanLane) (s : ValueState)
    (both : AreBesideOpen run path places open_at a b s) (below : height step < length path) (within : StepWithin keys path places step) (leaves : LeavesAbove run keys path open_at step)
    (finds : StepFinds keys o step) (room : StepHasRoom keys step s) (ran : StepRun run.store keys path step a o b) (frame : HasFrame run.store a b) (placed : PlacesItsKey keys (step_key step) a b) where
  abbrev next : StepEnd
  next = step_run keys path step s

  abbrev changes : Places
  changes = changed_place keys path (changed_by step)

  all : StepsRun run.store keys path (step ∷ []) a o b
  all = single_run run.store keys path step a o b ran frame placed

  compared : AreComparedAll run keys path places (step ∷ []) a o b s
  compared = record {
    beside = record {
      view = both.view;
      of = both.of;
      lane = both.lane;
      tree = both.tree;
      path_is = both.path_is;
      alone = both.alone;
      memory = both.memory;
      keeps = both.keeps;
      matches = both.matches;
      numbered = both.numbered;
    };
    heights = one_of (λ x. height x < length path) step below;
    within = one_of (StepWithin keys path places) step within;
    finds = one_of (StepFinds keys o) step finds;
    room = (room, λ passed. tt);
  }

  ends_alike : EndAlike run places o b next
  ends_alike = subst (EndAlike run places o b) (single_is keys path step s both.memory) (steps_alike run keys path places (step ∷ []) a o b s compared all)

  leaves_else : LeavesElse changes no_context s next.state
  leaves_else = subst (λ (e : StepEnd). LeavesElse changes no_context s e.state) (single_is keys path step s both.memory)
      (steps_leave keys path (step ∷ []) changes s
      (λ other key up there is. may_change keys path step key up (subst (λ (x : StepText). changed_by x ≡ Some (key, up)) (sym (only_one step other there)) is)) both.memory)

  -- no open place is the one that it changes, which is among the places
  not_open : (c : ℕ) (k : KeyValue) (v : Given) → open_at c k ≡ Some v → IsChanged keys path step c k → ⊥
  not_open c k v is it = true≢false (sym (changes_within keys path places step c k below within it) ∙ both.beside.apart c k v is)

  same_slot : (c : ℕ) (k : KeyValue) (v : Given) → open_at c k ≡ Some v → plain_slot next.state c k ≡ plain_slot s c k
  same_slot c k v is = elim (bools (changes c k)) [
    | inl on ↦ absurd (not_open c k v is (is_changed keys path step c k on))
    | inr off ↦ leaves_else.slots c k off refl (λ number past. both.near.numbered.beyond c k number (opened open_at c k v is) past)
  ]

  same_above : (c : ℕ) (k : KeyValue) (v : Given) (above : List ℕ) → open_at c k ≡ Some v → IsPathOf run.store.tree c (c ∷ above) → (x : ℕ) → Contains above x → places x k ≡ true
      → plain_slot next.state x k ≡ plain_slot s x k
  same_above c k v above is on x there here = elim (bools (changes x k)) [
    | inl changed ↦
        let it = is_changed keys path step x k changed in
        absurd (leaves it.named it.up c v above it.changes (subst (λ key. open_at c key ≡ Some v) it.key_is is) on (subst (Contains above) it.context_is there))
    | inr off ↦ leaves_else.slots x k off refl (λ number past. both.numbered.beyond x k number here past)
  ]

  goes : LaneGoesOn a b
  goes = steps_go run.store keys path (step ∷ []) a o b all

  near_still : AreNear run open_at (seen_by b.cells.view) next.state
  near_still = record {
    lanes = λ c k n v is has.
        let more : History = goes.seen.0 in
        let legal : IsLegal run.store.id.cells.limits (seen_by a.cells.view ++ more) = subst (IsLegal run.store.id.cells.limits) (sym goes.seen.1) both.legal in
        subst (λ h. MayStand run.meaning v ((state_after h).slots (cell_of run n c))) goes.seen.1
        (computing_keeps_near run run.store.id.cells.limits v (cell_of run n c) (seen_by a.cells.view) more legal (both.near.lanes c k n v is has)
        (λ e there on. both.computed.each more (sym goes.seen.1) c k n v is has e there on));
    plain = λ c k v is. or_not_more (plain_meaning s.values) (plain_meaning next.state.values) v (plain_slot next.state c k) (knows_more changes no_context s next.state leaves_else)
        (subst (StandsOrNot (plain_meaning s.values) v) (sym (same_slot c k v is)) (both.near.plain c k v is));
    above = λ c k v path' is on. λ n d inside.
        same_above c k v path' is on _ (All-contains_itself path' n d inside) (both.beside.above c k v path' is on n d inside) ∙ both.near.above c k v path' is on n d inside;
    numbered = record {
      beyond = λ c k number is past. leaves_else.stays_open c refl (λ n far. both.near.numbered.beyond c k n is far) number past;
      drawn = ends_alike.numbered.drawn;
    };
  }

  untouched : TouchesNone run open_at a b
  untouched c k n v is leaves has more now e there on = elsewhere run keys path step a o b both.view both.lane all c k n (not_open c k v is) has more now e there on

  -- off the place that it changes both runs leave what stood
  stood_off : (c : ℕ) (k : KeyValue) (m n : ℕ) → places c k ≡ true → changes c k ≡ false → StandWith run c k (seen_by b.cells.view) next.state m n → StandWith run c k (seen_by a.cells.view) s m n
  stood_off c k m n is off stands =
      let at = cell_of run stands.number c in
      record {
        number = stands.number;
        has = stands.has;
        lanes = elim (stood_or_stored (seen_by a.cells.view) goes.seen.0 at m (subst (λ (h : History). value_in (slots_in (cell_of run stands.number) h c) ≡ Some m) (sym goes.seen.1) stands.lanes)) [
          | inl stood ↦ stood
          | inr w ↦
              let on : is_on nat_eq at w.event.act ≡ true = on_cell at w.event.act w.on in
              absurd (elsewhere run keys path step a o b both.view both.lane all c k stands.number
              (λ it. true≢false (sym (ap (λ (x : ℕ × KeyValue). changes x.0 x.1) (λ i. (it.context_is i, it.key_is i)) ∙ may_change keys path step it.named it.up it.changes) ∙ off))
              stands.has goes.seen.0 (sym goes.seen.1) w.event w.there on
              (both.alone.own goes.seen.0 (sym goes.seen.1) c k stands.number is stands.has w.event w.there on))
        ];
        plain = ap value_in (sym (leaves_else.slots c k off refl (λ number past. both.numbered.beyond c k number is past))) ∙ stands.plain;
      }

  -- at that place both leave what stood, or both have a new number there
  at_changed : (c : ℕ) (k : KeyValue) (m n : ℕ) → places c k ≡ true → IsChanged keys path step c k → StandWith run c k (seen_by b.cells.view) next.state m n
      → StandWith run c k (seen_by a.cells.view) s m n ⊎ AreNew (seen_by a.cells.view) s m n
  at_changed c k m n is it stands =
      let there : ◌≡◌ {A = ℕ × KeyValue} (c, k) (start_of (drop it.up path), key_of_step keys it.named) = λ i. (it.context_is i, it.key_is i) in
      subst (λ (x : ℕ × KeyValue). StandWith run x.0 x.1 (seen_by a.cells.view) s m n ⊎ AreNew (seen_by a.cells.view) s m n) (sym there)
      (step_leaves_there run keys path places a o b s compared.beside run.store.id.cells.limits both.legal step it.named it.up it.changes below
      (subst (λ (x : ℕ × KeyValue). places x.0 x.1 ≡ true) there is) finds room ran m n
      (subst (λ (x : ℕ × KeyValue). StandWith run x.0 x.1 (seen_by b.cells.view) next.state m n) there stands))

  legal_before : IsLegal run.store.id.cells.limits (seen_by a.cells.view)
  legal_before = legal_begun (seen_by a.cells.view) (seen_by b.cells.view) goes.seen both.legal

  within_orders : Orders run places (seen_by a.cells.view) (seen_by b.cells.view) s next.state
  within_orders = by (changed_by step) refl
    where
      off_all : (c : ℕ) (k : KeyValue) → changed_by step ≡ None → changes c k ≡ false
      off_all c k none = ap (λ (x : Option (StepKeyText × ℕ)). changed_place keys path x c k) none

      by : (x : Option (StepKeyText × ℕ)) → changed_by step ≡ x → Orders run places (seen_by a.cells.view) (seen_by b.cells.view) s next.state
      by None none = orders_old run places (seen_by a.cells.view) (seen_by b.cells.view) s next.state both.matches both.numbered (λ c k m n is stands. stood_off c k m n is (off_all c k none) stands)
      by (Some changed) so = orders_one run places (seen_by a.cells.view) (seen_by b.cells.view) s next.state (start_of (drop changed.1 path)) (key_of_step keys changed.0)
          (λ c k m n v is stands means fails. elim (bools (changes c k)) [
            | inl on ↦
                let it : IsChanged keys path step c k = is_changed keys path step c k on in
                let one : Some (it.named, it.up) ≡ Some changed = sym it.changes ∙ so in
                let pair : (it.named, it.up) ≡ changed = cc one in
                elim (at_changed c k m n is it stands) [
                  | inl stood ↦ inl stood
                  | inr new ↦ inr (new, it.context_is ∙ ap (λ (p : StepKeyText × ℕ). start_of (drop p.1 path)) pair, it.key_is ∙ ap (λ (p : StepKeyText × ℕ). key_of_step keys p.0) pair)
                ]
            | inr off ↦ inl (stood_off c k m n is off stands)
          ])
          (matched_drawn run places run.store.id.cells.limits (seen_by a.cells.view) s legal_before both.matches both.numbered)

  left_within : LeavesNear run places open_at a s b next.state
  left_within = left_open run places open_at a s b next.state ends_alike.matches ends_alike.numbered near_still same_slot untouched leaves_else.drawn within_orders

  within_settled : left_within.settled ≡ none_settled
  unfolding left_within
  within_settled = open_settled run places open_at a s b next.state ends_alike.matches ends_alike.numbered near_still same_slot untouched leaves_else.drawn within_orders

  pub within_near : Near run places open_at a s o b next
  within_near = record {
    says = ends_alike.says;
    counts = omega (arith, ends_alike.computed, ends_alike.found);
    left = left_within;
    fills = subst (λ (p : Places). Fills (IsFilledBy run a b) open_at (still_open p open_at) s o.computed next.computed) (sym within_settled)
        (subst (λ n. Fills (IsFilledBy run a b) open_at open_at s o.computed n) ends_alike.computed (fills_untouched run open_at a b s o.computed untouched));
  }

-- ---- a step that computes what is left at an open place

module _ (run : RunView) (keys : List KeyText) (path : List ℕ) (places : Places) (open_at : Open) (step : StepText) (a : PlanLane) (o : Outcome) (b : PlanLane) (s : ValueState)
    (both : AreBesideOpen run path places open_at a b s) (below : height step < length path) (computes : ComputesOpen keys path open_at step)
    (finds : StepFinds keys o step) (room : StepHasRoom keys step s) (ran : StepRun run.store keys path step a o b) (frame : HasFrame run.store a b) (placed : PlacesItsKey keys (step_key step) a b) where
  abbrev here : Places
  here = place_of_step keys path step

  it : IsOpenStep keys path open_at step
  it = open_step keys path open_at step computes

  ended : StepEndsNear run places open_at here a s o b (step_run keys path step s)
  ended = opens_end_near run keys path places open_at step a o b s computes below both finds room ran

  same_place : (c : ℕ) (k : KeyValue) → here c k ≡ true → (c ≡ start_of (drop it.up path)) × (k ≡ key_of_step keys it.key)
  same_place c k is = is_at_place (start_of (drop it.up path)) (key_of_step keys it.key) c k (ap (λ (p : Places). p c k) (sym it.at) ∙ is)

  -- the place that it changes is its own
  own_place : (c : ℕ) (k : KeyValue) → IsChanged keys path step c k → here c k ≡ true
  own_place c k changed =
      let one : Some (changed.named, changed.up) ≡ Some (it.key, it.up) = sym changed.changes ∙ it.changes in
      let pair : (changed.named, changed.up) ≡ (it.key, it.up) = cc one in
      let c_is : c ≡ start_of (drop it.up path) = changed.context_is ∙ ap (λ (p : StepKeyText × ℕ). start_of (drop p.1 path)) pair in
      let k_is : k ≡ key_of_step keys it.key = changed.key_is ∙ ap (λ (p : StepKeyText × ℕ). key_of_step keys p.0) pair in
      ap (λ (p : Places). p c k) it.at ∙ ((λ i. at_place (start_of (drop it.up path)) (key_of_step keys it.key) (c_is i) (k_is i)) ∙ at_itself (start_of (drop it.up path)) (key_of_step keys it.key))

  -- it changes no place where the same is to stand
  not_changed : (c : ℕ) (k : KeyValue) → places c k ≡ true → IsChanged keys path step c k → ⊥
  not_changed c k is changed =
      let same = same_place c k (own_place c k changed) in
      let opens : open_at c k ≡ Some it.value = subst (λ (x : ℕ × KeyValue). open_at x.0 x.1 ≡ Some it.value) (λ i. (sym same.0 i, sym same.1 i)) it.is_open in
      true≢false (sym is ∙ both.beside.apart c k it.value opens)

  computes_orders : Orders run places (seen_by a.cells.view) (seen_by b.cells.view) s (step_run keys path step s).state
  computes_orders = orders_old run places (seen_by a.cells.view) (seen_by b.cells.view) s (step_run keys path step s).state both.matches both.numbered was
    where
      alone_run : StepsRun run.store keys path (step ∷ []) a o b
      alone_run = single_run run.store keys path step a o b ran frame placed

      leaves_else : LeavesElse (changed_place keys path (changed_by step)) no_context s (step_run keys path step s).state
      leaves_else = subst (λ (e : StepEnd). LeavesElse (changed_place keys path (changed_by step)) no_context s e.state) (single_is keys path step s both.memory)
          (steps_leave keys path (step ∷ []) (changed_place keys path (changed_by step)) s
          (λ other key up there is. may_change keys path step key up (subst (λ (x : StepText). changed_by x ≡ Some (key, up)) (sym (only_one step other there)) is)) both.memory)

      was : (c : ℕ) (k : KeyValue) (m n : ℕ) → places c k ≡ true → StandWith run c k (seen_by b.cells.view) (step_run keys path step s).state m n → StandWith run c k (seen_by a.cells.view) s m n
      was c k m n is stands =
          let goes = steps_go run.store keys path (step ∷ []) a o b alone_run in
          let at = cell_of run stands.number c in
          let off : changed_place keys path (changed_by step) c k ≡ false = elim (bools (changed_place keys path (changed_by step) c k)) [
            | inl on ↦ absurd (not_changed c k is (is_changed keys path step c k on))
            | inr off ↦ off
          ] in
          record {
            number = stands.number;
            has = stands.has;
            lanes = elim (stood_or_stored (seen_by a.cells.view) goes.seen.0 at m (subst (λ (h : History). value_in (slots_in (cell_of run stands.number) h c) ≡ Some m) (sym goes.seen.1) stands.lanes)) [
              | inl stood ↦ stood
              | inr w ↦
                  let on : is_on nat_eq at w.event.act ≡ true = on_cell at w.event.act w.on in
                  absurd (elsewhere run keys path step a o b both.view both.lane alone_run c k stands.number (not_changed c k is) stands.has goes.seen.0 (sym goes.seen.1) w.event w.there on
                  (both.alone.own goes.seen.0 (sym goes.seen.1) c k stands.number is stands.has w.event w.there on))
            ];
            plain = ap value_in (sym (leaves_else.slots c k off refl (λ number past. both.numbered.beyond c k number is past))) ∙ stands.plain;
          }

  pub computes_near : Near run places open_at a s o b (step_run keys path step s)
  computes_near = record {
    says = ended.says ∙ sym ended.plain_says;
    counts = ended.counts;
    left = record {
      settled = here;
      matches = ended.matches;
      numbered = ended.numbered;
      near = ended.near;
      were_open = λ c k is. let same = same_place c k is in (it.value, subst (λ (x : ℕ × KeyValue). open_at x.0 x.1 ≡ Some it.value) (λ i. (sym same.0 i, sym same.1 i)) it.is_open);
      named = ended.named;
      stand = ended.stands;
      unchanged = ended.others;
      untouched = λ c k n v off is leaves has more now e there on. elsewhere run keys path step a o b both.view both.lane (single_run run.store keys path step a o b ran frame placed) c k n
          (λ changed. true≢false (sym (own_place c k changed) ∙ off)) has more now e there on;
      rises = subst (λ (e : StepEnd). s.store.drawn ≤ e.state.store.drawn) (single_is keys path step s both.memory) (steps_draw keys path (step ∷ []) s both.memory);
      orders = computes_orders;
    };
    fills = ended.fills;
  }

  pub computes_settled : computes_near.left.settled ≡ here
  unfolding computes_near
  computes_settled = refl

-- ---- a step whose factory fails at an open place where nothing is kept

module _ (run : RunView) (keys : List KeyText) (path : List ℕ) (places : Places) (open_at : Open) (step : StepText) (a : PlanLane) (o : Outcome) (b : PlanLane) (s : ValueState)
    (both : AreBesideOpen run path places open_at a b s) (below : height step < length path) (fails : FailsOpen keys path open_at step)
    (finds : StepFinds keys o step) (room : StepHasRoom keys step s) (ran : StepRun run.store keys path step a o b) where
  failed : StepFailsNear run places open_at a s o b (step_run keys path step s)
  failed = fails_end_near run keys path places open_at step a o b s fails below both finds room ran

  left_failed : LeavesNear run places open_at a s b (step_run keys path step s).state
  left_failed = left_open run places open_at a s b (step_run keys path step s).state failed.matches failed.numbered failed.near failed.unchanged failed.untouched failed.rises failed.orders

  failed_settled : left_failed.settled ≡ none_settled
  unfolding left_failed
  failed_settled = open_settled run places open_at a s b (step_run keys path step s).state failed.matches failed.numbered failed.near failed.unchanged failed.untouched failed.rises failed.orders

  pub fails_near : Near run places open_at a s o b (step_run keys path step s)
  fails_near = record {
    says = failed.says ∙ sym failed.plain_says;
    counts = omega (arith, failed.computed, failed.found, failed.plain_computed, failed.plain_found);
    left = left_failed;
    fills = subst (λ (p : Places). Fills (IsFilledBy run a b) open_at (still_open p open_at) s o.computed (step_run keys path step s).computed) (sym failed_settled)
        (subst (λ n. Fills (IsFilledBy run a b) open_at open_at s o.computed n) (failed.computed ∙ sym failed.plain_computed) (fills_untouched run open_at a b s o.computed failed.untouched));
  }
