-- The end of a node's context, at open places in other contexts: what stands there stays, where it may stand it may afterwards, and the close makes no event there.
use Rattle.std.proofs.Common.{◌≡◌, ◌≢◌, ◌≤◌, ℕ, true, List, ◌∷◌, ◌++◌, length, Contains, Option, None, Some, refl, ap, sym, subst, ◌∙◌, nat_eq}
use Rattle.std.specs.Prelude.{All, slice_get}
use mathlib.Core.List.{IsPrefix}
use Rattle.ext_history.specs.Histories.{seen_by}
use Rattle.ext_history.proofs.Legal.{legal_begun}
use Rattle.ext_model.specs.declared.event.Event.{Event}
use Rattle.ext_model.specs.declared.look.Fault.{Fault}
use Rattle.ext_model.specs.Events.{is_on, place_of}
use Rattle.ext_model.specs.History.{History, IsLegal, IsQuiet, Limits, slots_in, state_after}
use Rattle.ext_model.proofs.Claims.{quiet_slot}
use Rattle.ext_model.proofs.Versions.{none_on}
use Rattle.ext_tree.specs.Keys.{KeyValue}
use Rattle.ext_tree.specs.Trees.{IsPathOf}
use Rattle.ext_locks.specs.Opening.{LocksView}
use Rattle.ext_closing.specs.Lanes.{first_lane}
use Rattle.ext_closing.specs.Sealing.{MakesSeals}
use Rattle.ext_plan.specs.Plans.{PlanText}
use Rattle.ext_engine.specs.Meeting.{HasSeenWithin, first_seen}
use Rattle.ext_engine.specs.Order.{AllGoOn, IsMadeIn}
use Rattle.ext_engine.specs.TreeRun.{ClosesNode, TreeSetting}
use Rattle.ext_engine.proofs.Acts.{heads_go}
use Rattle.ext_engine.proofs.Going.{close_goes}
use Rattle.ext_one_report.proofs.Parts.{first_within}
use Rattle.ext_plan_parallel.specs.declared.steps.stored_value.StoredValue.{StoredValue}
use Rattle.ext_plan_parallel.specs.StoreCalls.{PlanLane}
use Rattle.ext_plan_plain.specs.ValueStates.{ValueState}
use Rattle.ext_plan_plain.specs.ContextEnds.{seal_keys}
use Rattle.ext_one_report.proofs.MatchingWords.{HasNumberIn, IsRunView, Places, RunView, cell_of, plain_meaning, plain_slot}
use Rattle.ext_one_report.proofs.Open.{AreNear, Computes, Given, MayStand, Open, Stands, StandsOrNot, is_open}
use Rattle.ext_one_report.proofs.OpenSteps.{StandsInBoth}
use Rattle.ext_one_report.proofs.Closes.{SealsPlaces}
use Rattle.ext_one_report.proofs.FullRuns.{setting_in}
use Rattle.ext_one_report.proofs.SharedNodesWords.{AreComputed, AreOwn}
use Rattle.ext_one_report.proofs.CloseCells.{IsSealOf, made_is_seal}
use Rattle.ext_one_report.proofs.CloseEnds.{other_cell, sealed_slot}
use Rattle.ext_one_report.proofs.ClosePlain.{plain_seals_places}
use Rattle.ext_one_report.proofs.LanesAlone.{computed_more, is_more, is_on_place, view_moves}
use Rattle.ext_one_report.proofs.NodePlaces.{both_ways}
use Rattle.ext_one_report.proofs.Standing.{standing_stays, computing_keeps_near}

-- at an open place something is computed
pub open_value : (open_at : Open) (context : ℕ) (key : KeyValue) → is_open open_at context key ≡ true → (v : Given) × (open_at context key ≡ Some v)
open_value open_at context key is = by (open_at context key) refl
  where
    by : (o : Option Given) → open_at context key ≡ o → (v : Given) × (open_at context key ≡ Some v)
    by None none = absurd (cc (sym (ap (λ (x : Option Given). is_open (λ c k. x) context key) none) ∙ is))
    by (Some v) some = (v, some)

-- what is computed at open places is computed at fewer
pub computed_fewer : (run : RunView) (h : History) (open_at fewer : Open) (xs ys : List PlanLane) → ((context : ℕ) (key : KeyValue) (v : Given) → fewer context key ≡ Some v → open_at context key ≡ Some v)
    → AreComputed run h open_at xs ys → AreComputed run h fewer xs ys
computed_fewer run h open_at fewer xs ys each computed = record {
  computed = λ context number place key v event is has seen there on. computed.computed context number place key v event (each context key v is) has seen there on;
}

module _ (plan : PlanText) (run : RunView) (locks : LocksView) (h : History) (view : IsRunView run) (legal : IsLegal run.store.id.cells.limits h)
    (node : ℕ) (lane : PlanLane) (rest after : List PlanLane) (faults : List (Option Fault)) (closes : ClosesNode (setting_in plan run locks) node (lane ∷ rest) faults after)
    (within : All (HasSeenWithin h) after) where
  abbrev setting : TreeSetting StoredValue ℕ
  setting = setting_in plan run locks

  abbrev limits : Limits
  limits = run.store.id.cells.limits

  goes : AllGoOn (lane ∷ rest) after
  goes = close_goes setting (view_moves plan run) _ (lane ∷ rest) after closes.closes.lanes closes.closes.own_events

  on : IsPrefix (seen_by lane.cells.view) (first_seen after)
  on = heads_go (lane ∷ rest) after goes

  up_to : IsLegal limits (seen_by lane.cells.view ++ on.0)
  up_to = subst (IsLegal limits) (sym on.1) (legal_begun (first_seen after) h (first_within h after within) legal)

  -- each event that the lanes make is a seal of the context
  seals : (place : ℕ) (e : Event ℕ) → slice_get h place ≡ Some e → IsMadeIn h place (lane ∷ rest) after → IsSealOf run.store node e.act
  seals =
      let Say : List PlanLane → Type 0 = λ lanes. All (HasSeenWithin h) lanes → MakesSeals run.store node lane.cells (first_lane run.store lanes)
      → (place : ℕ) (e : Event ℕ) → slice_get h place ≡ Some e → IsMadeIn h place (lane ∷ rest) lanes → IsSealOf run.store node e.act in
      let there : Say after = subst Say (sym closes.closes.lanes.1) (λ w made place e in_h by. made_is_seal run.store h node lane closes.closes.lanes.0 rest made w place e in_h by) in
      there within (subst (λ context. MakesSeals run.store context lane.cells (first_lane run.store after)) closes.context_is closes.closes.own_events)

  -- so none is in another context
  pub none_elsewhere : (context number place : ℕ) (key : KeyValue) (e : Event ℕ) → context ≢ node → HasNumberIn run key number → slice_get h place ≡ Some e → place_of e.act ≡ Some (cell_of run number context)
      → IsMadeIn h place (lane ∷ rest) after → ⊥
  none_elsewhere context number place key e other has in_h at by =
      let seal = seals place e in_h by in
      let same : Some (cell_of run number context) ≡ place_of e.act = sym at in
      let cell : Some (cell_of run number context) ≡ Some _ = same ∙ sym (ap place_of seal.2) in
      other_cell run view context node number seal.0 key other has seal.1 (cc cell)

  module _ (open_at : Open) (computed : AreComputed run h open_at (lane ∷ rest) after) where
    come : (context : ℕ) (key : KeyValue) (number : ℕ) (v : Given) → open_at context key ≡ Some v → HasNumberIn run key number
        → (e : Event ℕ) → Contains on.0 e → is_on nat_eq (cell_of run number context) e.act ≡ true → Computes run v e.act
    come context key number v is has e there at =
        computed_more run h open_at (lane ∷ rest) after on.0 (first_within h after within) (sym on.1) computed context key number v is has e there at

    -- nothing comes at a place where it stands
    quiet : (context : ℕ) (key : KeyValue) (number : ℕ) (v : Given) → open_at context key ≡ Some v → HasNumberIn run key number
        → Stands run.meaning v (slots_in (cell_of run number) (seen_by lane.cells.view) context) → IsQuiet (cell_of run number context) on.0
    quiet context key number v is has stands =
        standing_stays run limits v (cell_of run number context) (seen_by lane.cells.view) on.0 up_to stands (λ e there at. come context key number v is has e there at)

    -- so the lanes are alone there
    pub own_standing : (settled : Places)
        → ((context : ℕ) (key : KeyValue) (number : ℕ) → settled context key ≡ true → HasNumberIn run key number
        → (v : Given) × (open_at context key ≡ Some v) × Stands run.meaning v (slots_in (cell_of run number) (seen_by lane.cells.view) context))
        → AreOwn run h settled (lane ∷ rest) after
    own_standing settled each = record {
      own = λ context number place key event is has seen there at.
          let one = each context key number is has in
          let e = is_more h (seen_by lane.cells.view) (first_seen after) on (first_within h after within) place event there seen.since seen.until in
          let off = none_on on.0 (cell_of run number context) (quiet context key number one.0 one.1 has one.2) event e in
          both_ways (is_on nat_eq (cell_of run number context) event.act) (is_on_place (cell_of run number context) event.act at) off;
    }

    -- and they stay
    pub stand_after : (context : ℕ) (key : KeyValue) (v : Given) (s : ValueState) → open_at context key ≡ Some v → context ≢ node → StandsInBoth run v context key (seen_by lane.cells.view) s
        → StandsInBoth run v context key (first_seen after) (seal_keys s.places node s)
    stand_after context key v s is other stand = record {
      lanes = λ number has.
          let was = stand.lanes number has in
          let same : slots_in (cell_of run number) (first_seen after) context ≡ slots_in (cell_of run number) (seen_by lane.cells.view) context =
          ap (λ g. (state_after g).slots (cell_of run number context)) (sym on.1)
          ∙ quiet_slot (seen_by lane.cells.view) on.0 (cell_of run number context) (quiet context key number v is has was) in
          subst (Stands run.meaning v) (sym same) was;
      plain =
          let plain = plain_seals_places node s in
          subst (λ values. Stands (plain_meaning values) v (plain_slot (seal_keys s.places node s) context key)) (sym plain.values)
          (subst (Stands (plain_meaning s.values) v) (sym (sealed_slot node s (seal_keys s.places node s) plain context key other)) stand.plain);
    }

    -- where it may stand it may afterwards
    pub near_after : (s : ValueState) → ((context : ℕ) (key : KeyValue) (v : Given) → open_at context key ≡ Some v → context ≢ node)
        → ((context : ℕ) (key : KeyValue) (v : Given) (above : List ℕ) → open_at context key ≡ Some v → IsPathOf run.store.tree context (context ∷ above) → All (λ c. c ≢ node) above)
        → AreNear run open_at (seen_by lane.cells.view) s → AreNear run open_at (first_seen after) (seal_keys s.places node s)
    near_after s other above near = record {
      lanes = λ context key number v is has.
          subst (λ g. MayStand run.meaning v ((state_after g).slots (cell_of run number context))) on.1
          (computing_keeps_near run limits v (cell_of run number context) (seen_by lane.cells.view) on.0 up_to (near.lanes context key number v is has) (λ e there at. come context key number v is has e there at));
      plain = λ context key v is.
          subst (λ values. StandsOrNot (plain_meaning values) v (plain_slot t context key)) (sym plain.values)
          (subst (StandsOrNot (plain_meaning s.values) v) (sym (sealed_slot node s t plain context key (other context key v is))) (near.plain context key v is));
      above = λ context key v path is path_is. λ k d less.
          sealed_slot node s t plain _ key (above context key v path is path_is k d less) ∙ near.above context key v path is path_is k d less;
      numbered = record {
        beyond = λ context key number is past.
            let it = open_value open_at context key is in
            plain.others context number (other context key it.0 it.1) ∙ near.numbered.beyond context key number is (subst (λ (keys : List KeyValue). length keys ≤ number) plain.keys past);
        drawn = plain.drawn ∙ (near.numbered.drawn ∙ sym (ap length plain.values));
      };
    }
      where
        t : ValueState
        t = seal_keys s.places node s

        plain : SealsPlaces node s (seal_keys s.places node s)
        plain = plain_seals_places node s
