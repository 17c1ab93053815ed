-- The end of a node's context on several lanes, at places where they are alone, and in the plain run.
use Rattle.ext_one_report.proofs.Open.{Open}
use Rattle.std.proofs.Common.{◌≡◌, ◌≢◌, ◌<◌, ◌≤◌, ℕ, Bool, true, false, List, [], ◌∷◌, length, map, Contains, Option, None, Some, refl, ap, sym, subst, ◌∙◌, eq-eqb}
use Rattle.std.specs.Prelude.{All, IsPermutation, if◌then◌else◌, not, ◌&&◌, ◌==◌, option_map}
use Rattle.std.proofs.lemmas.List.{length-map}
use Rattle.std.proofs.lemmas.List.Elements.{All-contains, All-head}
use Rattle.std.proofs.lemmas.List.Sorted.{IsPermutation-map, IsPermutation-sym}
use Rattle.ext_history.specs.Histories.{seen_by}
use Rattle.ext_model.specs.declared.look.Fault.{Fault}
use Rattle.ext_model.specs.Closed.{first_of}
use Rattle.ext_model.specs.Closing.{remaining}
use Rattle.ext_model.specs.Lacks.{tells_lack}
use Rattle.ext_model.specs.History.{History, slots_in, IsLegal}
use Rattle.ext_model.specs.Plain.{Place}
use Rattle.ext_one_report.proofs.Numbers.{enough_numbers}
use Rattle.ext_tree.specs.Keys.{AreDifferent, KeyValue, global_namespace, key_of}
use Rattle.ext_values.specs.Known.{known_at}
use Rattle.ext_cells.specs.Lanes.{Lane}
use Rattle.ext_store.specs.Stores.{cell_in}
use Rattle.ext_lifecycle.specs.FaultTexts.{fault_text}
use Rattle.ext_locks.specs.Opening.{LocksView}
use Rattle.ext_closing.specs.Closing.{Answer, fault_in}
use Rattle.ext_closing.specs.Lanes.{first_lane}
use Rattle.ext_closing.specs.Sealing.{AreSealed, MakesSeals, numbers_left}
use Rattle.ext_plan.specs.Plans.{NodeText, PlanText}
use Rattle.ext_plan.specs.StoreKeys.{is_there, number_of_key}
use Rattle.ext_plan.specs.Values.{close_fault}
use Rattle.ext_engine.specs.Meeting.{HasSeenWithin, first_seen}
use Rattle.ext_engine.specs.TreeRun.{ClosesNode}
use Rattle.ext_plan_parallel.specs.declared.steps.stored_value.StoredValue.{StoredValue}
use Rattle.ext_plan_parallel.specs.StoreCalls.{PlanLane, stored_view}
use Rattle.ext_races.specs.Touches.{keys_named}
use Rattle.ext_plan_plain.specs.ValueStates.{ValueState, value_of}
use Rattle.ext_plan_plain.specs.ContextEnds.{closeables, faults_of_closes, seal_keys}
use Rattle.ext_one_report.proofs.MatchingWords.{HasNumberIn, IsRunView, Places, RunView, cell_of, plain_meaning, plain_slot}
use Rattle.ext_one_report.proofs.Rooms.{GaveFew}
use Rattle.ext_one_report.proofs.StandingsWords.{AreMatched}
use Rattle.ext_one_report.proofs.StepsWords.{IsLaneIn}
use Rattle.ext_one_report.proofs.CallLists.{told_alike}
use Rattle.ext_one_report.proofs.OfPlan.{IsOfPlan, plan_leaves}
use Rattle.ext_one_report.proofs.Closes.{ClosesEndLevel, IsClosedAlone, SealsCells, SealsPlaces}
use Rattle.ext_one_report.proofs.FullRuns.{setting_in}
use Rattle.ext_one_report.proofs.Levels.{AreLevel, HoldsOnce, besides}
use Rattle.ext_one_report.proofs.SharedNodesWords.{AreOwn}
use Rattle.ext_one_report.proofs.CloseCells.{IsOwnOn, cell_sealed, cell_stays, with_cells}
use Rattle.ext_one_report.proofs.CloseFaults.{closeable, closeables_are, closes_told, text_in}
use Rattle.ext_one_report.proofs.CloseLists.{there_of}
use Rattle.ext_one_report.proofs.ClosePlain.{plain_seals_places}
use Rattle.ext_one_report.proofs.CloseResults.{results_tell_no_order}
use Rattle.ext_one_report.proofs.CloseSame.{same_first, same_remaining}
use Rattle.ext_one_report.proofs.Matching.{matches_at_fewer, number_within, numbered_at_fewer}
use Rattle.ext_one_report.proofs.StoreCells.{cell_apart}
use Rattle.ext_one_report.proofs.OfPlanEnds.{seals_of}
use Rattle.ext_one_report.proofs.Orders.{AreInOrder, Orders}
use Rattle.ext_one_report.proofs.OrdersBounds.{orders_kept}

both_true : (a b : Bool) → a && b ≡ true → (a ≡ true) × (b ≡ true)
both_true true b is = (refl, is)
both_true false b is = absurd (cc is)

not_one : (a b : ℕ) → not (a == b) ≡ true → a ≢ b
not_one a b is same = absurd (cc (sym (ap not (eq-eqb a b same)) ∙ is))

map_both : (answers : List Answer) → map (option_map fault_text) (map fault_in answers) ≡ map text_in answers
map_both [] = refl
map_both (answer ∷ answers) = ap (λ l. text_in answer ∷ l) (map_both answers)

-- the cells of a context are those of no other
pub other_cell : (run : RunView) → IsRunView run → (context node number k : ℕ) (key : KeyValue) → context ≢ node → HasNumberIn run key number → k < length run.store.id.keys
    → cell_of run number context ≢ cell_in run.store k node
other_cell run view context node number k key other has less same = other (cell_apart run.store context node number k (number_within run key number view has) less same).0

-- in the plain run the seals of a context leave what stands in another
pub sealed_slot : (node : ℕ) (s t : ValueState) → SealsPlaces node s t → (context : ℕ) (key : KeyValue) → context ≢ node → plain_slot t context key ≡ plain_slot s context key
sealed_slot node s t plain context key other =
    ap (λ keys. if is_there keys key then t.store.slots (context, number_of_key keys key) else None) plain.keys
    ∙ ap (λ x. if is_there s.keys key then x else None) (plain.others context (number_of_key s.keys key) other)

module _ (plan : PlanText) (run : RunView) (locks : LocksView) (h : History) (touched changes : ℕ → Places) (changed : ℕ → List ℕ) (shares : ℕ → Open) where
  -- ---- the lanes

  -- the lanes after a close, of which the first alone made steps
  module _ (node : ℕ) (places : Places) (lane : PlanLane) (cells : Lane) (rest : List PlanLane) (view : IsRunView run) (legal : IsLegal run.store.id.cells.limits h) (all : (key : KeyValue) → places node key ≡ true)
      (within : All (HasSeenWithin h) (with_cells lane cells ∷ rest)) (own : AreOwn run h places (lane ∷ rest) (with_cells lane cells ∷ rest))
      (is_sealed : AreSealed run.store node (length run.store.id.keys) cells) (made : MakesSeals run.store node lane.cells cells) where
    on_cell : (context number : ℕ) (key : KeyValue) → places context key ≡ true → HasNumberIn run key number → IsOwnOn h (cell_of run number context) (lane ∷ rest) (with_cells lane cells ∷ rest)
    on_cell context number key is has = record { own = λ place event seen there on. own.own context number place key event is has seen there on }

    seals_cells : SealsCells run node places (seen_by lane.cells.view) (seen_by cells.view)
    seals_cells = record {
      sealed = λ key number has free.
          let kept = is_sealed number (number_within run key number view has) in
          cell_sealed run.store h node lane cells rest made within run.store.id.cells.limits legal (cell_of run number node) kept.0 (on_cell node number key (all key) has) free kept.1;
      others = λ context number key other is has.
          cell_stays run.store h node lane cells rest made within (cell_of run number context) (on_cell context number key is has)
          (λ k less. other_cell run view context node number k key other has less);
    }

  module _ (node : ℕ) (places : Places) (lane : PlanLane) (rest : List PlanLane) (faults : List (Option Fault)) (after : List PlanLane)
      (close : IsClosedAlone plan run locks h touched changes changed shares node places lane rest faults after) where
    abbrev closes : ClosesNode (setting_in plan run locks) node (lane ∷ rest) faults after
    closes = close.closes

    -- all that is said of the lanes after it, said of lanes
    abbrev IsAfter : List PlanLane → Type 0
    IsAfter lanes = All (HasSeenWithin h) lanes → AreOwn run h places (lane ∷ rest) lanes → AreSealed run.store node (length run.store.id.keys) (first_lane run.store lanes)
        → MakesSeals run.store node lane.cells (first_lane run.store lanes) → SealsCells run node places (seen_by lane.cells.view) (first_seen lanes)

    lanes_seal : SealsCells run node places (seen_by lane.cells.view) (first_seen after)
    lanes_seal =
        let there : IsAfter after =
        subst IsAfter (sym closes.closes.lanes.1) (λ w a s m. seals_cells node places lane closes.closes.lanes.0 rest close.basis.view close.basis.legal close.all w a s m) in
        there close.within close.own
        (subst (λ context. AreSealed run.store context (length run.store.id.keys) (first_lane run.store after)) closes.context_is closes.closes.sealed)
        (subst (λ context. MakesSeals run.store context lane.cells (first_lane run.store after)) closes.context_is closes.closes.own_events)

    -- ---- closes as texts

    -- what the lanes in hand know is so of the run
    knows : (known_lane : PlanLane) → Contains after known_lane → (number : ℕ) (value : StoredValue) → known_at known_lane.known number ≡ Some value → run.meaning.values number ≡ Some (stored_view value)
    knows known_lane there number value known = (All-contains (IsLaneIn run) after known_lane close.lanes there).values number value known

    -- the numbers that the lanes are left with
    abbrev left : ℕ → List ℕ
    left context = numbers_left run.store context (first_lane run.store after)

    lanes_told : map (option_map fault_text) faults ≡ map close_fault (there_of (λ number. closeable (run.meaning.values number)) (left node))
    lanes_told =
        let it = closes.closes.closes in
        let told = closes_told after run.meaning.values knows (left closes.closer.context) (record { action = closes.action; answers = [] }) (record { action = closes.action_left; answers = it.answers }) it.calls in
        ap (map (option_map fault_text)) closes.faults_are
        ∙ (map_both it.answers ∙ (told ∙ ap (λ context. map close_fault (there_of (λ number. closeable (run.meaning.values number)) (left context))) closes.context_is))

    -- what the first lane has seen after the close is a part of the history
    seen_in : HoldsOnce run (first_seen after)
    seen_in =
        let P : List PlanLane → Type 0 = λ lanes. All (HasSeenWithin h) lanes → HoldsOnce run (first_seen lanes) in
        let b = with_cells lane closes.closes.lanes.0 in
        let there : P after = subst P (sym closes.closes.lanes.1) (λ w. close.basis.once (seen_by b.cells.view) (All-head (HasSeenWithin h) b rest w)) in
        there close.within

    -- the cells of the context, as the first lane has seen them
    seen_left : remaining (λ n. slots_in (cell_of run n) (first_seen after) node) (length run.store.id.keys) ≡ left node
    seen_left =
        let P : List PlanLane → Type 0 = λ lanes.
        remaining (λ n. slots_in (cell_of run n) (first_seen lanes) node) (length run.store.id.keys) ≡ numbers_left run.store node (first_lane run.store lanes) in
        subst P (sym closes.closes.lanes.1) refl

    module _ (s : ValueState) (level : AreLevel plan run places (seen_by lane.cells.view) s) where
      some_key : KeyValue
      some_key = key_of global_namespace []

      same_values : IsPermutation (there_of (λ number. closeable (run.meaning.values number)) (left node))
          (there_of (λ number. closeable (value_of s.values number)) (remaining (λ i. (seal_keys s.places node s).store.slots (node, i)) s.places))
      same_values =
          let lanes = lanes_seal in
          let in_tree : node < length run.store.tree = subst (λ (n : ℕ). node < n) (sym (ap length close.basis.tree ∙ length-map plan.nodes (λ (n : NodeText). n.id))) close.inside in
          subst (λ l. IsPermutation (there_of (λ number. closeable (run.meaning.values number)) l)
          (there_of (λ number. closeable (value_of s.values number)) (remaining (λ i. (seal_keys s.places node s).store.slots (node, i)) s.places))) seen_left
          (same_remaining run close.basis.view node in_tree (seen_by lane.cells.view) (first_seen after) s (seal_keys s.places node s) (keys_named plan) (enough_numbers plan.size)
          (λ key number has. level.matches.slots node key number (close.all key) has) (λ key number has free. lanes.sealed key number has free)
          (λ key none. level.matches.unnumbered node key (close.all key) none) (plain_seals_places node s) level.gave
          (λ number past. level.numbered.beyond node some_key number (close.all some_key) past) seen_in
          (λ i j number a b. ap (λ (p : Place). p.1) (level.of_plan.once (node, i) (node, j) number a b)))

      plain_told : faults_of_closes s.places node (seal_keys s.places node s)
          ≡ map close_fault (there_of (λ number. closeable (value_of s.values number)) (remaining (λ i. (seal_keys s.places node s).store.slots (node, i)) s.places))
      plain_told =
          let t = seal_keys s.places node s in
          let numbers = remaining (λ i. t.store.slots (node, i)) s.places in
          ap (λ values. map close_fault (closeables values numbers)) (plain_seals_places node s).values ∙ ap (map close_fault) (closeables_are s.values numbers)

      pub same_texts : IsPermutation (map (option_map fault_text) faults) (faults_of_closes s.places node (seal_keys s.places node s))
      same_texts =
          let a = there_of (λ number. closeable (run.meaning.values number)) (left node) in
          let b = there_of (λ number. closeable (value_of s.values number)) (remaining (λ i. (seal_keys s.places node s).store.slots (node, i)) s.places) in
          subst (λ l. IsPermutation l (faults_of_closes s.places node (seal_keys s.places node s))) (sym lanes_told)
          (subst (λ l. IsPermutation (map close_fault a) l) (sym plain_told) (IsPermutation-map close_fault a b same_values))

      -- and the first that fails tells the same
      same_told : AreInOrder run node (seen_by lane.cells.view) s → (text other : List ℕ) → first_of (map (option_map fault_text) faults) ≡ Some text
          → first_of (faults_of_closes s.places node (seal_keys s.places node s)) ≡ Some other → text ≡ other
      same_told ordered text other first second =
          let lanes = lanes_seal in
          let in_tree : node < length run.store.tree = subst (λ (n : ℕ). node < n) (sym (ap length close.basis.tree ∙ length-map plan.nodes (λ (n : NodeText). n.id))) close.inside in
          same_first run close.basis.view node in_tree (seen_by lane.cells.view) (first_seen after) s (seal_keys s.places node s) (keys_named plan) (enough_numbers plan.size)
          (λ key number has. level.matches.slots node key number (close.all key) has) (λ key number has free. lanes.sealed key number has free)
          (λ key none. level.matches.unnumbered node key (close.all key) none) (plain_seals_places node s) level.gave
          (λ number past. level.numbered.beyond node some_key number (close.all some_key) past) seen_in
          (λ i j number a b. ap (λ (p : Place). p.1) (level.of_plan.once (node, i) (node, j) number a b)) ordered text other
          (ap (λ l. first_of (map close_fault (there_of (λ number. closeable (run.meaning.values number)) l))) seen_left ∙ (ap first_of (sym lanes_told) ∙ first))
          (ap first_of (sym plain_told) ∙ second)

  -- ---- the end of a node

  -- at the places in other contexts the same stands after it
  module _ (node : ℕ) (places : Places) (before after : History) (s t : ValueState) (plain : SealsPlaces node s t) (lanes : SealsCells run node places before after)
      (level : AreLevel plan run places before s) where
    same_slot : (context : ℕ) (key : KeyValue) → context ≢ node → plain_slot t context key ≡ plain_slot s context key
    same_slot context key other = sealed_slot node s t plain context key other

    matched_besides : (context : ℕ) (key : KeyValue) (number : ℕ) → besides node places context key ≡ true → HasNumberIn run key number
        → AreMatched run.meaning (plain_meaning t.values) (slots_in (cell_of run number) after context) (plain_slot t context key)
    matched_besides context key number is has =
        let both = both_true (places context key) (not (context == node)) is in
        let other = not_one context node both.1 in
        subst (λ values. AreMatched run.meaning (plain_meaning values) (slots_in (cell_of run number) after context) (plain_slot t context key)) (sym plain.values)
        (subst (λ x. AreMatched run.meaning (plain_meaning s.values) x (plain_slot t context key)) (sym (lanes.others context number key other both.0 has))
        (subst (λ x. AreMatched run.meaning (plain_meaning s.values) (slots_in (cell_of run number) before context) x) (sym (same_slot context key other)) (level.matches.slots context key number both.0 has)))

    nothing_beyond : (context : ℕ) (key : KeyValue) (number : ℕ) → besides node places context key ≡ true → length t.keys ≤ number → t.store.slots (context, number) ≡ None
    nothing_beyond context key number is past =
        let both = both_true (places context key) (not (context == node)) is in
        plain.others context number (not_one context node both.1) ∙ level.numbered.beyond context key number both.0 (subst (λ (keys : List KeyValue). length keys ≤ number) plain.keys past)

    gave_few : GaveFew (keys_named plan) (enough_numbers plan.size) t
    gave_few = record {
      values = ap length plain.values ∙ (level.gave.values ∙ sym plain.drawn);
      keys = record {
        different = subst AreDifferent (sym plain.keys) level.gave.keys.different;
        few = subst (λ n. length t.keys ≤ n) (sym plain.places) (subst (λ (keys : List KeyValue). length keys ≤ s.places) (sym plain.keys) level.gave.keys.few);
      };
      named = subst (All (Contains (keys_named plan))) (sym plain.keys) level.gave.named;
      room = subst (λ n. length (keys_named plan) ≤ n) (sym plain.places) level.gave.room;
      limit = plain.numbers ∙ level.gave.limit;
    }

    level_besides : IsOfPlan plan t → AreLevel plan run (besides node places) after t
    level_besides of_plan = record {
      matches = record {
        slots = matched_besides;
        unnumbered = λ context key is none.
            let both = both_true (places context key) (not (context == node)) is in
            same_slot context key (not_one context node both.1) ∙ level.matches.unnumbered context key both.0 none;
      };
      numbered = record { beyond = nothing_beyond; drawn = plain.drawn ∙ (level.numbered.drawn ∙ sym (ap length plain.values)) };
      memory = plain.memory ∙ level.memory;
      keeps = level.keeps ∙ sym plain.keeps;
      gave = gave_few;
      of_plan = of_plan;
    }

  -- and numbers stay in their order at the places in other contexts
  pub close_orders : (node : ℕ) (places : Places) (lane : PlanLane) (rest : List PlanLane) (faults : List (Option Fault)) (after : List PlanLane) → IsClosedAlone plan run locks h touched changes changed shares node places lane rest faults after
      → (s : ValueState) → AreLevel plan run places (first_seen (lane ∷ rest)) s → Orders run (besides node places) (first_seen (lane ∷ rest)) (first_seen after) s (seal_keys s.places node s)
  close_orders node places lane rest faults after close s level =
      let lanes = lanes_seal node places lane rest faults after close in
      orders_kept run (besides node places) (seen_by lane.cells.view) (first_seen after) s (seal_keys s.places node s)
      (matches_at_fewer run places (besides node places) (seen_by lane.cells.view) s (λ context key is. (both_true (places context key) (not (context == node)) is).0) level.matches)
      (numbered_at_fewer places (besides node places) s (λ context key is. (both_true (places context key) (not (context == node)) is).0) level.numbered)
      (λ context key number is has. let both = both_true (places context key) (not (context == node)) is in lanes.others context number key (not_one context node both.1) both.0 has)
      (λ context key is. let both = both_true (places context key) (not (context == node)) is in sealed_slot node s (seal_keys s.places node s) (plain_seals_places node s) context key (not_one context node both.1))

  pub closes_end_level : ClosesEndLevel plan run locks h touched changes changed shares
  closes_end_level node is_test places lane rest outcomes faults after end close level ordered alike =
      let s = end.state in
      let t = seal_keys s.places node s in
      let lanes = lanes_seal node places lane rest faults after close in
      let texts = same_texts node places lane rest faults after close s level in
      let plain = faults_of_closes s.places node t in
      record {
        level = level_besides node places (seen_by lane.cells.view) (first_seen after) s t (plain_seals_places node s) lanes level (seals_of (plan_leaves plan) s.places node s level.of_plan);
        told = told_alike run places node is_test outcomes lane end faults alike
            ∙ sym (results_tell_no_order tells_lack node is_test end.calls end.computed end.found plain (map (option_map fault_text) faults)
            (IsPermutation-sym (map (option_map fault_text) faults) plain texts) (λ a b first second. sym (same_told node places lane rest faults after close s level ordered b a second first)));
      }
