-- A step whose factory fails at an open place where nothing is kept: on a lane and in a plain run all is as before.
-- Javadoc `ExtensionContext.Store`, `getOrComputeIfAbsent`.
use Rattle.std.proofs.Common.{◌≡◌, ◌≢◌, ℕ, inl, inr, true, false, List, [], ◌∷◌, ◌++◌, Contains, drop, refl, ap, sym, ◌∙◌, nat_eq, Some}
use Rattle.std.specs.List.{slice_index_or}
use Rattle.std.specs.Prelude.{All, codes}
use base.Growing.{prefix_refl}
use Rattle.ext_history.specs.Histories.{seen_by}
use Rattle.ext_model.specs.declared.event.Event.{Event}
use Rattle.ext_model.specs.Events.{is_on}
use Rattle.ext_model.specs.History.{History}
use Rattle.ext_tree.specs.Keys.{KeyValue}
use Rattle.ext_tree.specs.Trees.{IsPathOf}
use Rattle.ext_tree.proofs.KeyPlacing.{number_stays}
use Rattle.ext_lifecycle.specs.declared.outcome.Outcome.{Outcome}
use Rattle.ext_plan.specs.declared.word.Word.TheVariants as words
use Rattle.ext_plan.specs.Plans.{KeyText, StepKeyText, keyed, fail, abort}
use Rattle.ext_plan.specs.StepCalls.{label_of, start_of}
use Rattle.ext_plan.specs.StoreKeys.{key_of_step}
use Rattle.ext_plan_plain.specs.ValueStates.{ValueState, enough}
use Rattle.ext_plan_plain.specs.StepRuns.{StepEnd, computefail_numbered, numbered_by}
use Rattle.ext_plan_parallel.specs.StoreCalls.{PlanLane}
use Rattle.ext_plan_parallel.specs.StoreSteps.{StepFails}
use Rattle.ext_one_report.proofs.MatchingWords.{HasNumberIn, Matches, Places, RunView, cell_of, plain_slot}
use Rattle.ext_one_report.specs.FullRuns.{FindsAll}
use Rattle.ext_one_report.proofs.StepsWords.{HasRoom}
use Rattle.ext_one_report.proofs.Calls.{path_above}
use Rattle.ext_one_report.proofs.Matching.{cells_apart}
use Rattle.ext_one_report.proofs.StepLooks.{key_found}
use Rattle.ext_one_report.proofs.Open.{AreNear, Given, Open, is_left, of_nothing}
use Rattle.ext_one_report.proofs.OpenFills.{own_on_it}
use Rattle.ext_one_report.proofs.OpenLane.{LaneFails, lane_fails}
use Rattle.ext_one_report.proofs.OpenPlain.{PlainFails, plain_fails}
use Rattle.ext_one_report.proofs.OpenStep.{above_still, clear_open, clear_within, keeps_in_plain, keeps_on_lane, lanes_still, matched_still, open_value, plain_still, same_open, same_within}
use Rattle.ext_one_report.proofs.OpenSteps.{AreBesideOpen, OpenFailsEndNear, StepFailsNear}
use Rattle.ext_one_report.proofs.OrdersBounds.{orders_kept}
use Rattle.ext_one_report.proofs.OwnEvents.{number_is, slots_at}
use Rattle.ext_one_report.proofs.WordCases.{finds_none}

-- ---- both runs

module _ (run : RunView) (path : List ℕ) (places : Places) (open_at : Open) (a b : PlanLane) (s : ValueState) (both : AreBesideOpen run path places open_at a b s)
    (context : ℕ) (key : KeyValue) (number : ℕ) (text : List ℕ) (is_there : open_at context key ≡ Some (of_nothing text)) (has : HasNumberIn run key number) (o : Outcome) (end : StepEnd)
    (ours : LaneFails run context number a o b) (theirs : PlainFails s end) where
  abbrev no_place : Places
  no_place c k = false

  slot_is : (c : ℕ) (k : KeyValue) → places c k ≡ true → plain_slot end.state c k ≡ plain_slot s c k
  slot_is c k within = same_within run path places open_at a b s both context key number (of_nothing text) is_there has ours.acts no_place end.state theirs.leaves c k within refl

  open_slot_is : (c : ℕ) (k : KeyValue) (w : Given) → open_at c k ≡ Some w → plain_slot end.state c k ≡ plain_slot s c k
  open_slot_is c k w is = same_open run path places open_at a b s both context key number (of_nothing text) is_there has ours.acts no_place end.state theirs.leaves c k w refl is

  matches_then : Matches run places (seen_by b.cells.view) end.state
  matches_then = record {
    slots = λ c k n within has'. matched_still run path places open_at a b s both context key number (of_nothing text) is_there has ours.acts no_place end.state theirs.leaves c k n within refl has';
    unnumbered = λ c k within none. slot_is c k within ∙ both.matches.unnumbered c k within none;
  }

  near_then : AreNear run open_at (seen_by b.cells.view) end.state
  near_then = record {
    lanes = λ c k n w is has'. lanes_still run path places open_at a b s both context key number (of_nothing text) is_there has ours.acts no_place end.state theirs.leaves c k n w is has';
    plain = λ c k w is. plain_still run path places open_at a b s both context key number (of_nothing text) is_there has ours.acts no_place end.state theirs.leaves c k w is refl;
    above = λ c k w above is path_is.
        above_still run path places open_at a b s both context key number (of_nothing text) is_there has ours.acts no_place end.state theirs.leaves (λ d l within. refl) c k w above is path_is;
    numbered = record {
      beyond = λ c k n is past.
          let some = open_value open_at c k is in
          theirs.leaves.stays_open c refl (clear_open run path places open_at a b s both c k some.0 some.1) n past;
      drawn = theirs.drawn;
    };
  }

  -- the lane's own events are at the place alone, where nothing is left
  none_elsewhere : (c : ℕ) (k : KeyValue) (n : ℕ) (w : Given) → open_at c k ≡ Some w → is_left w ≡ true → HasNumberIn run k n
      → (more : History) → seen_by b.cells.view ≡ seen_by a.cells.view ++ more → (e : Event ℕ) → Contains more e → is_on nat_eq (cell_of run n c) e.act ≡ true → e.lane ≢ a.cells.view.number
  none_elsewhere c k n w is left has' more seen e there on = λ by_lane.
      let on_it = own_on_it (cell_of run number context) (cell_of run n c) a.cells.view b.cells.view ours.acts more seen e there by_lane on in
      let same = cells_apart run context c key k number n both.view has has' (number_is _ _ on_it) in
      let one : open_at context key ≡ open_at c k = λ i. open_at (same.0 i) (same.1 i) in
      let some : Some (of_nothing text) ≡ Some w = sym is_there ∙ (one ∙ is) in
      let it : of_nothing text ≡ w = cc some in
      cc (ap is_left it ∙ left)

  pub fails_near : StepFailsNear run places open_at a s o b end
  fails_near = record {
    says = ours.says;
    plain_says = theirs.says;
    computed = ours.computed;
    found = ours.found;
    plain_computed = theirs.computed;
    plain_found = theirs.found;
    matches = matches_then;
    numbered = record {
      beyond = λ c k n within past. theirs.leaves.stays_open c refl (clear_within run path places open_at a b s both c k within) n past;
      drawn = theirs.drawn;
    };
    near = near_then;
    unchanged = open_slot_is;
    untouched = none_elsewhere;
    rises = theirs.leaves.drawn;
    orders = orders_kept run places (seen_by a.cells.view) (seen_by b.cells.view) s end.state both.matches both.numbered
        (λ c k n within has'.
        slots_at run places both.view context key number has (both.beside.apart context key (of_nothing text) is_there) a.cells.view b.cells.view both.alone ours.acts (seen_by b.cells.view) ours.acts.goes (prefix_refl (seen_by b.cells.view))
        c k n within has')
        slot_is;
  }

-- ---- the step

module _ (run : RunView) (keys : List KeyText) (path : List ℕ) (places : Places) (open_at : Open) (key : StepKeyText) (text : List ℕ) (a : PlanLane) (o : Outcome) (b : PlanLane) (s : ValueState)
    (both : AreBesideOpen run path places open_at a b s) (finds : FindsAll (codes "computefail") (label_of keys key) o) (room : HasRoom (key_of_step keys key) s) where
  -- along a path of the store's tree
  fails_along : (below : List ℕ) → IsPathOf run.store.tree (start_of below) below → open_at (start_of below) (key_of_step keys key) ≡ Some (of_nothing text)
      → StepFails run.store (record { name = codes "computefail"; label = label_of keys key; path = below; key = key_of_step keys key }) text a o b
      → StepFailsNear run places open_at a s o b (numbered_by enough (codes "computefail") (label_of keys key) (key_of_step keys key) (computefail_numbered enough (codes "computefail") (label_of keys key) below text) s)
  fails_along [] is_path is made = absurd is_path
  fails_along (context ∷ above) is_path is (inr (why, refused_key, (same, ends))) = absurd (key_found (codes "computefail") (label_of keys key) o a b (key_of_step keys key) why finds refused_key ends)
  fails_along (context ∷ above) is_path is (inl (number, has, made)) =
      let k : KeyValue = key_of_step keys key in
      let v : Given = of_nothing text in
      let has_in : HasNumberIn run k number = number_stays b.keys run.numbering k number both.lane.keys has in
      let none = both.near.above context k v above is is_path in
      let within : All (λ c. places c k ≡ true) above = both.beside.above context k v above is is_path in
      let keeps : run.store.id.cells.limits.keep_faults ≡ false = both.beside.kept context k v is in
      let ours : LaneFails run context number a o b =
      lane_fails run places open_at both.view both.tree both.beside (codes "computefail") (label_of keys key) context above k number is_path has_in v is s none a b o both.lane finds both.alone both.computed both.legal both.matches
      (both.near.lanes context k number v is has_in) text refl (keeps_on_lane run keys path places open_at (codes "computefail") key a o b s both finds room false keeps) made in
      let theirs =
      plain_fails keys (codes "computefail") key context above s room both.numbered.drawn (clear_open run path places open_at a b s both context k v is)
      (λ i d less. clear_within run path places open_at a b s both (slice_index_or above i d) k (within i d less)) none text (keeps_in_plain run keys path places open_at (codes "computefail") key a o b s both finds room false keeps)
      (both.near.plain context k v is) in
      fails_near run path places open_at a b s both context k number text is has_in o _ ours theirs

-- any step whose factory fails where nothing is kept
pub fails_end_near : OpenFailsEndNear
fails_end_near run keys path places open_at (keyed words.ComputeFail key text up) a o b s fails less both finds room (inl made) =
    fails_along run keys path places open_at key text a o b s both finds.1 room (drop up path) (path_above run.store.tree path (start_of path) up both.path_is less) fails.1 made
fails_end_near run keys path places open_at (keyed word key text up) a o b s fails less both finds room (inl made) = absurd (cc fails.0)
fails_end_near run keys path places open_at (keyed word key text up) a o b s fails less both finds room (inr lacks) = absurd (finds.0 (finds_none keys word key a o b lacks).ends.0)
fails_end_near run keys path places open_at (fail text) a o b s fails less both finds room ran = absurd fails
fails_end_near run keys path places open_at (abort text) a o b s fails less both finds room ran = absurd fails
