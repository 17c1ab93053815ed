-- The steps of a call, some of which compute at open places, end near those of a plain run.
use Rattle.std.proofs.Common.{◌≡◌, ℕ, ◌+◌, ◌<◌, inl, inr, true, false, List, [], ◌∷◌, ◌++◌, Some, drop, length, refl, ap, sym, subst, ◌∙◌, append-nil, true≢false, arith}
use Rattle.std.specs.Prelude.{All, Contains}
use mathlib.Core.List.{append_cancel_left}
use Rattle.ext_history.specs.Histories.{seen_by}
use Rattle.ext_history.proofs.Lists.{bools, contains_cons, contains_none}
use Rattle.ext_model.specs.declared.event.Event.{Event}
use Rattle.ext_model.specs.History.{History}
use Rattle.ext_tree.specs.Keys.{KeyValue}
use Rattle.ext_lifecycle.specs.declared.outcome.Outcome.{Outcome}
use Rattle.ext_lifecycle.specs.Endings.{is_successful}
use Rattle.ext_lifecycle.specs.FaultTexts.{verdict_text}
use Rattle.ext_lifecycle.specs.Lifecycle.{ending_of}
use Rattle.ext_plan.specs.Plans.{KeyText, StepText, abort, fail, keyed}
use Rattle.ext_plan.specs.Steps.{height, step_key}
use Rattle.ext_plan.specs.ReadPlans.{StayOnPath}
use Rattle.ext_plan.specs.StepCalls.{start_of}
use Rattle.ext_plan.specs.StoreKeys.{key_of_step}
use Rattle.ext_store.specs.Stores.{IsLaneOf}
use Rattle.ext_engine.specs.Order.{LaneGoesOn}
use Rattle.ext_plan_plain.specs.ValueStates.{ValueState}
use Rattle.ext_plan_plain.specs.StepRuns.{StepEnd, step_run, steps_run}
use Rattle.ext_plan_plain.proofs.Stepping.{steps_run-nil}
use Rattle.ext_plan_parallel.specs.StoreCalls.{HasFrame, PlanLane}
use Rattle.ext_plan_parallel.specs.StoreSteps.{PlacesItsKey, StepRun, StepsRun}
use Rattle.ext_one_report.specs.FullRuns.{StepFinds}
use Rattle.ext_one_report.proofs.CallsWords.{StepHasRoom, StepWithin, StepsHaveRoom}
use Rattle.ext_one_report.proofs.MatchingWords.{Places, RunView}
use Rattle.ext_one_report.proofs.Calls.{all_first, all_later, finds_by, plain_goes, plain_stops, step_memory, steps_faults, steps_go, steps_lane, success_finds, told_so}
use Rattle.ext_one_report.proofs.Orders.{Orders}
use Rattle.ext_one_report.proofs.OrdersBounds.{orders_kept}
use Rattle.ext_one_report.proofs.Fills.{Fills, IsFilledBy}
use Rattle.ext_one_report.proofs.Open.{AreOpenBeside, ComputesOpen, FailsOpen, Given, Open, also, given_by, of_fault, of_nothing, place_of_step, still_open}
use Rattle.ext_one_report.proofs.OpenSteps.{AreBesideOpen}
use Rattle.ext_one_report.proofs.OpenCalls.{LeavesNear, NoneOpen, StepsFit}
use Rattle.ext_one_report.proofs.OpenFits.{at_itself, fits_later, open_step, still_twice, was_open}
use Rattle.ext_one_report.proofs.OpenGoing.{beside_first, beside_later, both_fill, left_then, then_settled}
use Rattle.ext_one_report.proofs.OpenSingles.{changes_within, single_is, single_run}
use Rattle.ext_one_report.proofs.OpenEnds.{Near, TouchesNone, computes_near, computes_settled, fails_near, fills_untouched, left_open, open_settled, within_near}

-- ---- where nothing happened

no_event : (h more : History) (e : Event ℕ) → h ≡ h ++ more → Contains more e → ⊥
no_event h more e is there =
    let none : more ≡ [] = append_cancel_left h more [] (sym is ∙ sym (append-nil h)) in
    contains_none e (subst (λ l. Contains l e) none there)

-- where nothing happened all is as it was, and nothing was filled
pub record LeftItself (run : RunView) (places : Places) (open_at : Open) (a b : PlanLane) (s : ValueState) : Type 0 where
  pub left : LeavesNear run places open_at a s b s
  pub fills : (n : ℕ) → Fills (IsFilledBy run a b) open_at (still_open left.settled open_at) s n n

module _ (run : RunView) (path : List ℕ) (places : Places) (open_at : Open) (a c : PlanLane) (s : ValueState) (both : AreBesideOpen run path places open_at a c s) where
  untouched : TouchesNone run open_at a a
  untouched x k n v is leaves has more now e there on own = no_event (seen_by a.cells.view) more e now there

  itself_orders : Orders run places (seen_by a.cells.view) (seen_by a.cells.view) s s
  itself_orders = orders_kept run places (seen_by a.cells.view) (seen_by a.cells.view) s s both.matches both.numbered (λ x k n is has. refl) (λ x k is. refl)

  itself : LeavesNear run places open_at a s a s
  itself = left_open run places open_at a s a s both.matches both.numbered both.near (λ x k v is. refl) untouched (omega arith) itself_orders

  itself_settled : itself.settled ≡ (λ x k. false)
  unfolding itself
  itself_settled = open_settled run places open_at a s a s both.matches both.numbered both.near (λ x k v is. refl) untouched (omega arith) itself_orders

  pub left_itself : (b : PlanLane) → b ≡ a → LeftItself run places open_at a b s
  left_itself b same = subst (λ x. LeftItself run places open_at a x s) (sym same) (record {
    left = itself;
    fills = λ n. subst (λ (p : Places). Fills (IsFilledBy run a a) open_at (still_open p open_at) s n n) (sym itself_settled) (fills_untouched run open_at a a s n untouched);
  })

-- ---- what no step computes any more

module _ (keys : List KeyText) (path : List ℕ) where
  computes_there : (open_at other : Open) (step : StepText) → ((c : ℕ) (k : KeyValue) (v : Given) → other c k ≡ Some v → open_at c k ≡ Some v)
      → ComputesOpen keys path other step → ComputesOpen keys path open_at step
  computes_there open_at other (keyed word key text up) were is = (is.0, were (start_of (drop up path)) (key_of_step keys key) _ is.1)
  computes_there open_at other (fail text) were is = absurd is
  computes_there open_at other (abort text) were is = absurd is

  -- where fewer places are open
  pub computes_before : (open_at : Open) (settled : Places) (step : StepText) → ComputesOpen keys path (still_open settled open_at) step → ComputesOpen keys path open_at step
  computes_before open_at settled step is = computes_there open_at (still_open settled open_at) step (λ c k v so. (was_open (settled c k) (open_at c k) v so).1) is

  -- a step that keeps within places that are not open computes at none that is
  within_none : (run : RunView) (places : Places) (open_at : Open) (step : StepText) → AreOpenBeside run places open_at → height step < length path → StepWithin keys path places step
      → ComputesOpen keys path open_at step → ⊥
  within_none run places open_at step beside below within computes =
      let it = open_step keys path open_at step computes in
      let context : ℕ = start_of (drop it.up path) in
      let key : KeyValue = key_of_step keys it.key in
      let there = changes_within keys path places step context key below within (record { named = it.key; up = it.up; changes = it.changes; context_is = refl; key_is = refl }) in
      true≢false (sym there ∙ beside.apart context key it.value it.is_open)

  -- and where its place is settled it does so no more
  settled_none : (open_at : Open) (step : StepText) → ComputesOpen keys path (still_open (place_of_step keys path step) open_at) step → ⊥
  settled_none open_at step computes =
      let at : Places = place_of_step keys path step in
      let it = open_step keys path (still_open at open_at) step computes in
      let context : ℕ = start_of (drop it.up path) in
      let key : KeyValue = key_of_step keys it.key in
      let on : at context key ≡ true = ap (λ (p : Places). p context key) it.at ∙ at_itself context key in
      true≢false (sym on ∙ (was_open (at context key) (open_at context key) it.value it.is_open).0)

  -- where nothing is kept, it computes nothing that is
  fails_none : (open_at : Open) (step : StepText) → FailsOpen keys path open_at step → ComputesOpen keys path open_at step → ⊥
  fails_none open_at (keyed word key text up) fails computes =
      let both : Some (given_by true word text) ≡ Some (of_nothing text) = sym computes.1 ∙ fails.1 in
      let kept : Some (of_fault text) ≡ Some (of_nothing text) = subst (λ w. Some (given_by true w text) ≡ Some (of_nothing text)) fails.0 both in
      cc kept
  fails_none open_at (fail text) fails computes = absurd fails
  fails_none open_at (abort text) fails computes = absurd fails

  none_then : (open_at : Open) (first second : Places) (step : StepText) (more : List StepText) → (ComputesOpen keys path (still_open first open_at) step → ⊥)
      → NoneOpen keys path (still_open second (still_open first open_at)) more → NoneOpen keys path (still_open (also second first) open_at) (step ∷ more)
  none_then open_at first second step more none others = record {
    none = λ one there computes.
        let twice = subst (λ (o : Open). ComputesOpen keys path o one) (sym (still_twice open_at first second)) computes in
        elim (contains_cons step more one there) [
          | inl same ↦ none (computes_before (still_open first open_at) second step (subst (λ (x : StepText). ComputesOpen keys path (still_open second (still_open first open_at)) x) (sym same) twice))
          | inr later ↦ others.none one later twice
        ];
  }

module _ (run : RunView) (keys : List KeyText) (path : List ℕ) where
  -- ---- the first step, and what the others fit

  record FirstNear (step : StepText) (places : Places) (open_at : Open) (a : PlanLane) (s : ValueState) (o : Outcome) (b : PlanLane) (end : StepEnd) (more : List StepText) : Type 0 where
    near : Near run places open_at a s o b end
    fits : StepsFit run keys path (also near.left.settled places) (still_open near.left.settled open_at) more
    settles : ComputesOpen keys path (still_open near.left.settled open_at) step → ⊥

  first_near : (places : Places) (open_at : Open) (step : StepText) (more : List StepText) (a : PlanLane) (o : Outcome) (b : PlanLane) (s : ValueState)
      → AreBesideOpen run path places open_at a b s → height step < length path → StepsFit run keys path places open_at (step ∷ more)
      → StepFinds keys o step → StepHasRoom keys step s → StepRun run.store keys path step a o b → HasFrame run.store a b → PlacesItsKey keys (step_key step) a b → FirstNear step places open_at a s o b (step_run keys path step s) more
  first_near places open_at step more a o b s both below (inl fits) finds room ran frame placed =
      let near = within_near run keys path places open_at step a o b s both below fits.0 fits.1 finds room ran frame placed in
      record {
        near = near;
        fits = fits_later run keys path both.path_is more places open_at near.left.settled both.beside fits.2;
        settles = λ computes. within_none keys path run places open_at step both.beside below fits.0 (computes_before keys path open_at near.left.settled step computes);
      }
  first_near places open_at step more a o b s both below (inr (inl fits)) finds room ran frame placed =
      let near = computes_near run keys path places open_at step a o b s both below fits.0 finds room ran frame placed in
      let settled = computes_settled run keys path places open_at step a o b s both below fits.0 finds room ran frame placed in
      record {
        near = near;
        fits = subst (λ (p : Places). StepsFit run keys path (also p places) (still_open p open_at) more) (sym settled) fits.1;
        settles = λ computes. settled_none keys path open_at step (subst (λ (p : Places). ComputesOpen keys path (still_open p open_at) step) settled computes);
      }
  first_near places open_at step more a o b s both below (inr (inr fits)) finds room ran frame placed =
      let near = fails_near run keys path places open_at step a o b s both below fits.0 finds room ran in
      record {
        near = near;
        fits = fits_later run keys path both.path_is more places open_at near.left.settled both.beside fits.1;
        settles = λ computes. fails_none keys path open_at step fits.0 (computes_before keys path open_at near.left.settled step computes);
      }

  -- Steps end near, and where they are successful all that they compute is settled
  pub record StepsNear (steps : List StepText) (places : Places) (open_at : Open) (a : PlanLane) (s : ValueState) (o : Outcome) (b : PlanLane) (end : StepEnd) : Type 0 where
    pub near : Near run places open_at a s o b end
    pub settles : is_successful (ending_of o.verdict) ≡ true → NoneOpen keys path (still_open near.left.settled open_at) steps

  -- ---- one step after another

  pub steps_near : (steps : List StepText) (places : Places) (open_at : Open) (a : PlanLane) (o : Outcome) (b : PlanLane) (s : ValueState)
      → AreBesideOpen run path places open_at a b s → StayOnPath (length path) steps → StepsFit run keys path places open_at steps
      → All (StepFinds keys o) steps → StepsHaveRoom keys path steps s → StepsRun run.store keys path steps a o b → StepsNear steps places open_at a s o b (steps_run keys path steps s)
  unfolding StepsRun
  steps_near [] places open_at a o b s both heights fits finds room ran =
      let itself = left_itself run path places open_at a b s both b ran.0 in
      subst (λ (end : StepEnd). StepsNear [] places open_at a s o b end) (sym (steps_run-nil keys path s)) (record {
        near = record {
          says = ran.1.says;
          counts = omega (arith, ran.1.computed_are, ran.1.found_are);
          left = itself.left;
          fills = subst (λ n. Fills (IsFilledBy run a b) open_at (still_open itself.left.settled open_at) s n 0) (sym ran.1.computed_are) (itself.fills 0);
        };
        settles = λ on. record { none = λ step there computes. contains_none step there };
      })
  steps_near (step ∷ more) places open_at a o b s both heights fits finds room ran =
      let first = ran.0 in
      let m = ran.1 in
      let next = step_run keys path step s in
      let below = all_first (λ x. height x < length path) step more heights in
      let alone = single_run run.store keys path step a first m ran.2 ran.3 ran.5 in
      elim (bools (is_successful (ending_of first.verdict))) [
        | inl on ↦
            let rest = ran.4.0 on in
            let goes : LaneGoesOn a m = steps_go run.store keys path (step ∷ []) a first m alone in
            let further : LaneGoesOn m b = steps_go run.store keys path more m rest.0 b rest.1 in
            let of : IsLaneOf run.store.id m = steps_lane run.store keys path (step ∷ []) a first m both.of alone in
            let one : FirstNear step places open_at a s first m next more =
            first_near places open_at step more a first m s (beside_first run path places open_at a m b s further both) below fits (success_finds keys step first on) room.0 ran.2 ran.3 ran.5 in
            let passed : is_successful next.verdict ≡ true = ap is_successful (sym one.near.says) ∙ (told_so first.verdict ∙ on) in
            let faults : next.state.keep_faults ≡ s.keep_faults =
            subst (λ (e : StepEnd). e.state.keep_faults ≡ s.keep_faults) (single_is keys path step s both.memory) (steps_faults keys path (step ∷ []) s) in
            let later = beside_later run path places open_at a m b s next.state both goes further one.near.left of (step_memory keys path step s both.memory) faults in
            let others = steps_near more _ _ m rest.0 b next.state later (all_later (λ x. height x < length path) step more heights) one.fits
            (λ n d within. finds_by keys _ o rest.0 rest.2.verdict_is (all_later (StepFinds keys o) step more finds n d within)) (room.1 passed) rest.1 in
            let left : LeavesNear run places open_at a s b (steps_run keys path more next.state).state =
            left_then run path places open_at a m b s next.state both goes further (steps_run keys path more next.state).state one.near.left others.near.left in
            let fills = both_fill run path places open_at a m b s next.state both goes further (steps_run keys path more next.state).state one.near.left others.near.left
            first.computed next.computed rest.0.computed (steps_run keys path more next.state).computed one.near.fills others.near.fills in
            let settled = then_settled run path places open_at a m b s next.state both goes further (steps_run keys path more next.state).state one.near.left others.near.left in
            subst (λ (end : StepEnd). StepsNear (step ∷ more) places open_at a s o b end) (sym (plain_goes keys path step more s both.memory passed)) (record {
              near = record {
                says = ap verdict_text rest.2.verdict_is ∙ others.near.says;
                counts = omega (arith, rest.2.computed_are, rest.2.found_are, one.near.counts, others.near.counts);
                left = left;
                fills = subst (λ n. Fills (IsFilledBy run a b) open_at (still_open left.settled open_at) s n (next.computed + (steps_run keys path more next.state).computed)) (sym rest.2.computed_are) fills;
              };
              settles = λ good.
                  let rest_good : is_successful (ending_of rest.0.verdict) ≡ true = ap (λ v. is_successful (ending_of v)) (sym rest.2.verdict_is) ∙ good in
                  subst (λ (p : Places). NoneOpen keys path (still_open p open_at) (step ∷ more)) (sym settled)
                  (none_then keys path open_at one.near.left.settled others.near.left.settled step more one.settles (others.settles rest_good));
            })
        | inr off ↦
            let is = ran.4.1 off in
            let found : StepFinds keys first step = finds_by keys step o first (ap (λ (x : Outcome). x.verdict) is.0) (all_first (StepFinds keys o) step more finds) in
            let both_here : AreBesideOpen run path places open_at a m s = subst (λ (x : PlanLane). AreBesideOpen run path places open_at a x s) is.1 both in
            let one : FirstNear step places open_at a s first m next more = first_near places open_at step more a first m s both_here below fits found room.0 ran.2 ran.3 ran.5 in
            let ended : is_successful next.verdict ≡ false = ap is_successful (sym one.near.says) ∙ (told_so first.verdict ∙ off) in
            let stopped : StepsNear (step ∷ more) places open_at a s first m next = record { near = one.near; settles = λ on. absurd (true≢false (sym on ∙ off)) } in
            subst (λ (end : StepEnd). StepsNear (step ∷ more) places open_at a s o b end) (sym (plain_stops keys path step more s both.memory ended))
            (subst (λ (x : Outcome). StepsNear (step ∷ more) places open_at a s x b next) (sym is.0) (subst (λ (x : PlanLane). StepsNear (step ∷ more) places open_at a s first x next) (sym is.1) stopped))
      ]
