-- The calls of a node, some of whose steps compute at open places, end near those of a plain run.
use Rattle.std.proofs.Common.{◌≡◌, ℕ, ◌+◌, inl, inr, true, false, List, [], ◌∷◌, ◌++◌, map, refl, ap, sym, subst, ◌∙◌, append_assoc, append-nil, true≢false, arith}
use Rattle.std.specs.Prelude.{All, ◌&&◌}
use Rattle.std.specs.List.{flat_map}
use Rattle.std.proofs.lemmas.List.{map-append}
use Rattle.std.proofs.lemmas.List.Elements.{Contains-append_cases}
use Rattle.std.proofs.lemmas.List.Sums.{sum_by-append, sum_by-cons}
use Rattle.ext_history.proofs.Lists.{bools, contains_none}
use Rattle.ext_tree.specs.Trees.{IsPathOf}
use Rattle.ext_tree.proofs.Walks.{one_path}
use Rattle.ext_lifecycle.specs.declared.call.Call.{Call}
use Rattle.ext_lifecycle.specs.declared.outcome.Outcome.{Outcome}
use Rattle.ext_lifecycle.specs.Endings.{all_successful, is_successful, with_fault}
use Rattle.ext_lifecycle.specs.FaultTexts.{fault_text}
use Rattle.ext_lifecycle.specs.Lifecycle.{MakesAll, MakesBefores, computed_in, ending_of, endings_of}
use Rattle.ext_plan.specs.Plans.{KeyText, PlanText, StepText}
use Rattle.ext_plan.specs.PlanCalls.{steps_of_call}
use Rattle.ext_store.specs.Stores.{IsLaneOf}
use Rattle.ext_engine.specs.Order.{LaneGoesOn}
use Rattle.ext_engine.proofs.Going.{goes_same}
use Rattle.ext_plan_plain.specs.ValueStates.{ValueState}
use Rattle.ext_plan_plain.specs.StepRuns.{StepEnd}
use Rattle.ext_plan_plain.specs.NodeCalls.{CallsEnd, and_call, call_run, make_all, make_befores, no_calls}
use Rattle.ext_plan_parallel.specs.StoreCalls.{PlanLane}
use Rattle.ext_plan_parallel.specs.StoreSteps.{StepsRun}
use Rattle.ext_one_report.specs.FullRuns.{StepFinds}
use Rattle.ext_one_report.proofs.CallsWords.{StepsHaveRoom}
use Rattle.ext_one_report.proofs.CallListsWords.{BeforesHaveRoom, CallsFind, CallsHaveRoom, Makes}
use Rattle.ext_one_report.proofs.MatchingWords.{Places, RunView}
use Rattle.ext_one_report.proofs.Calls.{all_first, all_later, steps_faults, steps_go, steps_lane, steps_memory, told_so}
use Rattle.ext_one_report.proofs.CallLists.{all_go, befores_go, if_made, stays, successful_more}
use Rattle.ext_one_report.proofs.Fills.{Fills, IsFilledBy}
use Rattle.ext_one_report.proofs.Open.{ComputesOpen, Open, also, still_open}
use Rattle.ext_one_report.proofs.OpenSteps.{AreBesideOpen}
use Rattle.ext_one_report.proofs.OpenCalls.{AllCallsEndNear, BeforesEndNear, BeforesFit, CallFitsOpen, CallsNear, LeavesNear, NoneOpen}
use Rattle.ext_one_report.proofs.OpenFits.{fits_later, still_twice}
use Rattle.ext_one_report.proofs.OpenGoing.{beside_first, beside_later, both_fill, left_then, then_settled}
use Rattle.ext_one_report.proofs.OpenEnds.{Near}
use Rattle.ext_one_report.proofs.OpenLists.{StepsNear, computes_before, left_itself, steps_near}

-- ---- what is said, counted and left

-- Calls with these outcomes `new` end so after others: with those of the others these are all outcomes, and the plain run had computed so many values before
pub record Calls (run : RunView) (places : Places) (open_at : Open) (a : PlanLane) (s : ValueState) (before : ℕ) (new all : List Outcome) (b : PlanLane) (e : CallsEnd) : Type 0 where
  pub near : CallsNear all e
  pub left : LeavesNear run places open_at a s b e.state
  pub plain : ℕ
  pub computed_are : e.computed ≡ before + plain
  pub fills : Fills (IsFilledBy run a b) open_at (still_open left.settled open_at) s (computed_in new) plain
  -- so that further calls may come
  pub of : IsLaneOf run.store.id b
  pub memory : e.state.memory ≡ []
  pub faults : e.state.keep_faults ≡ s.keep_faults

pub more_near : {run : RunView} {places : Places} {open_at : Open} {a : PlanLane} {s : ValueState} {b : PlanLane} (os : List Outcome) (o : Outcome) (e : CallsEnd) (end : StepEnd)
    → CallsNear os e → Near run places open_at a s o b end → CallsNear (os ++ o ∷ []) (and_call e end)
more_near os o e end near one =
    let ends : endings_of (os ++ o ∷ []) ≡ endings_of os ++ ending_of o.verdict ∷ [] = map-append (λ x. ending_of x.verdict) os (o ∷ []) in
    let computed = sum_by-append (λ (x : Outcome). x.computed) os (o ∷ []) in
    let found = sum_by-append (λ (x : Outcome). x.found) os (o ∷ []) in
    record {
      says = ap (map (with_fault fault_text)) ends ∙ (map-append (with_fault fault_text) (endings_of os) (ending_of o.verdict ∷ []) ∙ (λ i. near.says i ++ one.says i ∷ []));
      counts = omega (arith, computed, found, near.counts, one.counts);
    }

joined : (os rest all : List Outcome) (o : Outcome) → all ≡ o ∷ rest → (os ++ o ∷ []) ++ rest ≡ os ++ all
joined os rest all o is = append_assoc os (o ∷ []) rest ∙ ap (λ l. os ++ l) (sym is)

-- what some steps and others compute is settled where both are
none_both : (keys : List KeyText) (path : List ℕ) (open_at : Open) (first second : Places) (steps more : List StepText) → NoneOpen keys path (still_open first open_at) steps
    → NoneOpen keys path (still_open second (still_open first open_at)) more → NoneOpen keys path (still_open (also second first) open_at) (steps ++ more)
none_both keys path open_at first second steps more none others = record {
  none = λ step there computes.
      let twice = subst (λ (o : Open). ComputesOpen keys path o step) (sym (still_twice open_at first second)) computes in
      elim (Contains-append_cases steps more step there) [
        | inl early ↦ none.none step early (computes_before keys path (still_open first open_at) second step twice)
        | inr late ↦ others.none step late twice
      ];
}

module _ (run : RunView) (plan : PlanText) (node : ℕ) (path : List ℕ) (path_is : IsPathOf run.store.tree node path) where
  -- no call was made
  pub none_near : (os rest : List Outcome) (places : Places) (open_at : Open) (a b c : PlanLane) (e : CallsEnd) → rest ≡ [] → b ≡ a → CallsNear os e → AreBesideOpen run path places open_at a c e.state
      → Calls run places open_at a e.state e.computed rest (os ++ rest) b e
  none_near os rest places open_at a b c e none same near both = let itself = left_itself run path places open_at a c e.state both b same in record {
    near = subst (λ l. CallsNear l e) (sym (ap (λ l. os ++ l) none ∙ append-nil os)) near;
    left = itself.left;
    plain = 0;
    computed_are = omega arith;
    fills = subst (λ l. Fills (IsFilledBy run a b) open_at (still_open itself.left.settled open_at) e.state (computed_in l) 0) (sym none) (itself.fills 0);
    of = subst (λ (x : PlanLane). IsLaneOf run.store.id x) (sym same) both.of;
    memory = both.memory;
    faults = refl;
  }

  -- ---- one call

  call_goes : (call : Call) (a : PlanLane) (o : Outcome) (b : PlanLane) → Makes plan run.store node a call o b → LaneGoesOn a b
  call_goes call a o b made = steps_go run.store plan.keys made.path (steps_of_call plan call) a o b made.steps

  module _ (call : Call) (places : Places) (open_at : Open) (a : PlanLane) (o : Outcome) (m b : PlanLane) (s : ValueState) (made : Makes plan run.store node a call o m) (further : LaneGoesOn m b)
      (both : AreBesideOpen run path places open_at a b s) where
    one_near : CallFitsOpen run plan path places open_at call → All (StepFinds plan.keys o) (steps_of_call plan call) → StepsHaveRoom plan.keys path (steps_of_call plan call) s
        → StepsNear run plan.keys path (steps_of_call plan call) places open_at a s o m (call_run plan path call s)
    one_near fits finds room =
        let same : made.path ≡ path = one_path run.store.tree both.tree node made.path path made.path_is path_is in
        steps_near run plan.keys path (steps_of_call plan call) places open_at a o m s (beside_first run path places open_at a m b s further both) fits.0 fits.1 finds room
        (subst (λ p. StepsRun run.store plan.keys p (steps_of_call plan call) a o m) same made.steps)

    module _ (one : Near run places open_at a s o m (call_run plan path call s)) where
      abbrev settled : Places
      settled = one.left.settled

      both_later : AreBesideOpen run path (also settled places) (still_open settled open_at) m b (call_run plan path call s).state
      both_later = beside_later run path places open_at a m b s (call_run plan path call s).state both (call_goes call a o m made) further one.left
          (steps_lane run.store plan.keys made.path (steps_of_call plan call) a o m both.of made.steps)
          (steps_memory plan.keys path (steps_of_call plan call) s both.memory) (steps_faults plan.keys path (steps_of_call plan call) s)

      both_left : (before : ℕ) (new all : List Outcome) (e : CallsEnd)
          → Calls run (also settled places) (still_open settled open_at) m (call_run plan path call s).state (before + (call_run plan path call s).computed) new all b e → Calls run places open_at a s before (o ∷ new) all b e
      both_left before new all e rest =
          let left = left_then run path places open_at a m b s (call_run plan path call s).state both (call_goes call a o m made) further e.state one.left rest.left in
          record {
            near = rest.near;
            left = left;
            plain = (call_run plan path call s).computed + rest.plain;
            computed_are = omega (arith, rest.computed_are);
            fills = subst (λ n. Fills (IsFilledBy run a b) open_at (still_open left.settled open_at) s n ((call_run plan path call s).computed + rest.plain)) (sym (sum_by-cons (λ (x : Outcome). x.computed) o new))
                (both_fill run path places open_at a m b s (call_run plan path call s).state both (call_goes call a o m made) further e.state one.left rest.left
                o.computed (call_run plan path call s).computed (computed_in new) rest.plain one.fills rest.fills);
            of = rest.of;
            memory = rest.memory;
            faults = rest.faults ∙ steps_faults plan.keys path (steps_of_call plan call) s;
          }

      left_settled : (before : ℕ) (new all : List Outcome) (e : CallsEnd)
          (rest : Calls run (also settled places) (still_open settled open_at) m (call_run plan path call s).state (before + (call_run plan path call s).computed) new all b e)
          → (both_left before new all e rest).left.settled ≡ also rest.left.settled settled
      unfolding both_left
      left_settled before new all e rest = then_settled run path places open_at a m b s (call_run plan path call s).state both (call_goes call a o m made) further e.state one.left rest.left

  pub fit_later : (calls : List Call) (places : Places) (open_at : Open) (settled : Places) (a b : PlanLane) (s : ValueState) → AreBesideOpen run path places open_at a b s
      → All (CallFitsOpen run plan path places open_at) calls → All (CallFitsOpen run plan path (also settled places) (still_open settled open_at)) calls
  fit_later calls places open_at settled a b s both fits = λ n d within.
      let one = fits n d within in
      (one.0, fits_later run plan.keys path both.path_is _ places open_at settled both.beside one.1)

  -- ---- all calls

  pub all_near : (calls : List Call) (done : List Outcome) (places : Places) (open_at : Open) (a : PlanLane) (os : List Outcome) (b : PlanLane) (e : CallsEnd)
      → CallsNear done e → AreBesideOpen run path places open_at a b e.state → All (CallFitsOpen run plan path places open_at) calls → CallsFind plan calls os
      → CallsHaveRoom plan path calls e.state → MakesAll (Makes plan run.store node) calls a os b → Calls run places open_at a e.state e.computed os (done ++ os) b (make_all (call_run plan path) calls e)
  all_near [] done places open_at a os b e near both fits finds room made = none_near done os places open_at a b b e made.0 made.1 near both
  all_near (call ∷ calls) done places open_at a os b e near both fits finds room made =
      let o = made.0 in
      let m = made.2 in
      let end = call_run plan path call e.state in
      let further = all_go run plan node path places path_is calls m made.1 b made.5 in
      let found : CallsFind plan (call ∷ calls) (o ∷ made.1) = subst (CallsFind plan (call ∷ calls)) made.3 finds in
      let one = (one_near call places open_at a o m b e.state made.4 further both (all_first (CallFitsOpen run plan path places open_at) call calls fits) found.0 room.0).near in
      let fit = fit_later calls places open_at one.left.settled a b e.state both (all_later (CallFitsOpen run plan path places open_at) call calls fits) in
      let rest = all_near calls (done ++ o ∷ []) _ _ m made.1 b (and_call e end) (more_near done o e end near one)
      (both_later call places open_at a o m b e.state made.4 further both one) fit found.1 room.1 made.5 in
      let ends : Calls run places open_at a e.state e.computed (o ∷ made.1) ((done ++ o ∷ []) ++ made.1) b (make_all (call_run plan path) calls (and_call e end)) =
      both_left call places open_at a o m b e.state made.4 further both one e.computed made.1 _ _ rest in
      subst (λ l. Calls run places open_at a e.state e.computed os l b (make_all (call_run plan path) calls (and_call e end))) (joined done made.1 os o made.3)
      (subst (λ new. Calls run places open_at a e.state e.computed new ((done ++ o ∷ []) ++ made.1) b (make_all (call_run plan path) calls (and_call e end))) (sym made.3) ends)

  -- ---- calls up to the first that is not successful

  -- Such calls end near, and where all are successful all that they compute is settled
  pub record BeforesNear (calls : List Call) (places : Places) (open_at : Open) (a : PlanLane) (s : ValueState) (before : ℕ) (new all : List Outcome) (b : PlanLane) (e : CallsEnd) : Type 0 where
    pub ends : Calls run places open_at a s before new all b e
    pub settles : all_successful e.calls ≡ true → NoneOpen plan.keys path (still_open ends.left.settled open_at) (flat_map (steps_of_call plan) calls)

  pub befores_near : (calls : List Call) (done : List Outcome) (places : Places) (open_at : Open) (a : PlanLane) (os : List Outcome) (b : PlanLane) (e : CallsEnd) → all_successful e.calls ≡ true
      → CallsNear done e → AreBesideOpen run path places open_at a b e.state → BeforesFit run plan path places open_at calls → CallsFind plan calls os
      → BeforesHaveRoom plan path calls e.state → MakesBefores (Makes plan run.store node) calls a os b → BeforesNear calls places open_at a e.state e.computed os (done ++ os) b (make_befores (call_run plan path) calls e)
  befores_near [] done places open_at a os b e all near both fits finds room made = record {
    ends = none_near done os places open_at a b b e made.0 made.1 near both;
    settles = λ good. record { none = λ step there computes. contains_none step there };
  }
  befores_near (call ∷ calls) done places open_at a os b e all near both fits finds room made =
      let o = made.0 in
      let m = made.2 in
      let end = call_run plan path call e.state in
      let found : CallsFind plan (call ∷ calls) (o ∷ made.1) = subst (CallsFind plan (call ∷ calls)) made.3 finds in
      let first : make_befores (call_run plan path) (call ∷ calls) e ≡ make_befores (call_run plan path) calls (and_call e end) = ap (make_befores (call_run plan path) calls) (if_made (call_run plan path) e call all) in
      let good : all_successful (and_call e end).calls ≡ is_successful end.verdict = successful_more e.calls end.verdict ∙ ap (λ b. b && is_successful end.verdict) all in
      elim (bools (is_successful (ending_of o.verdict))) [
        | inl on ↦
            let further = befores_go run plan node path places path_is calls m made.1 b (made.5.0 on) in
            let its = one_near call places open_at a o m b e.state made.4 further both fits.0 found.0 room.0 in
            let one = its.near in
            let passed : is_successful end.verdict ≡ true = ap is_successful (sym one.says) ∙ (told_so o.verdict ∙ on) in
            let fit = fits.1 one.left.settled (record { were_open = one.left.were_open; none_left = its.settles on }) in
            let rest = befores_near calls (done ++ o ∷ []) _ _ m made.1 b (and_call e end) (good ∙ passed) (more_near done o e end near one)
            (both_later call places open_at a o m b e.state made.4 further both one) fit found.1 (room.1 passed) (made.5.0 on) in
            let ends = both_left call places open_at a o m b e.state made.4 further both one e.computed made.1 _ _ rest.ends in
            let are = left_settled call places open_at a o m b e.state made.4 further both one e.computed made.1 _ _ rest.ends in
            let joins : BeforesNear (call ∷ calls) places open_at a e.state e.computed (o ∷ made.1) ((done ++ o ∷ []) ++ made.1) b (make_befores (call_run plan path) calls (and_call e end)) = record {
              ends = ends;
              settles = λ fine.
                  subst (λ (p : Places). NoneOpen plan.keys path (still_open p open_at) (flat_map (steps_of_call plan) (call ∷ calls))) (sym are)
                  (none_both plan.keys path open_at one.left.settled rest.ends.left.settled (steps_of_call plan call) (flat_map (steps_of_call plan) calls) (its.settles on) (rest.settles fine));
            } in
            subst (λ x. BeforesNear (call ∷ calls) places open_at a e.state e.computed os (done ++ os) b x) (sym first)
            (subst (λ l. BeforesNear (call ∷ calls) places open_at a e.state e.computed os l b (make_befores (call_run plan path) calls (and_call e end))) (joined done made.1 os o made.3)
            (subst (λ new. BeforesNear (call ∷ calls) places open_at a e.state e.computed new ((done ++ o ∷ []) ++ made.1) b (make_befores (call_run plan path) calls (and_call e end))) (sym made.3) joins))
        | inr off ↦
            let none = made.5.1 off in
            let further : LaneGoesOn m b = subst (λ (x : PlanLane). LaneGoesOn m x) (sym none.1) (goes_same m) in
            let one = (one_near call places open_at a o m b e.state made.4 further both fits.0 found.0 room.0).near in
            let ended : is_successful end.verdict ≡ false = ap is_successful (sym one.says) ∙ (told_so o.verdict ∙ off) in
            let last = none_near (done ++ o ∷ []) made.1 _ _ m b b (and_call e end) none.0 none.1 (more_near done o e end near one) (both_later call places open_at a o m b e.state made.4 further both one) in
            let stops : BeforesNear (call ∷ calls) places open_at a e.state e.computed (o ∷ made.1) ((done ++ o ∷ []) ++ made.1) b (and_call e end) = record {
              ends = both_left call places open_at a o m b e.state made.4 further both one e.computed made.1 _ _ last;
              settles = λ fine. absurd (true≢false (sym fine ∙ (good ∙ ended)));
            } in
            subst (λ x. BeforesNear (call ∷ calls) places open_at a e.state e.computed os (done ++ os) b x) (sym (first ∙ stays (call_run plan path) calls (and_call e end) (good ∙ ended)))
            (subst (λ l. BeforesNear (call ∷ calls) places open_at a e.state e.computed os l b (and_call e end)) (joined done made.1 os o made.3)
            (subst (λ new. BeforesNear (call ∷ calls) places open_at a e.state e.computed new ((done ++ o ∷ []) ++ made.1) b (and_call e end)) (sym made.3) stops))
      ]

  pub befores_first : (calls : List Call) (places : Places) (open_at : Open) (a : PlanLane) (os : List Outcome) (b : PlanLane) (s : ValueState)
      → AreBesideOpen run path places open_at a b s → BeforesFit run plan path places open_at calls → CallsFind plan calls os
      → BeforesHaveRoom plan path calls s → MakesBefores (Makes plan run.store node) calls a os b → BeforesNear calls places open_at a s 0 os os b (make_befores (call_run plan path) calls (no_calls s))
  befores_first calls places open_at a os b s both fits finds room made =
      befores_near calls [] places open_at a os b (no_calls s) refl (record { says = refl; counts = refl }) both fits finds room made

-- ---- as the lemmas on nodes want it

pub all_calls_end_near : AllCallsEndNear
all_calls_end_near = λ run plan node path places open_at calls done a os b e path_is near both fits finds room made.
    let all = all_near run plan node path path_is calls done places open_at a os b e near both fits finds room made in (all.near, all.left, all.plain, all.computed_are, all.fills)

pub befores_end_near : BeforesEndNear
befores_end_near = λ run plan node path places open_at calls a os b s path_is both fits finds room made.
    let all = befores_first run plan node path path_is calls places open_at a os b s both fits finds room made in
    let ends = all.ends in
    let computed : ends.plain ≡ (make_befores (call_run plan path) calls (no_calls s)).computed = omega (arith, ends.computed_are) in (
      ends.near,
      ends.left,
      all.settles,
      subst (λ n. Fills (IsFilledBy run a b) open_at (still_open ends.left.settled open_at) s (computed_in os) n) computed ends.fills,
    )
