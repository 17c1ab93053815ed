-- The calls of a node leave nothing in contexts that are not on its path.
use Rattle.std.proofs.Common.{◌≡◌, ◌<◌, ℕ, zero, suc, inl, inr, Bool, true, false, List, [], ◌∷◌, length, drop, All, Contains, Option, None, Some, refl, ap, arith}
use Rattle.std.specs.Prelude.{if◌then◌else◌}
use Rattle.std.proofs.lemmas.List.Elements.{All-contains, All-head, All-tail}
use Rattle.ext_history.proofs.Lists.{contains_here, contains_later}
use Rattle.ext_tree.specs.Trees.{IsPathOf}
use Rattle.ext_lifecycle.specs.declared.call.Call.{Call}
use Rattle.ext_lifecycle.specs.Endings.{all_successful}
use Rattle.ext_plan.specs.Plans.{PlanText, StepKeyText, StepText, abort, fail, keyed}
use Rattle.ext_plan.specs.PlanCalls.{steps_of_call}
use Rattle.ext_plan.specs.ReadPlans.{IsReadPlan, ids_of_nodes}
use Rattle.ext_plan.specs.StepCalls.{start_of}
use Rattle.ext_plan.specs.StepWords.{changes}
use Rattle.ext_plan.specs.Steps.{height}
use Rattle.ext_races.specs.MadeSteps.{calls_of}
use Rattle.ext_plan_plain.specs.NodeCalls.{CallsEnd, call_run, make, make_befores, make_if_successful}
use Rattle.ext_plan_plain.specs.ValueStates.{ValueState}
use Rattle.ext_one_report.proofs.Calls.{steps_memory}
use Rattle.ext_one_report.proofs.FrameNodes.{stands_on}
use Rattle.ext_one_report.proofs.FrameSteps.{steps_leave}
use Rattle.ext_one_report.proofs.MatchingWords.{Places}
use Rattle.ext_one_report.proofs.NodePlaces.{found_on, never, on_found}
use Rattle.ext_one_report.proofs.OfPlanHeights.{call_stays}
use Rattle.ext_one_report.proofs.PlainFrames.{no_context}
use Rattle.ext_one_report.proofs.PlanCells.{changed_by}
use Rattle.ext_one_report.proofs.SharedFresh.{IsFresh, fresh_left}

-- the contexts of a path
abbrev on_path : List ℕ → Places
on_path path context key = stands_on context false path

-- a context up the path is one of the path
up_there : (path : List ℕ) (up : ℕ) → up < length path → Contains path (start_of (drop up path))
up_there [] up less = absurd (omega (arith, less))
up_there (first ∷ above) zero less = contains_here first above
up_there (first ∷ above) (suc up) less = contains_later first above (start_of (drop up above)) (up_there above up (omega (arith, less)))

-- where a step changes a place
by_height : (step : StepText) (key : StepKeyText) (up : ℕ) → changed_by step ≡ Some (key, up) → height step ≡ up
by_height (keyed word name text at) key up is = by (changes word) is
  where
    by : (b : Bool) → (let o : Option (StepKeyText × ℕ) = (if b then Some (name, at) else None) in o ≡ Some (key, up)) → at ≡ up
    by true told = let pair : (name, at) ≡ (key, up) = cc told in ap (λ (p : StepKeyText × ℕ). p.1) pair
    by false told = absurd (cc told)
by_height (fail text) key up is = absurd (cc is)
by_height (abort text) key up is = absurd (cc is)

module _ (plan : PlanText) (read : IsReadPlan plan) (node : ℕ) (path : List ℕ) (is : IsPathOf (ids_of_nodes plan.nodes) node path) (context : ℕ) (off : ¬ Contains path context) where
  off_path : stands_on context false path ≡ false
  off_path = never (stands_on context false path) (λ on. elim (found_on context path false on) [ inl start ↦ absurd (cc start) | inr there ↦ off there ])

  -- one call
  fresh_call : (call : Call) (s : ValueState) → Contains (calls_of plan node) call → s.memory ≡ [] → IsFresh context s → IsFresh context (call_run plan path call s).state
  fresh_call call s own none fresh =
      let steps = steps_of_call plan call in
      let stay = call_stays plan node path read is call own in
      fresh_left (on_path path) no_context s (call_run plan path call s).state context
      (steps_leave plan.keys path steps (on_path path) s
      (λ step key up there changes.
      let low : height step < length path = All-contains (λ x. height x < length path) steps step stay there in
      let at = by_height step key up changes in
      on_found (start_of (drop up path)) path false (up_there path up (omega (arith, low, at)))) none)
      refl (λ key. off_path) fresh

  -- and those before the body
  pub fresh_befores : (calls : List Call) (end : CallsEnd) → All (Contains (calls_of plan node)) calls → end.state.memory ≡ [] → IsFresh context end.state
      → IsFresh context (make_befores (call_run plan path) calls end).state × ((make_befores (call_run plan path) calls end).state.memory ≡ [])
  fresh_befores [] end own none fresh = (fresh, none)
  fresh_befores (call ∷ calls) end own none fresh =
      let next = by_success (all_successful end.calls) in
      fresh_befores calls (make_if_successful (call_run plan path) end call) (All-tail (Contains (calls_of plan node)) call calls own) next.1 next.0
    where
      by_success : (b : Bool) → IsFresh context (if b then make (call_run plan path) end call else end).state × ((if b then make (call_run plan path) end call else end).state.memory ≡ [])
      by_success true = (fresh_call call end.state (All-head (Contains (calls_of plan node)) call calls own) none fresh, steps_memory plan.keys path (steps_of_call plan call) end.state none)
      by_success false = (fresh, none)
