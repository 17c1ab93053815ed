-- Steps one after another.
use Rattle.std.proofs.Common.{◌≡◌, ℕ, ◌+◌, true, false, true≢false, List, [], ◌∷◌, refl, sym, ◌∙◌, subst, arith}
use Rattle.ext_lifecycle.specs.declared.outcome.Outcome.{Outcome}
use Rattle.ext_lifecycle.specs.declared.outcome.Verdict.TheVariants as verdicts
use Rattle.ext_lifecycle.specs.Endings.{is_successful}
use Rattle.ext_lifecycle.specs.Lifecycle.{ending_of}
use Rattle.ext_plan.specs.Plans.{KeyText, StepText}
use Rattle.ext_plan.specs.Steps.{step_key}
use Rattle.ext_store.specs.Stores.{StoreView}
use Rattle.ext_plan_parallel.specs.StoreCalls.{HasFrame, PlanLane}
use Rattle.ext_plan_parallel.specs.StoreSteps.{PlacesItsKey, StepRun, StepsRun}

-- an outcome of what is left, with what was computed and found before
pub record Adds (computed found : ℕ) (rest outcome : Outcome) : Type 0 where
  pub verdict_is : outcome.verdict ≡ rest.verdict
  pub computed_are : outcome.computed ≡ computed + rest.computed
  pub found_are : outcome.found ≡ found + rest.found

same_outcome : (a b : Outcome) → Adds 0 0 b a → b ≡ a
same_outcome a b adds =
    let computed : b.computed ≡ a.computed = omega (arith, adds.computed_are) in
    let found : b.found ≡ a.found = omega (arith, adds.found_are) in
    λ i. record { verdict = sym adds.verdict_is i; computed = computed i; found = found i }

module _ (store : StoreView) (keys : List KeyText) (path : List ℕ) where
  -- Some of the steps were made, all of them successful, and computed and found so much: what the others do is the rest of what all do
  pub record IsLeft (all left : List StepText) (before now : PlanLane) (computed found : ℕ) : Type 0 where
    pub goes_on : (rest outcome : Outcome) (after : PlanLane) → StepsRun store keys path left now rest after → Adds computed found rest outcome → StepsRun store keys path all before outcome after

  pub nothing_made : (all : List StepText) (before : PlanLane) → IsLeft all all before before 0 0
  nothing_made all before = record { goes_on = λ rest outcome after run adds. subst (λ o. StepsRun store keys path all before o after) (same_outcome outcome rest adds) run }

  pub one_more : (all : List StepText) (step : StepText) (more : List StepText) (before now between : PlanLane) (computed found : ℕ) (first : Outcome)
      → IsLeft all (step ∷ more) before now computed found → StepRun store keys path step now first between → HasFrame store now between → PlacesItsKey keys (step_key step) now between → is_successful (ending_of first.verdict) ≡ true
      → IsLeft all more before between (computed + first.computed) (found + first.found)
  unfolding StepsRun
  one_more all step more before now between computed found first left made framed placed ends = record {
    goes_on = λ rest outcome after run adds.
        left.goes_on (record { verdict = rest.verdict; computed = first.computed + rest.computed; found = first.found + rest.found }) outcome after
        (first, between, made, framed, (λ yes. (rest, run, record { verdict_is = refl; computed_are = refl; found_are = refl }), λ no. absurd (true≢false (sym ends ∙ no))), placed)
        (record { verdict_is = adds.verdict_is; computed_are = omega (arith, adds.computed_are); found_are = omega (arith, adds.found_are) });
  }

  -- one that isn't successful is the last
  pub stops : (all : List StepText) (step : StepText) (more : List StepText) (before now after : PlanLane) (computed found : ℕ) (last outcome : Outcome)
      → IsLeft all (step ∷ more) before now computed found → StepRun store keys path step now last after → HasFrame store now after → PlacesItsKey keys (step_key step) now after → is_successful (ending_of last.verdict) ≡ false → Adds computed found last outcome
      → StepsRun store keys path all before outcome after
  unfolding StepsRun
  stops all step more before now after computed found last outcome left made framed placed ends adds =
      left.goes_on last outcome after (last, after, made, framed, (λ yes. absurd (true≢false (sym yes ∙ ends)), λ no. (refl, refl)), placed) adds

  -- no step is left
  pub all_made : (all : List StepText) (before now : PlanLane) (computed found : ℕ) → IsLeft all [] before now computed found
      → StepsRun store keys path all before (record { verdict = verdicts.Successful; computed = computed; found = found }) now
  unfolding StepsRun
  all_made all before now computed found left =
      left.goes_on (record { verdict = verdicts.Successful; computed = 0; found = 0 }) (record { verdict = verdicts.Successful; computed = computed; found = found }) now
      (refl, record { says = refl; computed_are = refl; found_are = refl })
      (record { verdict_is = refl; computed_are = omega arith; found_are = omega arith })
