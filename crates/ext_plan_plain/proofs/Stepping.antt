-- The steps of a test, one after another.
use Rattle.std.proofs.Common.{◌≡◌, ℕ, ◌+◌, List, [], ◌∷◌, true, false, refl, ap, ◌∙◌, arith}
use Rattle.ext_plan.specs.Plans.{KeyText, StepText}
use Rattle.ext_lifecycle.specs.Endings.{successful, aborted, failed, is_successful}
use Rattle.ext_plan_plain.specs.ValueStates.{ValueState}
use Rattle.ext_plan_plain.specs.StepRuns.{StepEnd, ended, and_then, unless_ended, next_step, steps_run}
use Rattle.ext_lifecycle.specs.FaultTexts.{VerdictText}

-- what steps come to after others that computed and found so many
abbrev pub after_steps : ℕ → ℕ → StepEnd → StepEnd
after_steps computed found end = record { state = end.state; verdict = end.verdict; computed = computed + end.computed; found = found + end.found }

pub no_steps : (end : StepEnd) → after_steps 0 0 end ≡ end
no_steps end =
    let computed : 0 + end.computed ≡ end.computed = omega arith in
    let found : 0 + end.found ≡ end.found = omega arith in
    ap (λ n. record { state = end.state; verdict = end.verdict; computed = n; found = 0 + end.found }) computed
    ∙ ap (λ n. record { state = end.state; verdict = end.verdict; computed = end.computed; found = n }) found

pub steps_run-nil : (keys : List KeyText) (path : List ℕ) (s : ValueState) → steps_run keys path [] s ≡ ended successful s
unfolding steps_run
steps_run-nil keys path s = refl

pub steps_run-cons : (keys : List KeyText) (path : List ℕ) (step : StepText) (more : List StepText) (s : ValueState)
    → steps_run keys path (step ∷ more) s ≡ unless_ended (next_step keys path step s).verdict (next_step keys path step s) (steps_run keys path more)
unfolding steps_run
steps_run-cons keys path step more s = refl

gone_on : (v : VerdictText) (first : StepEnd) (go_on : ValueState → StepEnd) → is_successful v ≡ true → unless_ended v first go_on ≡ and_then first (go_on first.state)
gone_on successful first go_on passed = refl
gone_on (aborted text) first go_on passed = absurd cc
gone_on (failed text) first go_on passed = absurd cc

stopped : (v : VerdictText) (first : StepEnd) (go_on : ValueState → StepEnd) → is_successful v ≡ false → unless_ended v first go_on ≡ first
stopped successful first go_on ends = absurd cc
stopped (aborted text) first go_on ends = refl
stopped (failed text) first go_on ends = refl

added : (a b c d e f : ℕ) (end : StepEnd) → a + (b + end.computed) ≡ c + end.computed → d + (e + end.found) ≡ f + end.found
    → after_steps a d (record { state = end.state; verdict = end.verdict; computed = b + end.computed; found = e + end.found }) ≡ after_steps c f end
added a b c d e f end computed found =
    ap (λ n. record { state = end.state; verdict = end.verdict; computed = n; found = d + (e + end.found) }) computed
    ∙ ap (λ n. record { state = end.state; verdict = end.verdict; computed = c + end.computed; found = n }) found

-- a step that is successful: the others go on after it
pub steps-go : (keys : List KeyText) (path : List ℕ) (step : StepText) (more : List StepText) (s : ValueState) (first : StepEnd) (computed found : ℕ) → first ≡ next_step keys path step s
    → is_successful first.verdict ≡ true
    → after_steps computed found (steps_run keys path (step ∷ more) s) ≡ after_steps (computed + first.computed) (found + first.found) (steps_run keys path more first.state)
steps-go keys path step more s first computed found is passed =
    let rest = steps_run keys path more first.state in
    let whole : steps_run keys path (step ∷ more) s ≡ and_then first rest = steps_run-cons keys path step more s ∙ rw (← is) (gone_on first.verdict first (steps_run keys path more) passed) in
    ap (after_steps computed found) whole
    ∙ added computed first.computed (computed + first.computed) found first.found (found + first.found) rest (omega arith) (omega arith)

-- one that isn't: it is the last
pub steps-stop : (keys : List KeyText) (path : List ℕ) (step : StepText) (more : List StepText) (s : ValueState) (first : StepEnd) → first ≡ next_step keys path step s
    → is_successful first.verdict ≡ false
    → steps_run keys path (step ∷ more) s ≡ first
steps-stop keys path step more s first is ends = steps_run-cons keys path step more s ∙ rw (← is) (stopped first.verdict first (steps_run keys path more) ends)

-- no step is left
pub steps-end : (keys : List KeyText) (path : List ℕ) (s : ValueState) (computed found : ℕ)
    → after_steps computed found (steps_run keys path [] s) ≡ record { state = s; verdict = successful; computed = computed; found = found }
steps-end keys path s computed found =
    let none : computed + 0 ≡ computed = omega arith in
    let nothing : found + 0 ≡ found = omega arith in
    ap (after_steps computed found) (steps_run-nil keys path s)
    ∙ ap (λ n. record { state = s; verdict = successful; computed = n; found = found + 0 }) none
    ∙ ap (λ n. record { state = s; verdict = successful; computed = computed; found = n }) nothing
