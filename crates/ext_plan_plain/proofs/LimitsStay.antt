-- No step of a plain run changes how many keys can have numbers, nor how many numbers it draws at most.
use Rattle.std.proofs.Common.{◌≡◌, ℕ, List, refl}
use Rattle.ext_plan.specs.Plans.{PlanText}
use Rattle.ext_plan_plain.specs.ValueStates.{ValueState}
use Rattle.ext_plan_plain.specs.ContextEnds.{seal_keys}
use Rattle.ext_plan_plain.specs.StepRuns.{step_by, steps_run}
use Rattle.ext_plan_plain.specs.PlainRun.{RunState, node_run}
use Rattle.ext_plan_plain.specs.PlainRunLaws.{HasLimitsOf, KeepsLimits}
use Rattle.ext_plan_plain.proofs.Ends.{container_end, test_end}
use Rattle.ext_plan_plain.proofs.Kept.{IsKept, IsKeptNumbered, container-open, node-kept, seals-kept, step-kept, steps-kept, test-open}

-- so many are the places and the numbers
abbrev HasLimits : ℕ → ℕ → ValueState → Type 0
HasLimits places numbers s = (s.places ≡ places) × (s.numbers ≡ numbers)

limits-kept : (places numbers : ℕ) → IsKept (HasLimits places numbers)
limits-kept places numbers = record {
  finds = λ memory s h. h;
  puts = λ place number s h. h;
  removes = λ place s h. h;
  seals = λ place s h. h;
  keeps = λ value s room h. h;
  abandons = λ place s won h. h;
  fills = λ place value s won room h. h;
  fails = λ place value s keeps won room h. h;
}

limits-numbered : (places numbers : ℕ) → IsKeptNumbered (HasLimits places numbers)
limits-numbered places numbers = record { numbers = λ key number s is h. h }

of_limits : (before after : ValueState) → HasLimits before.places before.numbers after → HasLimitsOf before after
of_limits before after h = record { places = h.0; numbers = h.1 }

module _ (s : ValueState) where
  abbrev Has : ValueState → Type 0
  Has = HasLimits s.places s.numbers

  kept : IsKept Has
  kept = limits-kept s.places s.numbers

  numbered : IsKeptNumbered Has
  numbered = limits-numbered s.places s.numbers

pub keeps-limits : KeepsLimits
keeps-limits = record {
  step = λ keys found path step s. of_limits s (step_by keys found path step s).state (step-kept (Has s) (kept s) (numbered s) keys found path step s (refl, refl));
  steps = λ keys path steps s. of_limits s (steps_run keys path steps s).state (steps-kept (Has s) (kept s) (numbered s) keys path steps s (refl, refl));
  node = λ plan levels path run. of_limits run.state (node_run plan levels path run).state (node-kept (Has run.state) (kept run.state) (numbered run.state) plan levels path run (refl, refl));
}

-- ---- what the calls of a node leave, and the end of its context

pub test-limits : (plan : PlanText) (at : ℕ) (path : List ℕ) (run : RunState) → HasLimitsOf run.state (test_end plan at path run).state
test-limits plan at path run =
    let s = run.state in
    of_limits s (test_end plan at path run).state (test-open (Has s) (kept s) (numbered s) plan at path run (refl, refl))

pub container-limits : (plan : PlanText) (levels at : ℕ) (path : List ℕ) (run : RunState) → HasLimitsOf run.state (container_end plan (node_run plan levels) at path run).state
container-limits plan levels at path run =
    let s = run.state in
    of_limits s (container_end plan (node_run plan levels) at path run).state
    (container-open (Has s) (kept s) (numbered s) plan (node_run plan levels) (node-kept (Has s) (kept s) (numbered s) plan levels) at path run (refl, refl))

pub seals-limits : (keys at : ℕ) (s : ValueState) → HasLimitsOf s (seal_keys keys at s)
seals-limits keys at s = of_limits s (seal_keys keys at s) (seals-kept (Has s) (kept s) keys at s (refl, refl))
