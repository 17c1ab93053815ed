-- What the calls of a node leave, before its context is closed.
use Rattle.std.proofs.Common.{ℕ, true, false, List}
use Rattle.ext_lifecycle.specs.Endings.{all_successful}
use Rattle.ext_plan.specs.Plans.{PlanText}
use Rattle.ext_plan_plain.specs.NodeCalls.{CallsEnd, afters_run, befores_run, test_run}
use Rattle.ext_plan_plain.specs.PlainRun.{RunState, body_run}

-- what the body of a container leaves
abbrev pub body_end : PlanText → (List ℕ → RunState → RunState) → ℕ → List ℕ → RunState → RunState
body_end plan path_run at path run =
    let before = befores_run plan false at path run.state in
    body_run plan path_run (all_successful before.calls) path (record { state = before.state; results = run.results })

abbrev pub container_end : PlanText → (List ℕ → RunState → RunState) → ℕ → List ℕ → RunState → CallsEnd
container_end plan path_run at path run =
    let before = befores_run plan false at path run.state in
    afters_run plan false at path (record before { state = (body_end plan path_run at path run).state })

abbrev pub test_end : PlanText → ℕ → List ℕ → RunState → CallsEnd
test_end plan at path run = afters_run plan true at path (test_run plan at path (befores_run plan true at path run.state))
