-- Which contexts belong to a node: its own, and those of the nodes below it.
use Rattle.std.specs.Prelude.{ℕ, ◌==◌, Bool, false, fold, ◌||◌}
use Rattle.ext_plan.specs.Plans.{PlanText}
use Rattle.ext_races.specs.MadeSteps.{plan_path}

-- The context is that of the node, or of a node below it.
abbrev pub is_within : PlanText → ℕ → ℕ → Bool
is_within plan node context = fold (λ found at. found || (at == node)) false (plan_path plan context)
