-- How many numbers a plain run has that a run on several lanes is compared with: one more than the plan's, so that it has one left at its end where all of these are drawn.
use Rattle.std.specs.Prelude.{ℕ, ◌+◌, [], ◌∷◌, length}
use Rattle.ext_model.specs.declared.size.Size.{Size}
use Rattle.ext_model.specs.Sizes.{most_numbers}
use Rattle.ext_plan.specs.Plans.{PlanText}
use Rattle.ext_plan_plain.specs.PlainRun.{RunState, node_run, skipped_from}
use Rattle.ext_plan_plain.specs.ValueStates.{value_opening}

abbrev pub enough_numbers : Size → ℕ
enough_numbers size = most_numbers size + 1

-- that run before its first step, and at its end
abbrev pub enough_opening : PlanText → RunState
enough_opening plan = record { state = value_opening plan.keep_faults plan.key_places (enough_numbers plan.size); results = skipped_from 0 plan.nodes }

abbrev pub enough_end : PlanText → RunState
enough_end plan = node_run plan (length plan.nodes) (0 ∷ []) (enough_opening plan)
