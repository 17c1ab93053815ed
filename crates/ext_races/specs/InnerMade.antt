-- Steps as they are listed in memory. Of those that count for one another only the first is marked, as these stand one
-- behind the other.
use Rattle.std.specs.Prelude.{Bool, List, [], ◌∷◌, ◌++◌, fold, if◌then◌else◌}
use Rattle.ext_plan.specs.Plans.{StepText, step_view}
use Rattle.ext_races.specs.declared.made.MadeStep.{MadeStep}
use Rattle.ext_races.specs.MadeSteps.{MadeText, made_by}

-- A step alone, as if none before it counted.
abbrev pub made_view : MadeStep → MadeText
made_view m = made_by m.node [] (step_view m.step.now)

-- Which of the steps in `before` count for this one.
abbrev pub before_in : List StepText → MadeStep → List StepText
before_in before m = if m.first then [] else before

-- The step behind those in `before`.
abbrev pub made_behind : List StepText → MadeStep → MadeText
made_behind before m = made_by m.node (before_in before m) (step_view m.step.now)

-- What counts for the next step, unless that is marked.
abbrev pub left_by : List StepText → MadeStep → List StepText
left_by before m = before_in before m ++ step_view m.step.now ∷ []

abbrev pub left_after : List StepText → List MadeStep → List StepText
left_after before made = fold left_by before made

-- These steps, behind those in `before`.
abbrev pub made_views : List StepText → List MadeStep → List MadeText
made_views before [] = []
made_views before (m ∷ more) = made_behind before m ∷ made_views (left_by before m) more

-- What counts for the next step, which is marked if it begins.
abbrev pub counted : Bool → List MadeStep → List StepText
counted begins made = if begins then [] else left_after [] made
