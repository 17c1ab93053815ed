-- The steps of a call on a lane that is alone on the places that they touch, beside the same steps of a plain run: when the two are compared.
-- Javadoc `ExtensionContext.Store`. What a list of steps does on a lane is a definition of [ext_plan_parallel StoreSteps], and what it does in a plain run one of [ext_plan_plain StepRuns].
-- That memory, places, numbers and keys suffice is asked of how the call ends, and of each step of the plain run.
use Rattle.ext_one_report.specs.FullRuns.{StepFinds}
use Rattle.std.specs.Prelude.{ℕ, ◌≡◌, true, List, [], ◌∷◌, All, IfSome, length}
use Rattle.ext_history.specs.Histories.{seen_by}
use Rattle.ext_tree.specs.Trees.{IsTree, IsPathOf}
use Rattle.ext_lifecycle.specs.declared.outcome.Outcome.{Outcome}
use Rattle.ext_lifecycle.specs.Endings.{is_successful}
use Rattle.ext_plan.specs.Plans.{KeyText, StepText, keyed, fail, abort}
use Rattle.ext_plan.specs.StepCalls.{start_of}
use Rattle.ext_plan.specs.Steps.{step_key}
use Rattle.ext_plan.specs.StepWords.{looks_along}
use Rattle.ext_plan.specs.ReadPlans.{StayOnPath}
use Rattle.ext_plan.specs.StoreKeys.{key_of_step}
use Rattle.ext_store.specs.Stores.{IsLaneOf}
use Rattle.ext_plan_plain.specs.ValueStates.{ValueState}
use Rattle.ext_plan_plain.specs.StepRuns.{step_run}
use Rattle.ext_plan_parallel.specs.StoreCalls.{PlanLane}
use Rattle.ext_one_report.proofs.MatchingWords.{RunView, IsRunView, Places, Matches, IsNumbered}
use Rattle.ext_one_report.proofs.StepsWords.{HasRoom, IsAlone, IsLaneIn, TouchesWithin}

-- ---- one step of any form

-- What it touches is among the places: the place of its context, and where it looks up those of the contexts above too
abbrev pub StepWithin : List KeyText → List ℕ → Places → StepText → Type 0
StepWithin keys path places (keyed word key text up) = TouchesWithin (looks_along word) keys path places key up
StepWithin keys path places (fail text) = Unit {0}
StepWithin keys path places (abort text) = Unit {0}

-- the plain run has room for what the step keeps and names
abbrev pub StepHasRoom : List KeyText → StepText → ValueState → Type 0
StepHasRoom keys step s = IfSome (step_key step) (λ key. HasRoom (key_of_step keys key) s)

-- ---- the steps of a call

-- the plain run has room at each step that it makes, so up to the first that is not successful
abbrev pub StepsHaveRoom : List KeyText → List ℕ → List StepText → ValueState → Type 0
StepsHaveRoom keys path [] s = Unit {0}
StepsHaveRoom keys path (step ∷ more) s =
    StepHasRoom keys step s × (is_successful (step_run keys path step s).verdict ≡ true → StepsHaveRoom keys path more (step_run keys path step s).state)

-- A lane between two moments, and a state of a plain run that goes on in the context of the same path: what is so of both, whatever steps are made meanwhile
pub record AreBeside (run : RunView) (path : List ℕ) (places : Places) (before after : PlanLane) (s : ValueState) : Type 0 where
  pub view : IsRunView run
  -- the lane is one of the run's store, and what it knows in the end is so of the whole run
  pub of : IsLaneOf run.store.id before
  pub lane : IsLaneIn run after
  -- the path is one of the store's tree
  pub tree : IsTree run.store.tree
  pub path_is : IsPathOf run.store.tree (start_of path) path
  -- the lane is alone on the places throughout
  pub alone : IsAlone run places before.cells.view after.cells.view
  -- the plain run finds all memory
  pub memory : s.memory ≡ []
  -- both keep faults, or neither does
  pub keeps : run.store.id.cells.limits.keep_faults ≡ s.keep_faults
  -- the same stands at the places before
  pub matches : Matches run places (seen_by before.cells.view) s
  pub numbered : IsNumbered places s

-- The steps of a call in the context of a path: on a lane, and from this state in a plain run
pub record AreComparedAll (run : RunView) (keys : List KeyText) (path : List ℕ) (places : Places) (steps : List StepText)
    (before : PlanLane) (outcome : Outcome) (after : PlanLane) (s : ValueState) : Type 0 where
  pub beside : AreBeside run path places before after s
  -- no step goes up beyond the root, and all that they touch is among the places
  pub heights : StayOnPath (length path) steps
  pub within : All (StepWithin keys path places) steps
  -- the call does not end for want of anything, and nor does the plain run
  pub finds : All (StepFinds keys outcome) steps
  pub room : StepsHaveRoom keys path steps s
