-- The callbacks of a node: for each of the four kinds an array of callbacks, each an array of steps (JUnit 5 User
-- Guide, "Test Lifecycle Callbacks"). How they are written, and how many there may be, is not from JUnit.
use Rattle.std.specs.Prelude.{ℕ, nat_le, Bool, ◌||◌, codes, List, [], ◌∷◌, ◌++◌, length, Option, Some, None, is_some, Result, Ok}
use Rattle.toml.specs.Data.{Members, get_member}
use Rattle.ext_plan.specs.Plans.{StepText}
use Rattle.ext_plan.specs.Steps.{callback_limit}
use Rattle.ext_plan_reading.specs.declared.fault.PlanFault.{PlanFault}
use Rattle.ext_plan_reading.specs.declared.fault.PlanFault.TheVariants as faults
use Rattle.ext_plan_reading.specs.declared.fault.PlanPart.TheVariants as plan_parts
use Rattle.ext_plan_reading.specs.Faults.{check, ◌>>=◌}
use Rattle.ext_plan_reading.specs.Fields.{texts_in, array_of, optional}
use Rattle.ext_plan_reading.specs.StepReading.{steps_at}

-- ---- as texts

-- The texts of the steps of each callback, for each kind whose field is given.
pub record CallbackTexts : Type 0 where
  pub before_all : Option (List (List (List ℕ)))
  pub after_all : Option (List (List (List ℕ)))
  pub before_each : Option (List (List (List ℕ)))
  pub after_each : Option (List (List (List ℕ)))

-- The callbacks in the table of the node with this number.
unfoldable pub callback_texts_at : ℕ → Members → Result CallbackTexts PlanFault
callback_texts_at node fields = do
  before_all ← optional (array_of texts_in) (faults.BadField (plan_parts.Node node)) (get_member (codes "before_all") fields)
  after_all ← optional (array_of texts_in) (faults.BadField (plan_parts.Node node)) (get_member (codes "after_all") fields)
  before_each ← optional (array_of texts_in) (faults.BadField (plan_parts.Node node)) (get_member (codes "before_each") fields)
  after_each ← optional (array_of texts_in) (faults.BadField (plan_parts.Node node)) (get_member (codes "after_each") fields)
  Ok (record { before_all = before_all; after_all = after_all; before_each = before_each; after_each = after_each })

-- A field that no test may have is given, even as an empty array.
abbrev pub are_of_container : CallbackTexts → Bool
are_of_container texts = is_some texts.before_all || is_some texts.after_all

-- ---- as steps

-- The steps of each callback, by kind.
pub record CallbackSteps : Type 0 where
  pub before_all : List (List StepText)
  pub after_all : List (List StepText)
  pub before_each : List (List StepText)
  pub after_each : List (List StepText)

-- These callbacks, followed by those that the texts write.
unfoldable pub callbacks_after : List (List ℕ) → ℕ → ℕ → List (List StepText) → List (List (List ℕ))
    → Result (List (List StepText)) PlanFault
callbacks_after labels depth node before [] = Ok before
callbacks_after labels depth node before (texts ∷ more) = do
  steps ← steps_at labels depth node texts
  callbacks_after labels depth node (before ++ steps ∷ []) more

-- The callbacks of a field, unless there are too many. The shortest path on which they run has `depth` contexts.
unfoldable pub callbacks_at : List (List ℕ) → ℕ → ℕ → Option (List (List (List ℕ)))
    → Result (List (List StepText)) PlanFault
callbacks_at labels depth node None = Ok []
callbacks_at labels depth node (Some lists) = do
  _ ← check (faults.BadStep node) (nat_le (length lists) callback_limit)
  callbacks_after labels depth node [] lists

-- The callbacks of a node whose path has `own` contexts, and the shortest path of a test at or below it `least`.
unfoldable pub node_callbacks_at : List (List ℕ) → ℕ → ℕ → ℕ → CallbackTexts → Result CallbackSteps PlanFault
node_callbacks_at labels own least node texts = do
  before_all ← callbacks_at labels own node texts.before_all
  after_all ← callbacks_at labels own node texts.after_all
  before_each ← callbacks_at labels least node texts.before_each
  after_each ← callbacks_at labels least node texts.after_each
  Ok (record { before_all = before_all; after_all = after_all; before_each = before_each; after_each = after_each })
