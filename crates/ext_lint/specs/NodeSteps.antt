-- All steps of a plan in its order: of each node the callbacks before all, those before each test, the test's own
-- steps, and the callbacks after each test and after all. Each step stands with its node, its call and its number from 0.
use Rattle.std.specs.Prelude.{ℕ, ◌+◌, List, [], ◌∷◌, ◌++◌}
use Rattle.ext_lifecycle.specs.declared.call.Call.{Call}
use Rattle.ext_lifecycle.specs.declared.call.Kind.{Kind}
use Rattle.ext_lifecycle.specs.declared.call.Kind.TheVariants as kinds
use Rattle.ext_plan.specs.Plans.{NodeText, PlanText, StepText, step_view}
use Rattle.ext_plan.specs.PlanCalls.{or_no_steps}
use Rattle.ext_lint.specs.declared.node_step.NodeStep.{NodeStep}

-- A step: of the callback with this kind and index that the node registers, or of the node's test.
pub record NodeStepText : Type 0 where
  pub node : ℕ
  pub kind : Kind
  pub index : ℕ
  pub at : ℕ
  pub step : StepText

abbrev pub node_step_view : NodeStep → NodeStepText
node_step_view p = record { node = p.node; kind = p.kind; index = p.index; at = p.at; step = step_view p.step.now }

-- The callback or the test that the step is of.
abbrev pub call_at : NodeStepText → Call
call_at p = record { kind = p.kind; from = p.node; index = p.index }

-- What each element gives by its number, one after another. The first has this number.
abbrev pub numbered : {X Y : Type 0} → (ℕ → X → List Y) → ℕ → List X → List Y
numbered f n [] = []
numbered f n (x ∷ more) = f n x ++ numbered f (n + 1) more

abbrev pub node_step_of : ℕ → Kind → ℕ → ℕ → StepText → List NodeStepText
node_step_of node kind index at step = record { node = node; kind = kind; index = index; at = at; step = step } ∷ []

abbrev pub node_steps_of_call : ℕ → Kind → ℕ → List StepText → List NodeStepText
node_steps_of_call node kind index steps = numbered (node_step_of node kind index) 0 steps

abbrev pub node_steps_of_kind : ℕ → Kind → List (List StepText) → List NodeStepText
node_steps_of_kind node kind callbacks = numbered (node_steps_of_call node kind) 0 callbacks

abbrev pub node_steps_of_node : ℕ → NodeText → List NodeStepText
node_steps_of_node number node =
    node_steps_of_kind number kinds.BeforeAll node.before_all ++ node_steps_of_kind number kinds.BeforeEach node.before_each
    ++ node_steps_of_call number kinds.Test 0 (or_no_steps node.test)
    ++ node_steps_of_kind number kinds.AfterEach node.after_each ++ node_steps_of_kind number kinds.AfterAll node.after_all

abbrev pub node_steps : PlanText → List NodeStepText
node_steps plan = numbered node_steps_of_node 0 plan.nodes
