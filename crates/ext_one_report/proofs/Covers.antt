-- Which places the nodes of a plan touch and which they may change, each with the nodes below it; and plans whose nodes keep apart.
-- Javadoc `ExtensionContext.Store` and JUnit 5 User Guide, "Parallel Execution"; what a step touches is a definition of [ext_races Touches].
use Rattle.ext_one_report.specs.Within.{is_within}
use Rattle.std.specs.Prelude.{ℕ, ◌≡◌, ◌≢◌, ◌<◌, true, List, length, drop, Contains, Some}
use Rattle.ext_tree.specs.Keys.{KeyValue}
use Rattle.ext_tree.specs.Trees.{IsParentOf, IsPathOf}
use Rattle.ext_lifecycle.specs.declared.call.Call.{Call}
use Rattle.ext_plan.specs.Plans.{PlanText, StepKeyText, StepText}
use Rattle.ext_plan.specs.PlanCalls.{steps_of_call}
use Rattle.ext_plan.specs.ReadPlans.{ids_of_nodes}
use Rattle.ext_plan.specs.StepCalls.{start_of}
use Rattle.ext_plan.specs.StoreKeys.{key_of_step}
use Rattle.ext_races.specs.MadeSteps.{calls_of}
use Rattle.ext_one_report.proofs.PlanCells.{changed_by}
use Rattle.ext_one_report.proofs.MatchingWords.{Places}

-- ---- plans whose nodes keep apart

-- ---- what nodes touch

-- `touched` has the places that each node touches, itself or by the nodes below it, and `changes` those that it may change
module _ (plan : PlanText) (touched changes : ℕ → Places) where
  pub record AreCovered : Type 0 where
    -- a node changes what the steps of its calls may change,
    pub steps : (node : ℕ) (path : List ℕ) (call : Call) (step : StepText) (key : StepKeyText) (up : ℕ) → IsPathOf (ids_of_nodes plan.nodes) node path → Contains (calls_of plan node) call
        → Contains (steps_of_call plan call) step → changed_by step ≡ Some (key, up) → changes node (start_of (drop up path)) (key_of_step plan.keys key) ≡ true
    -- and all places of its own context, which is closed at its end
    pub own : (node : ℕ) (key : KeyValue) → node < length plan.nodes → changes node node key ≡ true
    -- and of those of nodes below it
    pub own_below : (node context : ℕ) (key : KeyValue) → context < length plan.nodes → is_within plan node context ≡ true → changes node context key ≡ true
    -- what it changes it touches
    pub touches : (node context : ℕ) (key : KeyValue) → changes node context key ≡ true → touched node context key ≡ true
    -- all that it touches is in contexts of the plan
    pub within : (node context : ℕ) (key : KeyValue) → touched node context key ≡ true → context < length plan.nodes
    -- what a node touches or changes its parent does
    pub touched_above : (parent child context : ℕ) (key : KeyValue) → IsParentOf (ids_of_nodes plan.nodes) parent child → touched child context key ≡ true → touched parent context key ≡ true
    pub changed_above : (parent child context : ℕ) (key : KeyValue) → IsParentOf (ids_of_nodes plan.nodes) parent child → changes child context key ≡ true → changes parent context key ≡ true
    -- no child touches a place in the context of another, or of a node below that
    pub siblings : (parent child other context : ℕ) (key : KeyValue) → IsParentOf (ids_of_nodes plan.nodes) parent child → IsParentOf (ids_of_nodes plan.nodes) parent other → child ≢ other
        → is_within plan child context ≡ true → touched other context key ≡ true → ⊥
