-- What a plan says of the steps of each call of its nodes.
use Rattle.std.proofs.Common.{◌≡◌, ◌≤◌, ◌∙◌, ℕ, zero, suc, List, [], ◌∷◌, Option, Some, None, All, length, map, ap, refl, sym, subst, arith}
use Rattle.std.proofs.lemmas.List.{length-map}
use Rattle.std.specs.Prelude.{IfSome, slice_get, slice_index_or}
use Rattle.ext_lifecycle.specs.declared.call.Call.{Call}
use Rattle.ext_lifecycle.specs.declared.call.Kind.{Kind}
use Rattle.ext_lifecycle.specs.declared.call.Kind.TheVariants as kinds
use Rattle.ext_plan.specs.ReadPlans.{OfAllSteps, StepListsAreShort}
use Rattle.ext_plan.specs.Plans.{StepText, NodeText, PlanText, step_view}
use Rattle.ext_plan.specs.PlanCalls.{or_no_steps, steps_called, steps_of_call}
use Rattle.ext_plan.specs.Steps.{step_limit}
use Rattle.ext_plan.specs.declared.plan.Step.{Step}

pub no_steps : (kind : Kind) (index : ℕ) → steps_called kind index None ≡ []
no_steps kinds.BeforeAll index = refl
no_steps kinds.BeforeEach index = refl
no_steps kinds.Test index = refl
no_steps kinds.AfterEach index = refl
no_steps kinds.AfterAll index = refl

indexed : (P : List StepText → Type 0) (xs : List (List StepText)) (index : ℕ) → P [] → All P xs → P (slice_index_or xs index [])
indexed P [] index none all = none
indexed P (x ∷ xs) zero none all = all 0 x (omega arith)
indexed P (x ∷ xs) (suc index) none all = indexed P xs index none (λ k d within. all (suc k) d (omega (arith, within)))

tested : (P : List StepText → Type 0) (test : Option (List StepText)) → P [] → IfSome test P → P (or_no_steps test)
tested P None none h = none
tested P (Some steps) none h = h

called : (P : List StepText → Type 0) (kind : Kind) (index : ℕ) (node : NodeText) → P [] → OfAllSteps P node → P (steps_called kind index (Some node))
called P kinds.BeforeAll index node none all = indexed P node.before_all index none (all.callbacks kinds.BeforeAll)
called P kinds.BeforeEach index node none all = indexed P node.before_each index none (all.callbacks kinds.BeforeEach)
called P kinds.Test index node none all = tested P node.test none all.test
called P kinds.AfterEach index node none all = indexed P node.after_each index none (all.callbacks kinds.AfterEach)
called P kinds.AfterAll index node none all = indexed P node.after_all index none (all.callbacks kinds.AfterAll)

-- what holds of the steps of each callback and each test, and of no steps, holds of those of each call
pub of_steps_called : (P : List StepText → Type 0) (nodes : List NodeText) (kind : Kind) (index at : ℕ) → P [] → All (OfAllSteps P) nodes → P (steps_called kind index (slice_get nodes at))
of_steps_called P [] kind index at none all = subst P (sym (no_steps kind index)) none
of_steps_called P (node ∷ nodes) kind index zero none all = called P kind index node none (all 0 node (omega arith))
of_steps_called P (node ∷ nodes) kind index (suc at) none all = of_steps_called P nodes kind index at none (λ k d within. all (suc k) d (omega (arith, within)))

-- the steps of a call are few
pub are_short : (plan : PlanText) (call : Call) (steps : List Step) → map step_view steps ≡ steps_of_call plan call → StepListsAreShort plan → length steps ≤ step_limit
are_short plan call steps is short =
    let P : List StepText → Type 0 = λ s. length s ≤ step_limit in
    let of_call : P (steps_of_call plan call) = of_steps_called P plan.nodes call.kind call.index call.from (omega arith) short in
    subst (λ n. n ≤ step_limit) (sym (ap length is) ∙ length-map steps step_view) of_call
