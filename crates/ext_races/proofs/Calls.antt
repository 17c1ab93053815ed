-- The calls of a node, put together.
use Rattle.std.proofs.Common.{◌≡◌, ℕ, Bool, List, [], ◌∷◌, ◌++◌, ap, ◌∙◌}
use Rattle.std.specs.Prelude.{is_some}
use Rattle.ext_lifecycle.specs.declared.call.Call.{Call}
use Rattle.ext_lifecycle.specs.Callbacks.{afters_of, befores_of, test_call}
use Rattle.ext_plan.specs.Plans.{PlanText}
use Rattle.ext_plan.specs.PlanCalls.{registered, test_of}
use Rattle.ext_races.specs.MadeSteps.{calls_after, calls_before, calls_of, plan_path}

pub calls_are : (plan : PlanText) (node : ℕ) (path : List ℕ) (is_test : Bool) (befores afters pushed all : List Call) → path ≡ plan_path plan node → is_test ≡ is_some (test_of plan node)
    → befores ≡ befores_of (registered plan) is_test node path → afters ≡ afters_of (registered plan) is_test node path → pushed ≡ befores ++ test_call node ∷ [] → all ≡ pushed ++ afters
    → all ≡ calls_of plan node
calls_are plan node path is_test befores afters pushed all same test before after push put =
    put ∙ ap (λ xs. xs ++ afters) (push ∙ ap (λ xs. xs ++ test_call node ∷ []) (before ∙ ap (λ p. befores_of (registered plan) is_test node p) same ∙ ap (λ t. befores_of (registered plan) t node (plan_path plan node)) test))
    ∙ ap (λ xs. befores_of (registered plan) (is_some (test_of plan node)) node (plan_path plan node) ++ test_call node ∷ [] ++ xs) (after ∙ ap (λ p. afters_of (registered plan) is_test node p) same ∙ ap (λ t. afters_of (registered plan) t node (plan_path plan node)) test)

module _ (plan : PlanText) (node : ℕ) (path : List ℕ) (is_test : Bool) (same : path ≡ plan_path plan node) (test : is_test ≡ is_some (test_of plan node)) where
  pub before_are : (befores pushed : List Call) → befores ≡ befores_of (registered plan) is_test node path → pushed ≡ befores ++ test_call node ∷ [] → pushed ≡ calls_before plan node ++ test_call node ∷ []
  before_are befores pushed before push =
      push ∙ ap (λ xs. xs ++ test_call node ∷ []) (before ∙ ap (λ p. befores_of (registered plan) is_test node p) same ∙ ap (λ t. befores_of (registered plan) t node (plan_path plan node)) test)

  pub after_are : (afters : List Call) → afters ≡ afters_of (registered plan) is_test node path → afters ≡ calls_after plan node
  after_are afters after = after ∙ ap (λ p. afters_of (registered plan) is_test node p) same ∙ ap (λ t. afters_of (registered plan) t node (plan_path plan node)) test
