-- The nodes of steps that are made are those of the plan, and so are those of touches.
use Rattle.std.proofs.Common.{◌≡◌, ◌<◌, ℕ, List, [], ◌∷◌, ◌++◌, Contains, length, ap, arith, All, inl, inr}
use Rattle.std.specs.List.{range_with_len}
use Rattle.ext_plan.specs.Plans.{PlanText, StepText}
use Rattle.ext_plan.specs.PlanCalls.{steps_of_call}
use Rattle.ext_lifecycle.specs.declared.call.Call.{Call}
use Rattle.ext_lifecycle.specs.Callbacks.{test_call}
use Rattle.std.specs.List.{flat_map}
use Rattle.std.proofs.lemmas.List.Elements.{Contains-append_cases}
use Rattle.ext_races.specs.MadeSteps.{MadeText, calls_after, calls_before, made_after, made_by, made_in_turn, made_of_node, steps_made}
use Rattle.ext_races.proofs.Lists.{contains_cases, contains_nothing, contains-flat_map_back, contains-range, all_contained}

-- the steps of a call are its node's
node_after : (node : ℕ) (before steps : List StepText) (made : MadeText) → Contains (made_after node before steps) made → node ≡ made.node
node_after node before [] made h = contains_nothing made h
node_after node before (step ∷ more) made h = elim (contains_cases (made_by node before step) made (made_after node (before ++ step ∷ []) more) h) [
  | inl here ↦ ap (λ m. m.node) here
  | inr later ↦ node_after node (before ++ step ∷ []) more made later
]

module _ (plan : PlanText) where
  node_in_turn : (node : ℕ) (before : List StepText) (calls : List Call) (made : MadeText) → Contains (made_in_turn plan node before calls) made → node ≡ made.node
  node_in_turn node before [] made h = contains_nothing made h
  node_in_turn node before (call ∷ more) made h =
      let steps = steps_of_call plan call in
      elim (Contains-append_cases (made_after node before steps) (made_in_turn plan node (before ++ steps) more) made h) [
        | inl here ↦ node_after node before steps made here
        | inr later ↦ node_in_turn node (before ++ steps) more made later
      ]

  node_of : (node : ℕ) (made : MadeText) → Contains (made_of_node plan node) made → node ≡ made.node
  node_of node made h =
      let calls = calls_before plan node ++ test_call node ∷ [] in
      let each = λ (call : Call). made_after node [] (steps_of_call plan call) in
      elim (Contains-append_cases (made_in_turn plan node [] calls) (flat_map each (calls_after plan node)) made h) [
        | inl turn ↦ node_in_turn node [] calls made turn
        | inr later ↦ let of_call = contains-flat_map_back each (calls_after plan node) made later in node_after node [] (steps_of_call plan of_call.0) made of_call.2
      ]

  within : (made : MadeText) → Contains (steps_made plan) made → made.node < length plan.nodes
  within made there =
      let of_node = contains-flat_map_back (made_of_node plan) (range_with_len 0 (length plan.nodes)) made there in
      let less = contains-range 0 (length plan.nodes) of_node.0 of_node.1 in
      let same = node_of of_node.0 made of_node.2 in
      omega (arith, less, same)

  pub nodes_within : All (λ made. made.node < length plan.nodes) (steps_made plan)
  nodes_within = all_contained (λ made. made.node < length plan.nodes) (steps_made plan) within
