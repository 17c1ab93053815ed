-- A touch is of a node of the plan.
use Rattle.std.proofs.Common.{◌≡◌, ◌<◌, ℕ, Bool, true, false, List, [], ◌∷◌, Option, Some, None, Contains, length, map, drop, refl, sym, subst, ap, ◌∙◌, arith, inl, inr}
use Rattle.std.specs.Prelude.{◌==◌, if◌then◌else◌}
use Rattle.std.proofs.lemmas.Bool.{true≢false}
use Rattle.std.proofs.lemmas.List.Elements.{All-contains}
use Rattle.ext_tree.specs.Keys.{KeyValue}
use Rattle.ext_plan.specs.Plans.{KeyText, PlanText, StepText}
use Rattle.ext_plan.specs.StoreKeys.{key_of_step, number_of_key}
use Rattle.ext_plan.specs.ReadPlans.{ids_of_nodes}
use Rattle.ext_plan.specs.StepWords.{changes, looks_along}
use Rattle.ext_races.specs.Acts.{ActText, act_of}
use Rattle.ext_races.specs.MadeSteps.{path_of, steps_made}
use Rattle.ext_races.specs.Touches.{ComputeText, TouchText, found_above, keys_named, look_at, reach, standing, touch_first, touch_of, touches_above, touches_along, touches_made, touches_of, touches_of_act}
use Rattle.ext_races.proofs.Lists.{contains_nothing, contains_cases, contains-flat_map_back, contains-map_back}
use Rattle.ext_races.proofs.Within.{nodes_within}

look_node : (node key : ℕ) (act : ActText) (found : Option ComputeText) (context : ℕ) → (look_at node key act found context).node ≡ node
look_node node key act None context = refl
look_node node key act (Some found) context = by_context (context == found.context)
  where
    by_context : (here : Bool) → (if here then record (touch_of node key act false context) { acts = found.word; text = found.text } else touch_of node key act false context).node ≡ node
    by_context true = refl
    by_context false = refl

first_node : (node key : ℕ) (act : ActText) (found : Option ComputeText) (context : ℕ) → (touch_first node key act found context).node ≡ node
first_node node key act found context = by_word (changes act.word)
  where
    by_word : (changing : Bool) → (if changing then touch_of node key act true context else look_at node key act found context).node ≡ node
    by_word true = refl
    by_word false = look_node node key act found context

node_above : (node key : ℕ) (act : ActText) (found : Option ComputeText) (above : List ℕ) (t : TouchText) (looks : Bool) → Contains (if looks then map (look_at node key act found) above else []) t → t.node ≡ node
node_above node key act found above t true h = let from = contains-map_back (look_at node key act found) above t h in sym (ap (λ u. u.node) from.2) ∙ look_node node key act found from.0
node_above node key act found above t false h = contains_nothing t h

node_along : (node key : ℕ) (act : ActText) (found : Option ComputeText) (path : List ℕ) (t : TouchText) → Contains (touches_along node key act found path) t → t.node ≡ node
node_along node key act found [] t h = contains_nothing t h
node_along node key act found (context ∷ above) t h = elim (contains_cases _ t (touches_above node key act found above) h) [
  | inl here ↦ sym (ap (λ u. u.node) here) ∙ first_node node key act found context
  | inr later ↦ node_above node key act found above t (looks_along act.word) later
]

node_of_act : (declared : List KeyText) (keys : List KeyValue) (node : ℕ) (path : List ℕ) (before : List StepText) (above : KeyValue → Option ComputeText) (act : Option ActText) (t : TouchText)
    → Contains (touches_of_act declared keys node path before above act) t → t.node ≡ node
node_of_act declared keys node path before above None t h = contains_nothing t h
node_of_act declared keys node path before above (Some act) t h =
    node_along node (number_of_key keys (key_of_step declared act.key)) act (found_above declared before above act) (drop act.up (reach declared before path act)) t h

pub touch_within : (plan : PlanText) (t : TouchText) → Contains (touches_made plan) t → t.node < length plan.nodes
touch_within plan t h =
    let from = contains-flat_map_back (touches_of (ids_of_nodes plan.nodes) plan.keys (keys_named plan) (standing plan)) (steps_made plan) t h in
    let same = node_of_act plan.keys (keys_named plan) from.0.node (path_of (ids_of_nodes plan.nodes) from.0.node) from.0.before (standing plan from.0.node) (act_of from.0.step) t from.2 in
    let less = All-contains (λ made. made.node < length plan.nodes) (steps_made plan) from.0 (nodes_within plan) from.1 in
    omega (arith, same, less)

-- ---- what a touch counts as

-- one that may change its place counts as its own word
abbrev ActsItself : TouchText → Type 0
ActsItself t = t.changes ≡ true → t.acts ≡ t.word

look_itself : (node key : ℕ) (act : ActText) (found : Option ComputeText) (context : ℕ) → ActsItself (look_at node key act found context)
look_itself node key act None context changing = absurd (true≢false (sym changing))
look_itself node key act (Some found) context changing = by_context (context == found.context) changing
  where
    by_context : (here : Bool) → ActsItself (if here then record (touch_of node key act false context) { acts = found.word; text = found.text } else touch_of node key act false context)
    by_context true changing = absurd (true≢false (sym changing))
    by_context false changing = absurd (true≢false (sym changing))

first_itself : (node key : ℕ) (act : ActText) (found : Option ComputeText) (context : ℕ) → ActsItself (touch_first node key act found context)
first_itself node key act found context = by_word (changes act.word)
  where
    by_word : (changing : Bool) → ActsItself (if changing then touch_of node key act true context else look_at node key act found context)
    by_word true changing = refl
    by_word false changing = look_itself node key act found context changing

above_itself : (node key : ℕ) (act : ActText) (found : Option ComputeText) (above : List ℕ) (t : TouchText) (looks : Bool) → Contains (if looks then map (look_at node key act found) above else []) t → ActsItself t
above_itself node key act found above t true h = let from = contains-map_back (look_at node key act found) above t h in subst ActsItself from.2 (look_itself node key act found from.0)
above_itself node key act found above t false h = contains_nothing t h

along_itself : (node key : ℕ) (act : ActText) (found : Option ComputeText) (path : List ℕ) (t : TouchText) → Contains (touches_along node key act found path) t → ActsItself t
along_itself node key act found [] t h = contains_nothing t h
along_itself node key act found (context ∷ above) t h = elim (contains_cases _ t (touches_above node key act found above) h) [
  | inl here ↦ subst ActsItself here (first_itself node key act found context)
  | inr later ↦ above_itself node key act found above t (looks_along act.word) later
]

act_itself : (declared : List KeyText) (keys : List KeyValue) (node : ℕ) (path : List ℕ) (before : List StepText) (above : KeyValue → Option ComputeText) (act : Option ActText) (t : TouchText)
    → Contains (touches_of_act declared keys node path before above act) t → ActsItself t
act_itself declared keys node path before above None t h = contains_nothing t h
act_itself declared keys node path before above (Some act) t h =
    along_itself node (number_of_key keys (key_of_step declared act.key)) act (found_above declared before above act) (drop act.up (reach declared before path act)) t h

pub acts_itself : (plan : PlanText) (t : TouchText) → Contains (touches_made plan) t → t.changes ≡ true → t.acts ≡ t.word
acts_itself plan t h =
    let from = contains-flat_map_back (touches_of (ids_of_nodes plan.nodes) plan.keys (keys_named plan) (standing plan)) (steps_made plan) t h in
    act_itself plan.keys (keys_named plan) from.0.node (path_of (ids_of_nodes plan.nodes) from.0.node) from.0.before (standing plan from.0.node) (act_of from.0.step) t from.2
