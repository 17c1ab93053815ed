-- What a step touches: places, each a key in a context. `put` and `remove` change the place on which they act. `want`
-- and `none` look at it, and at the places of their key in all contexts above. A compute changes the place on which it
-- acts and looks at those above (Javadoc `ExtensionContext.Store`, `put`, `get`, `remove` and `getOrComputeIfAbsent`).
-- That a compute counts as a change, whatever it finds, is chosen here.
use Rattle.std.specs.Prelude.{ℕ, Bool, true, false, ◌&&◌, ◌||◌, ◌==◌, List, [], ◌∷◌, drop, take, fold, map, Option, Some, None, if◌then◌else◌}
use Rattle.std.specs.List.{flat_map, count_by, list_any}
use Rattle.ext_tree.specs.Keys.{KeyValue}
use Rattle.ext_tree.specs.Traits.{key_eq}
use Rattle.ext_tree.specs.Trees.{Id}
use Rattle.ext_plan.specs.Plans.{KeyText, PlanText, StepText}
use Rattle.ext_plan.specs.ReadPlans.{ids_of_nodes}
use Rattle.ext_plan.specs.StepCalls.{start_of}
use Rattle.ext_plan.specs.StoreKeys.{key_of_step, number_of_key, with_key}
use Rattle.ext_plan.specs.declared.word.Word.{Word}
use Rattle.ext_plan.specs.declared.word.Word.TheVariants as words
use Rattle.ext_plan.specs.StepWords.{changes, gives_value, has_text, looks_along, word_eq}
use Rattle.ext_races.specs.declared.touch.Touch.{Touch}
use Rattle.ext_races.specs.Acts.{ActText, act_of, as_compute, draws, stores}
use Rattle.ext_races.specs.MadeSteps.{MadeText, path_of, plan_path, steps_before, steps_made}

-- ---- the keys that steps name

abbrev pub with_key_of : List KeyValue → Option KeyValue → List KeyValue
with_key_of keys None = keys
with_key_of keys (Some key) = with_key keys key

-- The key of an act, if there is one.
abbrev pub key_of_act : List KeyText → Option ActText → Option KeyValue
key_of_act declared None = None
key_of_act declared (Some act) = Some (key_of_step declared act.key)

abbrev pub key_of_made : List KeyText → MadeText → Option KeyValue
key_of_made declared made = key_of_act declared (act_of made.step)

-- These keys, followed by the other keys that the steps name.
abbrev pub keys_of_steps : List KeyText → List KeyValue → List MadeText → List KeyValue
keys_of_steps declared keys steps = fold (λ before made. with_key_of before (key_of_made declared made)) keys steps

-- The different keys that a plan's steps name, in the order in which they first do. A key's number is its index here.
abbrev pub keys_named : PlanText → List KeyValue
keys_named plan = keys_of_steps plan.keys [] (steps_made plan)

-- How many numbers the plan's steps may draw.
abbrev pub numbers_drawn : PlanText → ℕ
numbers_drawn plan = count_by (λ made. draws plan.keep_faults made.step) (steps_made plan)

-- ---- places

-- A touch: the place of a key, by its number, in a context; by which node and with which word; whether the step may
-- change it; the word as which it counts; and the text, if that decides whether it races. A touch that may change its
-- place counts as its own word. One that only looks counts as `want`, or as a compute whose value it finds there, with
-- that compute's text.
pub record TouchText : Type 0 where
  pub node : ℕ
  pub context : ℕ
  pub key : ℕ
  pub word : Word
  pub changes : Bool
  pub acts : Word
  pub text : List ℕ

abbrev pub touch_view : Touch → TouchText
touch_view t = record {
  node = t.node;
  context = t.context;
  key = t.key;
  word = t.word;
  changes = t.changes;
  acts = t.acts;
  text = t.text.now;
}

abbrev pub text_if : Bool → List ℕ → List ℕ
text_if shown text = if shown then text else []

-- How an act of a node touches a place.
abbrev pub touch_of : ℕ → ℕ → ActText → Bool → ℕ → TouchText
touch_of node key act change context = record {
  node = node;
  context = context;
  key = key;
  word = act.word;
  changes = change;
  acts = if change then act.word else words.Want;
  text = text_if (change && has_text act.word) act.text;
}

-- ---- what was computed or put above

-- A value that was computed or put: the context on which the step acts, the word of its compute, and its text.
pub record ComputeText : Type 0 where
  pub context : ℕ
  pub word : Word
  pub text : List ℕ

module _ (declared : List KeyText) (key : KeyValue) where
  -- The act computes a value of the key.
  abbrev pub computes_key : Option ActText → Bool
  computes_key None = false
  computes_key (Some act) = gives_value act.word && key_eq (key_of_step declared act.key) key

  -- It puts a value of the key, if `put`, and else it computes one.
  abbrev pub stores_key : Bool → Option ActText → Bool
  stores_key put None = false
  stores_key put (Some act) = stores put act.word && key_eq (key_of_step declared act.key) key

  -- It removes the key.
  abbrev pub removes_key : Option ActText → Bool
  removes_key None = false
  removes_key (Some act) = word_eq act.word words.Remove && key_eq (key_of_step declared act.key) key

  -- The act of a node with this path, which is below this node, removes the key in one of these contexts.
  abbrev pub removes_past : ℕ → List ℕ → List ℕ → Option ActText → Bool
  removes_past node contexts path None = false
  removes_past node contexts path (Some act) = removes_key (Some act) && list_any (λ c. c == node) (drop 1 path)
      && list_any (λ c. c == start_of (drop act.up path)) contexts

  -- What the first of these acts of the node with this path that puts or computes the key stores.
  abbrev pub first_stored : Bool → List ℕ → List (Option ActText) → Option ComputeText
  first_stored put path [] = None
  first_stored put path (None ∷ more) = first_stored put path more
  first_stored put path (Some act ∷ more) =
      if stores_key put (Some act)
      then Some (record { context = start_of (drop act.up path); word = as_compute act.word; text = act.text })
      else first_stored put path more

abbrev pub or_above : Option ComputeText → Option ComputeText → Option ComputeText
or_above None above = above
or_above (Some here) above = Some here

module _ (plan : PlanText) where
  -- A callback before all children of the node removes the key; or a step of a node below it does, in this node's context
  -- or above it. Other nodes that remove it there run before those callbacks or after all that is below the node, or else
  -- race with its computes.
  abbrev pub is_removed : ℕ → KeyValue → Bool
  is_removed node key = list_any (λ step. removes_key plan.keys key (act_of step)) (steps_before plan node)
      || list_any (λ made. removes_past plan.keys key node (plan_path plan node) (plan_path plan made.node)
      (act_of made.step)) (steps_made plan)

  -- The first value of the key that is put or computed in the callbacks before all children of the node, which has this
  -- path, unless it is removed.
  abbrev pub stored_by : Bool → KeyValue → ℕ → List ℕ → Option ComputeText
  stored_by put key node path = if is_removed node key then None
      else first_stored plan.keys key put path (map act_of (steps_before plan node))

  -- That of the nearest node that has one. Each of these nodes is followed by those above it.
  abbrev pub stored_above : Bool → KeyValue → List ℕ → Option ComputeText
  stored_above put key [] = None
  stored_above put key (node ∷ above) = or_above (stored_by put key node (node ∷ above)) (stored_above put key above)

  -- The value that stands when a node begins: the nearest that is computed, or else the nearest that is put. By then
  -- these callbacks of the nodes above it have succeeded, so a value stands in the context on which the step acts, or
  -- above it, and does so until their node's children have ended.
  abbrev pub standing : ℕ → KeyValue → Option ComputeText
  standing node key = or_above (stored_above false key (drop 1 (plan_path plan node)))
      (stored_above true key (drop 1 (plan_path plan node)))

-- How a look-up touches the place in a context, after this compute above its node.
abbrev pub look_at : ℕ → ℕ → ActText → Option ComputeText → ℕ → TouchText
look_at node key act None context = touch_of node key act false context
look_at node key act (Some found) context =
    if context == found.context
    then record (touch_of node key act false context) { acts = found.word; text = found.text }
    else touch_of node key act false context

-- How an act touches the place in the context on which it acts.
abbrev pub touch_first : ℕ → ℕ → ActText → Option ComputeText → ℕ → TouchText
touch_first node key act found context =
    if changes act.word then touch_of node key act true context else look_at node key act found context

-- What an act touches above the context on which it acts.
abbrev pub touches_above : ℕ → ℕ → ActText → Option ComputeText → List ℕ → List TouchText
touches_above node key act found above = if looks_along act.word then map (look_at node key act found) above else []

-- What an act touches from the context on which it acts.
abbrev pub touches_along : ℕ → ℕ → ActText → Option ComputeText → List ℕ → List TouchText
touches_along node key act found [] = []
touches_along node key act found (context ∷ above) =
    touch_first node key act found context ∷ touches_above node key act found above

-- ---- look-ups after a compute

-- Once a step has computed a value for a key, look-ups of that key that run only where it succeeded (`MadeSteps`) touch
-- only the places below the one on which that step acts. When such a look-up runs, a value was computed or found. The
-- compute is of the same node and touches the other places itself: it changes its own and looks at those above. What
-- another node may change there clashes with it, unless that is a compute that agrees; and such a one finds a value, or
-- computes the same. If the node itself removes the value in between, that clashes with the other's compute. A compute
-- whose factory fails hides nothing: it leaves its place empty and succeeds, so another node's factory may still run
-- after it.
--
-- A look-up of a key that its own node has not computed before finds what was computed or put above (`standing`). It
-- touches the place on which that step acts as if it computed the same there, but does not change it: so it clashes with
-- all that may change that place, except computes of the same value. Those of nodes below the step's own find a value
-- there, and those of nodes beside it clash with a put. A look-up looks at all other places as ever, since the value may
-- stand above that place.
module _ (declared : List KeyText) (key : KeyValue) where
  -- The part of the path below the context in which the act computes this key, if it does.
  abbrev pub below_act : List ℕ → Option ActText → List ℕ
  below_act path None = path
  below_act path (Some act) = if computes_key declared key (Some act) then take act.up path else path

  -- The part of the path below all contexts in which these steps compute the key.
  abbrev pub below_computes : List ℕ → List StepText → List ℕ
  below_computes path before = fold (λ below step. below_act below (act_of step)) path before

-- How far along a path an act reaches, after these steps.
abbrev pub reach : List KeyText → List StepText → List ℕ → ActText → List ℕ
reach declared before path act = if changes act.word then path
    else below_computes declared (key_of_step declared act.key) path before

-- ---- touches

-- What an act after these steps finds of what was computed above: only a look-up does, if none of them computes its key.
abbrev pub found_above : List KeyText → List StepText → (KeyValue → Option ComputeText) → ActText → Option ComputeText
found_above declared before above act =
    if changes act.word || list_any (λ step. computes_key declared (key_of_step declared act.key) (act_of step)) before
    then None else above (key_of_step declared act.key)

-- The touches of an act by a node with this path, with these keys' numbers, after these steps and what was computed above
-- for each key.
abbrev pub touches_of_act : List KeyText → List KeyValue → ℕ → List ℕ → List StepText → (KeyValue → Option ComputeText)
    → Option ActText → List TouchText
touches_of_act declared keys node path before above None = []
touches_of_act declared keys node path before above (Some act) =
    touches_along node (number_of_key keys (key_of_step declared act.key)) act (found_above declared before above act)
    (drop act.up (reach declared before path act))

-- The touches of one step that a run may make, after what was computed above each node for each key.
abbrev pub touches_of : List Id → List KeyText → List KeyValue → (ℕ → KeyValue → Option ComputeText) → MadeText
    → List TouchText
touches_of ids declared keys above made =
    touches_of_act declared keys made.node (path_of ids made.node) made.before (above made.node) (act_of made.step)

-- The touches of all steps of a plan.
abbrev pub touches_made : PlanText → List TouchText
touches_made plan =
    flat_map (touches_of (ids_of_nodes plan.nodes) plan.keys (keys_named plan) (standing plan)) (steps_made plan)
