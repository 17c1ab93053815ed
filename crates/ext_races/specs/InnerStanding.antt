-- What is noted of a plan to tell what was computed or put above a node (`standing`): the computes and the puts in the
-- callbacks before the body of each node with children, but for the keys that are removed.
use Rattle.std.specs.Prelude.{ℕ, ◌≡◌, ◌≢◌, ◌<◌, ◌==◌, Bool, true, false, List, [], ◌∷◌, length, map, drop, find, Option, Some, None, option_map, slice_index_or, if◌then◌else◌}
use Rattle.std.specs.List.{list_any}
use Rattle.std.specs.declared.alloc.Global.{Global}
use Rattle.std.specs.Prelude.{Vec}
use Rattle.ext_tree.specs.Keys.{KeyValue}
use Rattle.ext_tree.specs.Trees.{Id, IsPathOf, children_of}
use Rattle.ext_plan.specs.Plans.{KeyText, PlanText, StepText}
use Rattle.ext_plan.specs.ReadPlans.{ids_of_nodes}
use Rattle.ext_plan.specs.StepCalls.{start_of}
use Rattle.ext_plan.specs.StoreKeys.{is_there, number_of_key}
use Rattle.ext_races.specs.declared.standing.Compute.{Compute}
use Rattle.ext_races.specs.declared.standing.Standing.{Standing}
use Rattle.ext_races.specs.Acts.{ActText, act_of}
use Rattle.ext_races.specs.MadeSteps.{MadeText, path_of, plan_path, steps_before}
use Rattle.ext_races.specs.Touches.{ComputeText, first_stored, or_above, removes_key, removes_past, stored_above}

-- ---- what is read

abbrev pub compute_view : Compute → ComputeText
compute_view c = record { context = c.context; word = c.word; text = c.text.now }

-- The first of these computes for the key with this number.
abbrev pub compute_at : List Compute → ℕ → Option ComputeText
compute_at computes key = option_map compute_view (find (λ c. c.key == key) computes)

abbrev pub computes_view : List (Vec Compute Global) → List (List Compute)
computes_view lists = map (λ v. v.items) lists

abbrev pub computes_of : List (List Compute) → ℕ → List Compute
computes_of lists node = slice_index_or lists node []

-- The compute of the first of these nodes that has one of the key.
abbrev pub computed_in : List (List Compute) → ℕ → List ℕ → Option ComputeText
computed_in lists key [] = None
computed_in lists key (node ∷ more) = or_above (compute_at (computes_of lists node) key) (computed_in lists key more)

-- What was computed or put above the node with this path.
abbrev pub stands : Standing → List ℕ → ℕ → Option ComputeText
stands noted path key = or_above (computed_in (computes_view noted.computes.items) key (drop 1 path))
    (computed_in (computes_view noted.puts.items) key (drop 1 path))

-- So it is noted what was put above each node for each key of the directory, if `put`, and else what was computed.
pub record AreStored (plan : PlanText) (directory : List KeyValue) (put : Bool) (lists : List (List Compute)) : Type 0 where
  pub each : (node : ℕ) (path : List ℕ) (key : KeyValue) → node < length (ids_of_nodes plan.nodes)
      → IsPathOf (ids_of_nodes plan.nodes) node path → is_there directory key ≡ true
      → computed_in lists (number_of_key directory key) (drop 1 path)
      ≡ stored_above plan put key (drop 1 (plan_path plan node))

-- So it is noted what was computed or put above each node for each key of the directory.
pub record TellsAbove (ids : List Id) (directory : List KeyValue) (above : ℕ → KeyValue → Option ComputeText)
    (noted : Standing) : Type 0 where
  pub each : (node : ℕ) (path : List ℕ) (key : KeyValue) → node < length ids → IsPathOf ids node path
      → is_there directory key ≡ true → stands noted path (number_of_key directory key) ≡ above node key

-- ---- how it is noted

abbrev pub unless : Bool → Option ComputeText → Option ComputeText
unless gone found = if gone then None else found

abbrev pub is_number : Option ℕ → ℕ → Bool
is_number None key = false
is_number (Some number) key = number == key

-- The context on which the act of a node with this path acts.
abbrev pub context_of : List ℕ → Option ActText → ℕ
context_of path None = 0
context_of path (Some act) = start_of (drop act.up path)

-- One of these steps removes the key.
abbrev pub removed_by : List KeyText → List StepText → KeyValue → Bool
removed_by declared steps key = list_any (λ step. removes_key declared key (act_of step)) steps

-- One of these steps of a node below this one removes the key, in this node's context or above it.
abbrev pub removed_past : List KeyText → List Id → List MadeText → ℕ → KeyValue → Bool
removed_past declared ids made node key =
    list_any (λ m. removes_past declared key node (path_of ids node) (path_of ids m.node) (act_of m.step)) made

-- The number of a key, if it has one.
abbrev pub IsNumber : List KeyValue → KeyValue → Option ℕ → Type 0
IsNumber directory key None = is_there directory key ≡ false
IsNumber directory key (Some number) = (is_there directory key ≡ true) × (number ≡ number_of_key directory key)

-- The computes are the same, but for keys of this kind, of which there are none.
pub record AreWithout (directory : List KeyValue) (gone : KeyValue → Bool) (before after : List Compute) : Type 0 where
  pub each : (key : KeyValue) → is_there directory key ≡ true → compute_at after (number_of_key directory key)
      ≡ unless (gone key) (compute_at before (number_of_key directory key))

module _ (declared : List KeyText) (directory : List KeyValue) where
  -- These have the first put or compute of each key in these acts of a node with this path.
  pub record AreFirst (put : Bool) (path : List ℕ) (acts : List (Option ActText)) (computes : List Compute) : Type 0 where
    pub each : (key : KeyValue) → is_there directory key ≡ true
        → compute_at computes (number_of_key directory key) ≡ first_stored declared key put path acts

  -- So they do, but for the keys that one of these steps removes.
  pub record AreLeft (put : Bool) (path : List ℕ) (steps : List StepText) (computes : List Compute) : Type 0 where
    pub each : (key : KeyValue) → is_there directory key ≡ true → compute_at computes (number_of_key directory key)
        ≡ unless (removed_by declared steps key) (first_stored declared key put path (map act_of steps))

  -- So they are in each list, but for the keys that these steps of nodes below remove.
  pub record AreWithoutRemoved (ids : List Id) (made : List MadeText) (before after : List (List Compute)) : Type 0 where
    pub count : length after ≡ length before
    pub each : (node : ℕ) → AreWithout directory (removed_past declared ids made node) (computes_of before node)
        (computes_of after node)

-- This is the number of the key that the act removes; none, if it removes none of the directory.
pub record IsRemoved (declared : List KeyText) (directory : List KeyValue) (act : Option ActText) (number : Option ℕ)
    : Type 0 where
  pub each : (key : KeyValue) → is_there directory key ≡ true
      → removes_key declared key act ≡ is_number number (number_of_key directory key)

-- So it is for each of the first so many nodes that has children.
pub record AreComputed (plan : PlanText) (declared : List KeyText) (directory : List KeyValue) (put : Bool) (count : ℕ)
    (lists : List (List Compute)) : Type 0 where
  pub long : length lists ≡ count
  pub each : (node : ℕ) → node < count → children_of (ids_of_nodes plan.nodes) node ≢ []
      → AreLeft declared directory put (plan_path plan node) (steps_before plan node) (computes_of lists node)
