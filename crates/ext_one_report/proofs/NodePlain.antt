-- Children of a container in a plain run, one after another: what they keep, and what they leave as it was.
use Rattle.std.proofs.Common.{◌≡◌, ℕ, fold, List, [], ◌∷◌, length, ◌∙◌}
use Rattle.std.specs.Prelude.{All}
use Rattle.std.proofs.lemmas.List.Elements.{All-head, All-tail}
use Rattle.ext_one_report.proofs.Numbers.{enough_numbers}
use Rattle.ext_tree.specs.Trees.{IsParentOf, IsPathOf}
use Rattle.ext_plan.specs.Plans.{PlanText}
use Rattle.ext_plan.specs.ReadPlans.{IsReadPlan, ids_of_nodes}
use Rattle.ext_races.specs.Touches.{keys_named}
use Rattle.ext_plan_plain.specs.PlainRun.{RunState, node_run}
use Rattle.ext_plan_plain.proofs.Nodes.{child_path}
use Rattle.ext_plan_plain.proofs.Sound.{node-kept}
use Rattle.ext_one_report.proofs.MatchingWords.{Places}
use Rattle.ext_one_report.proofs.Rooms.{GaveFew}
use Rattle.ext_one_report.proofs.Covers.{AreCovered}
use Rattle.ext_one_report.specs.Within.{is_within}
use Rattle.ext_one_report.proofs.OfPlan.{IsOfPlan}
use Rattle.ext_one_report.proofs.PlainFrames.{LeavesElse}
use Rattle.ext_one_report.proofs.FrameKeys.{nodes_give_few}
use Rattle.ext_one_report.proofs.FrameNodes.{nodes_leave}
use Rattle.ext_one_report.proofs.FrameSlots.{leaves_itself, leaves_more, leaves_then}
use Rattle.ext_one_report.proofs.NodePlaces.{any_of, or_first, or_second, within_any}
use Rattle.ext_one_report.proofs.ResultLists.{set-long}
use Rattle.ext_one_report.proofs.OfPlanNodes.{node_of}

-- a node keeps one result for each node
pub results_long : (plan : PlanText) (levels : ℕ) (path : List ℕ) (r : RunState) (count : ℕ) → length r.results ≡ count → length (node_run plan levels path r).results ≡ count
results_long plan levels path r count is = node-kept plan (λ results. length results ≡ count) (λ at end closed results long. set-long results at _ ∙ long) levels path r is

-- a plain run between two nodes, that finds all memory, has given few numbers and holds only what steps of the plan leave
pub record IsFine (plan : PlanText) (r : RunState) : Type 0 where
  pub memory : r.state.memory ≡ []
  pub gave : GaveFew (keys_named plan) (enough_numbers plan.size) r.state
  pub of_plan : IsOfPlan plan r.state
  pub count : length r.results ≡ length plan.nodes

module _ (plan : PlanText) (touched changes : ℕ → Places) (read : IsReadPlan plan) (covered : AreCovered plan touched changes)
    (levels node : ℕ) (path : List ℕ) (path_is : IsPathOf (ids_of_nodes plan.nodes) node path) where
  abbrev pub IsChild : ℕ → Type 0
  IsChild child = IsParentOf (ids_of_nodes plan.nodes) node child

  abbrev pub child_run : RunState → ℕ → RunState
  child_run r child = node_run plan levels (child ∷ path) r

  abbrev pub children_after : RunState → List ℕ → RunState
  children_after r children = fold (λ r child. node_run plan levels (child ∷ path) r) r children

  pub its_path : (child : ℕ) → IsChild child → IsPathOf (ids_of_nodes plan.nodes) child (child ∷ path)
  its_path child parent = child_path (ids_of_nodes plan.nodes) node child path path_is parent

  -- ---- one child

  pub child_leaves : (r : RunState) (child : ℕ) → IsChild child → IsFine plan r → LeavesElse (changes child) (is_within plan child) r.state (child_run r child).state
  child_leaves r child parent fine = nodes_leave plan touched changes levels child (child ∷ path) r read.runnable.tree read.runnable.tests covered (its_path child parent) fine.memory

  pub child_fine : (r : RunState) (child : ℕ) → IsChild child → IsFine plan r → IsFine plan (child_run r child)
  child_fine r child parent fine = record {
    memory = (child_leaves r child parent fine).memory fine.memory;
    gave = nodes_give_few plan levels child (child ∷ path) r read.runnable.tree (its_path child parent) fine.gave;
    of_plan = node_of plan levels child (child ∷ path) r read (its_path child parent) fine.memory fine.of_plan;
    count = results_long plan levels (child ∷ path) r (length plan.nodes) fine.count;
  }

  -- ---- all of some

  pub children_fine : (children : List ℕ) (r : RunState) → All IsChild children → IsFine plan r → IsFine plan (children_after r children)
  children_fine [] r all fine = fine
  children_fine (child ∷ children) r all fine = children_fine children (child_run r child) (All-tail IsChild child children all) (child_fine r child (All-head IsChild child children all) fine)

  pub children_leave : (children : List ℕ) (r : RunState) → All IsChild children → IsFine plan r
      → LeavesElse (any_of changes children) (within_any plan children) r.state (children_after r children).state
  children_leave [] r all fine = leaves_itself (any_of changes []) (within_any plan []) r.state
  children_leave (child ∷ children) r all fine =
      let next = child_run r child in
      let parent = All-head IsChild child children all in
      let one : LeavesElse (any_of changes (child ∷ children)) (within_any plan (child ∷ children)) r.state next.state =
      leaves_more (changes child) (any_of changes (child ∷ children)) (is_within plan child) (within_any plan (child ∷ children)) r.state next.state
      (λ context key is. or_first (changes child context key) (any_of changes children context key) is)
      (λ context is. or_first (is_within plan child context) (within_any plan children context) is) (child_leaves r child parent fine) in
      let rest : LeavesElse (any_of changes (child ∷ children)) (within_any plan (child ∷ children)) next.state (children_after next children).state =
      leaves_more (any_of changes children) (any_of changes (child ∷ children)) (within_any plan children) (within_any plan (child ∷ children)) next.state (children_after next children).state
      (λ context key is. or_second (changes child context key) (any_of changes children context key) is)
      (λ context is. or_second (is_within plan child context) (within_any plan children context) is)
      (children_leave children next (All-tail IsChild child children all) (child_fine r child parent fine)) in
      leaves_then (any_of changes (child ∷ children)) (within_any plan (child ∷ children)) r.state next.state (children_after next children).state one rest
