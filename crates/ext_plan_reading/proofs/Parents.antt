-- A turn of the loop over the nodes of a tree: the list of a node's children tells whether it is a parent.
use Rattle.std.proofs.Common.{◌≡◌, ℕ, Bool, not, List, [], ◌∷◌, ◌++◌, Ok, Err, length, ap, sym, ◌∙◌}
use Rattle.std.specs.Prelude.{◌==◌}
use Rattle.ext_tree.specs.Trees.{children_of, Id}
use Rattle.ext_plan.specs.Plans.{NodeText}
use Rattle.ext_plan_reading.specs.declared.fault.PlanFault.{PlanFault}
use Rattle.ext_plan_reading.specs.Depths.{least_test_depth}
use Rattle.ext_plan_reading.specs.NodeReading.{Sketch, has_children, ids_of, outlines_of, node_at, nodes_after}
use Rattle.ext_plan_reading.proofs.Turns.{node_in, nodes_go, nodes_stop}

-- `children` are those of the node of this number in the tree of all sketches, `childless` says whether there are none, and `least` is how far up its callbacks
-- round tests may go
module _ (labels : List (List ℕ)) (ids : List Id) (all : List Sketch) (before : List NodeText) (x : Sketch) (more : List Sketch) (number : ℕ) (children : List ℕ) (childless : Bool) (least : ℕ)
    (tree : ids ≡ ids_of all) (place : number ≡ length before) (listed : children ≡ children_of ids number) (is : childless ≡ (length children == 0))
    (depth : least ≡ least_test_depth (outlines_of all) x.id) where
  at_place : node_in labels all before x ≡ node_at labels (not childless) least x
  at_place =
      ap (λ n. node_at labels (has_children (ids_of all) n) (least_test_depth (outlines_of all) x.id) x) (sym place)
      ∙ ap (λ ids. node_at labels (has_children ids number) (least_test_depth (outlines_of all) x.id) x) (sym tree)
      ∙ ap (λ b. node_at labels b (least_test_depth (outlines_of all) x.id) x) (ap (λ list. not (length list == 0)) (sym listed) ∙ ap not (sym is))
      ∙ ap (λ n. node_at labels (not childless) n x) (sym depth)

  pub tree_go : (node : NodeText) → node_at labels (not childless) least x ≡ Ok node → nodes_after labels all before (x ∷ more) ≡ nodes_after labels all (before ++ node ∷ []) more
  tree_go node found = nodes_go labels all before x more node (at_place ∙ found)

  pub tree_stop : (fault : PlanFault) → node_at labels (not childless) least x ≡ Err fault → nodes_after labels all before (x ∷ more) ≡ Err fault
  tree_stop fault found = nodes_stop labels all before x more fault (at_place ∙ found)
