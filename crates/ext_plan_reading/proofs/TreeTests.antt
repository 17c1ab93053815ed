-- From what building a tree answers to the test for trees of a plan of this size, and back.
use Rattle.std.proofs.Common.{◌≡◌, ◌≤◌, List, Ok, Err, true, ap, arith}
use Rattle.std.proofs.lemmas.Bool.{false_from_ne_true}
use Rattle.ext_tree.specs.declared.fault.TreeFault.{TreeFault}
use Rattle.ext_model.specs.Sizes.{most_contexts}
use Rattle.ext_model.specs.declared.size.Size.{Size}
use Rattle.ext_model.specs.declared.size.Size.TheVariants as sizes
use Rattle.ext_tree.specs.Decided.{is_tree}
use Rattle.ext_tree.specs.Trees.{Id, IsTreeWithin, HasFault}
use Rattle.ext_tree.proofs.Testing.{test_tells}
use Rattle.ext_tree.proofs.TreeFacts.{has_no_fault}
use Rattle.ext_plan_reading.specs.declared.fault.PlanFault.TheVariants as faults
use Rattle.ext_plan_reading.specs.Faults.{check}

pub within : (size : Size) → most_contexts size ≤ 65536
within sizes.Usual = omega arith
within sizes.Large = omega arith

pub tree_within : (size : Size) (ids : List Id) → is_tree (most_contexts size) ids ≡ true → IsTreeWithin (most_contexts size) ids
tree_within size ids = (test_tells (most_contexts size) ids (within size)).0

pub is_a_tree : (size : Size) (ids : List Id) → IsTreeWithin (most_contexts size) ids → check faults.BadTree (is_tree (most_contexts size) ids) ≡ Ok tt
is_a_tree size ids tree = ap (check faults.BadTree) ((test_tells (most_contexts size) ids (within size)).1 tree)

pub is_no_tree : (size : Size) (ids : List Id) (fault : TreeFault) → HasFault (most_contexts size) ids fault → check faults.BadTree (is_tree (most_contexts size) ids) ≡ Err faults.BadTree
is_no_tree size ids fault wrong = ap (check faults.BadTree) (false_from_ne_true _ (λ t. has_no_fault (most_contexts size) ids fault (tree_within size ids t) wrong))
