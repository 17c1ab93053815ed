use Rattle.ext_tree.proofs.TreeLaws.{faults_tell, paths_are_unique, parents_list_children}
use Rattle.ext_tree.proofs.Testing.{test_tells}
use Rattle.ext_tree.proofs.laws.tree_laws.Goals as goal

pub returns : goal.returns
returns c = record { faults = faults_tell; decided = test_tells; paths = paths_are_unique; children = parents_list_children }
