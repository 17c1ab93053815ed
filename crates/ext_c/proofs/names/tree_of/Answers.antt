use Rattle.std.proofs.Common.{ℕ, ◌≢◌, rules, subst}
use Rattle.ext_model.specs.Sizes.{most_contexts}
use Rattle.ext_tree.specs.Trees.{HasFault}
use Rattle.ext_tree.specs.declared.fault.TreeFault.TheVariants as tree
use Rattle.ext_c.proofs.Cut.{no_tree}
use Rattle.ext_c.proofs.names.tree_of.Goals as goal

pub returns-clause-refused : goal.returns-clause-refused
returns-clause-refused c =
    no_tree (most_contexts c.args.size) c.args.bytes.now c.args.lengths.now c.as_slice-2.result.now c.in-Err.fault c.of_tree.result c.in_ok-texts.ensures.well (search rules)
    (subst (λ (most : ℕ). c.in-Err.fault ≢ tree.Memory → HasFault most c.as_slice-2.result.now c.in-Err.fault) c.contexts.ensures c.in-Err.ensures.fault) c.of_tree.ensures
