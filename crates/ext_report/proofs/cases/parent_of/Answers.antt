use Rattle.std.proofs.Common.{subst, sym}
use Rattle.ext_tree.specs.Trees.{IsPathOf}
use Rattle.ext_report.proofs.SuiteCases.{parent_at}
use Rattle.ext_report.proofs.cases.parent_of.Goals as goal

pub bounds-path-1 : goal.bounds-path-1
bounds-path-1 c =
    let at = parent_at c.args.tree.now c.args.context c.as_slice-path.result.now (subst (IsPathOf c.args.tree.now c.args.context) (sym c.as_slice-path.ensures.contexts) c.path.ensures.path) c.requires.below in
    at.0

pub returns : goal.returns
returns c =
    let at = parent_at c.args.tree.now c.args.context c.as_slice-path.result.now (subst (IsPathOf c.args.tree.now c.args.context) (sym c.as_slice-path.ensures.contexts) c.path.ensures.path) c.requires.below in
    at.1
