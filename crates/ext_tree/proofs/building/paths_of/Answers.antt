use Rattle.std.proofs.Common.{◌+◌, ◌∙◌, ap, sym, subst}
use Rattle.ext_tree.specs.InnerBuilding.{ArePaths}
use Rattle.ext_tree.proofs.TreeFacts.{more_paths}
use Rattle.ext_tree.proofs.building.paths_of.Goals as goal

pub loop-context-preserved : goal.loop-context-preserved
loop-context-preserved c = record {
  filled = c.push_reserved.ensures.len ∙ ap (λ n. n + 1) c.loop-context.invariant.filled;
  room = c.push_reserved.ensures.capacity ∙ c.loop-context.invariant.room;
  paths = subst (ArePaths c.args.ids.now (_)) (sym c.push_reserved.ensures.items)
      (more_paths c.args.ids.now c.loop-context.context _ c.loop-context.paths.items c.loop-context.invariant.paths c.path_of.ensures.path c.path_of.ensures.few);
}
