use Rattle.std.proofs.Common.{◌∙◌, ap, sym}
use Rattle.std.specs.List.{list_any}
use Rattle.ext_plan.specs.Plans.{lock_view, plan_view}
use Rattle.ext_races.specs.LockedApart.{path_excludes}
use Rattle.ext_races.proofs.MappedLists.{any_map}
use Rattle.ext_races.proofs.locked_apart.is_excluded.Goals as goal

pub returns : goal.returns
returns c =
    c.any_excluded.ensures ∙ sym (any_map (λ lock. path_excludes (plan_view c.args.plan.now) c.args.path.now lock) lock_view c.locks_of.result.now)
    ∙ ap (list_any (λ lock. path_excludes (plan_view c.args.plan.now) c.args.path.now lock)) c.locks_of.ensures
