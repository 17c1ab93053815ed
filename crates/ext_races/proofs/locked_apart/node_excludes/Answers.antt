use Rattle.std.proofs.Common.{◌∙◌, ap, sym}
use Rattle.std.specs.List.{list_any}
use Rattle.ext_plan.specs.Plans.{lock_view}
use Rattle.ext_races.specs.LockedApart.{excludes}
use Rattle.ext_races.proofs.MappedLists.{any_map}
use Rattle.ext_races.proofs.locked_apart.node_excludes.Goals as goal

pub returns : goal.returns
returns c =
    c.any_excludes.ensures ∙ sym (any_map (λ other. excludes (lock_view c.args.lock.now) other) lock_view c.locks_of.result.now)
    ∙ ap (list_any (λ other. excludes (lock_view c.args.lock.now) other)) c.locks_of.ensures
