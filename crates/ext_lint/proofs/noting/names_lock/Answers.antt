use Rattle.std.proofs.Common.{rules, ◌≡◌, ◌∙◌, sym}
use Rattle.std.specs.List.{list_any}
use Rattle.std.specs.Str.{bytes_eq}
use Rattle.ext_plan.specs.LockNames.{lock_name}
use Rattle.ext_plan.specs.Plans.{lock_view}
use Rattle.ext_plan.specs.declared.plan.PlanLock.{PlanLock}
use Rattle.ext_plan_reading.proofs.Lists.{list_any-map}
use Rattle.ext_lint.proofs.noting.names_lock.Goals as goal

pub returns : goal.returns
returns c =
    let named : c.is_named.result ≡ list_any (λ (lock : PlanLock). bytes_eq c.args.name.now (lock_name (lock_view lock))) c.args.node.now.locks.items = search rules in
    named ∙ sym (list_any-map lock_view (λ lock. bytes_eq c.args.name.now (lock_name lock)) c.args.node.now.locks.items)
