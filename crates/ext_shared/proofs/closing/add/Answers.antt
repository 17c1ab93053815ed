use Rattle.std.proofs.Common.{rules, ◌∙◌, ap, map, true, false}
use Rattle.ext_shared.proofs.Orders.{with_new}
use Rattle.ext_shared.proofs.closing.add.Goals as goal

pub returns-in_ok-push : goal.returns-in_ok-push
returns-in_ok-push c = ap (map (λ n. n.now)) (search rules) ∙ with_new c.args.order.now.items c.args.name true (search rules)

pub returns-else-is_new : goal.returns-else-is_new
returns-else-is_new c = with_new c.args.order.now.items c.args.name false (search rules)
