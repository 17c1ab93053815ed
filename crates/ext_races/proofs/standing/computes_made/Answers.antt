use Rattle.std.proofs.Common.{◌≡◌, ap, arith, length, subst, sym}
use Rattle.ext_plan.specs.Plans.{plan_view}
use Rattle.ext_plan.specs.ReadPlans.{ids_of_nodes}
use Rattle.ext_plan.specs.StepCalls.{keys_in}
use Rattle.ext_races.specs.InnerStanding.{AreComputed, computes_view}
use Rattle.ext_races.proofs.Computes.{computed_more, computed_none}
use Rattle.ext_races.proofs.standing.computes_made.Goals as goal

pub loop-node-init : goal.loop-node-init
loop-node-init c =
    let declared = keys_in c.args.keys.now in
    subst (λ lists. AreComputed (plan_view c.args.plan.now) declared c.args.directory.now c.args.put 0 (computes_view lists)) (sym c.new-lists.ensures.items) (computed_none (plan_view c.args.plan.now) declared c.args.directory.now c.args.put)

pub computes_before-requires-clause-node : goal.computes_before-requires-clause-node
computes_before-requires-clause-node c =
    let count = c.len-node-end.ensures.count in
    let end = c.loop-node.auto.node-end in
    let more = c.loop-node-test.true in
    let same = ap length c.tree-tree.ensures in
    omega (arith, count, end, more, same)

pub loop-node-preserved : goal.loop-node-preserved
loop-node-preserved c =
    let declared = keys_in c.args.keys.now in
    computed_more (plan_view c.args.plan.now) declared c.args.directory.now c.args.put c.loop-node.node c.loop-node.lists.items c.push.new.self.items c.in_ok-computes.computes
    c.in_ok-computes.ensures c.in_ok-push.ensures.items c.loop-node.invariant

pub returns : goal.returns
returns c =
    let count = c.len-node-end.ensures.count in
    let end = c.loop-node.auto.node-end in
    let last = c.loop-node-test.false in
    let same = ap length c.tree-tree.ensures in
    let stop : c.loop-node.node ≡ length (ids_of_nodes (plan_view c.args.plan.now).nodes) = omega (arith, count, end, last, same) in
    subst (λ n. AreComputed (plan_view c.args.plan.now) (keys_in c.args.keys.now) c.args.directory.now c.args.put n (computes_view c.loop-node.lists.items)) stop c.loop-node.invariant
