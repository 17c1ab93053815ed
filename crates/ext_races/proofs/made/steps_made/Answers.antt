use Rattle.std.proofs.Common.{◌≡◌, ◌∙◌, ap, ◌++◌, sym, length, arith}
use Rattle.std.specs.List.{flat_map, range_with_len}
use Rattle.std.proofs.lemmas.List.{length-map}
use Rattle.ext_plan.specs.Plans.{plan_view}
use Rattle.ext_races.specs.MadeSteps.{made_of_node}
use Rattle.ext_races.proofs.Lists.{flat_map-range_more}
use Rattle.ext_races.proofs.made.steps_made.Goals as goal

pub push_node-requires-clause-node : goal.push_node-requires-clause-node
push_node-requires-clause-node c =
    let count = c.len-node-end.ensures.count in
    let end = c.loop-node.auto.node-end in
    let more = c.loop-node-test.true in
    let same = ap length c.tree-tree.ensures in
    omega (arith, count, end, more, same)

pub loop-node-preserved : goal.loop-node-preserved
loop-node-preserved c = c.in_ok-push_node.ensures ∙ ap (λ xs. xs ++ made_of_node (plan_view c.args.plan.now) c.loop-node.node) c.loop-node.invariant ∙ sym (flat_map-range_more (made_of_node (plan_view c.args.plan.now)) c.loop-node.node)

pub returns : goal.returns
returns c =
    let count = c.len-node-end.ensures.count in
    let end = c.loop-node.auto.node-end in
    let last = c.loop-node-test.false in
    let all : c.loop-node.node ≡ length (plan_view c.args.plan.now).nodes = (let stop : c.loop-node.node ≡ length c.tree-tree.result.now = omega (arith, count, end, last) in stop ∙ ap length c.tree-tree.ensures ∙ length-map (plan_view c.args.plan.now).nodes (λ n. n.id)) in
    c.loop-node.invariant ∙ ap (λ n. flat_map (made_of_node (plan_view c.args.plan.now)) (range_with_len 0 n)) all
