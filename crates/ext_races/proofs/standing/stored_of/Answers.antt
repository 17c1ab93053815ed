use Rattle.std.proofs.Common.{◌<◌, All, ap, arith, length, refl, subst, sym}
use Rattle.ext_plan.specs.Plans.{plan_view}
use Rattle.ext_plan.specs.ReadPlans.{ids_of_nodes}
use Rattle.ext_plan.specs.StepCalls.{keys_in}
use Rattle.ext_races.specs.InnerMade.{made_view}
use Rattle.ext_races.specs.InnerStanding.{AreWithoutRemoved, computes_view}
use Rattle.ext_races.proofs.Above.{stored_are}
use Rattle.ext_races.proofs.Removed.{lists_long}
use Rattle.std.proofs.Common.{map}
use Rattle.ext_races.proofs.standing.stored_of.Goals as goal

pub computes_made-requires : goal.computes_made-requires
computes_made-requires c = c.requires.plan.few

pub forget_made-requires-clause-count : goal.forget_made-requires-clause-count
forget_made-requires-clause-count c =
    let ids = ids_of_nodes (plan_view c.args.plan.now).nodes in
    let long = c.in_ok-lists.ensures.long in
    let count = lists_long c.in_ok-lists.lists.items in
    let ok = c.in_ok-lists.lists.ok in
    let same = ap length c.tree.ensures in
    omega (arith, long, count, ok, same)

pub forget_made-requires-clause-nodes : goal.forget_made-requires-clause-nodes
forget_made-requires-clause-nodes c = subst (λ ids. All (λ m. m.node < length ids) c.args.made.now) (sym c.tree.ensures) c.requires.nodes

pub returns : goal.returns
returns c =
    let plan = plan_view c.args.plan.now in
    let declared = keys_in c.args.keys.now in
    let first = computes_view c.in_ok-lists.lists.items in
    let last = computes_view c.forget_made.new.lists.items in
    let left = subst (λ ids. AreWithoutRemoved declared c.args.directory.now ids (map made_view c.args.made.now) first last) c.tree.ensures c.in_ok-forget_made.ensures in
    stored_are plan (ids_of_nodes plan.nodes) c.requires.plan.tree refl c.args.directory.now declared c.args.put first last c.args.made.now c.requires.keys c.requires.made c.in_ok-lists.ensures left
