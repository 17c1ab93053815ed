use Rattle.std.proofs.Common.{◌∙◌, arith, sym}
use Rattle.ext_races.specs.InnerStanding.{computes_view}
use Rattle.ext_races.proofs.Computes.{found_here, found_later, found_nowhere}
use Rattle.ext_races.proofs.standing.computed_in.Goals as goal

pub loop-node-preserved : goal.loop-node-preserved
loop-node-preserved c =
    let read = c.computed_by-found.ensures in
    found_later (computes_view c.args.lists.now) c.args.key c.args.nodes.now c.loop-node.node-index _ c.computed_by-found.result (omega arith) read c.loop-node.invariant (sym c.is_some.ensures ∙ c.if-is_some.false)

pub returns-then-is_some : goal.returns-then-is_some
returns-then-is_some c =
    let read = c.computed_by-found.ensures in
    found_here (computes_view c.args.lists.now) c.args.key c.args.nodes.now c.loop-node.node-index _ c.computed_by-found.result (omega arith) read c.loop-node.invariant (sym c.is_some.ensures ∙ c.if-is_some.true)

pub returns : goal.returns
returns c =
    let past = c.loop-node-test.false in
    sym (found_nowhere (computes_view c.args.lists.now) c.args.key c.args.nodes.now c.loop-node.node-index past c.loop-node.invariant)
