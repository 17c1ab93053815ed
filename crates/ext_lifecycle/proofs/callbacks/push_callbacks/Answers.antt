use Rattle.std.proofs.Common.{arith}
use Rattle.ext_lifecycle.proofs.CallLists.{added-callback}
use Rattle.ext_lifecycle.proofs.callbacks.push_callbacks.Goals as goal

pub loop-index-preserved : goal.loop-index-preserved
loop-index-preserved g c = record {
  added = added-callback c.args.kind c.args.node c.loop-index.index c.args.calls.now.items c.loop-index.calls.items _ c.loop-index.invariant.added c.in_ok-push.ensures.items;
  few = omega (arith, c.loop-index.invariant.few, c.in_ok-push.ensures.len);
}
