use Rattle.std.proofs.Common.{rules, ◌≡◌, ◌++◌, length, take, ap, sym, ◌∙◌, append-nil, arith}
use Rattle.std.specs.Prelude.{reverse}
use Rattle.std.specs.List.{flat_map}
use Rattle.std.proofs.lemmas.List.{length-reverse, length_push, take_all}
use Rattle.std.proofs.lemmas.Iterator.Adapters.{YieldsList-from_rev_slice}
use Rattle.std.proofs.lemmas.Iterator.Consumers.{YieldsList-turn, YieldsList-end}
use Rattle.ext_lifecycle.specs.Callbacks.{callbacks}
use Rattle.ext_lifecycle.proofs.CallLists.{added-node}
use Rattle.ext_lifecycle.proofs.callbacks.push_along.Goals as goal

pub loop-node-init : goal.loop-node-init
loop-node-init g c = record { added = sym (append-nil c.args.calls.now.items); few = omega arith }

pub loop-node-preserved : goal.loop-node-preserved
loop-node-preserved g c =
    let road = YieldsList-from_rev_slice c.args.path.now (search rules) in
    let t = YieldsList-turn road c.loop-node.yielded _ c.loop-node.yielded_by _ _ c.in-Some.node c.in-Some.is c.next.ensures.steps in
    let long = length_push c.loop-node.yielded c.in-Some.node in
    let each = callbacks (g.S.Callbacks.registered c.args.suite.now) c.args.kind in
    let so_far = c.loop-node.invariant.added in
    record {
      added = added-node each (reverse c.args.path.now) (length c.loop-node.yielded) c.in-Some.node.now c.args.calls.now.items c.loop-node.calls.items _ t so_far c.in_ok-push_callbacks.ensures.added
          ∙ ap (λ n. c.args.calls.now.items ++ flat_map each (take n (reverse c.args.path.now))) (sym long);
      few = omega (arith, long, c.loop-node.invariant.few, c.in_ok-push_callbacks.ensures.few);
    }

pub returns-clause-added : goal.returns-clause-added
returns-clause-added g c =
    let road = YieldsList-from_rev_slice c.args.path.now (search rules) in
    let t = YieldsList-end road c.loop-node.yielded _ c.loop-node.yielded_by _ _ c.in-None.is c.next.ensures.steps in
    let each = callbacks (g.S.Callbacks.registered c.args.suite.now) c.args.kind in
    let all = reverse c.args.path.now in
    c.loop-node.invariant.added ∙ ap (λ l. c.args.calls.now.items ++ flat_map each l) (take_all (length c.loop-node.yielded) all (omega (arith, t.1)))

pub returns-clause-few : goal.returns-clause-few
returns-clause-few g c =
    let road = YieldsList-from_rev_slice c.args.path.now (search rules) in
    let t = YieldsList-end road c.loop-node.yielded _ c.loop-node.yielded_by _ _ c.in-None.is c.next.ensures.steps in
    let long : length c.loop-node.yielded ≡ length c.args.path.now = t.1 ∙ length-reverse c.args.path.now in
    omega (arith, c.loop-node.invariant.few, long)
