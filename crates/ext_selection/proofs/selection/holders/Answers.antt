use Rattle.std.proofs.Common.{◌≡◌, ◌∙◌, ◌+◌, length, ap, sym, subst, arith, length-set, Bool, List, true, false, replicate, set, rules}
use Rattle.ext_selection.specs.Selection.{flag_at}
use Rattle.ext_selection.proofs.Keeping.{HoldsBelow, holds_none, holds_more, holds_same, holds_all, clear}
use Rattle.ext_selection.proofs.selection.holders.Goals as goal
use Rattle.ext_selection.proofs.selection.holders.Goals.{then-above-index, else-above-index}

pub loop-index-init : goal.loop-index-init
loop-index-init c =
    let items : c.in_ok-flags.flags.items ≡ replicate (length c.args.nodes.now) false = search rules in
    record {
      size = search rules;
      held = holds_none _ _ (λ k. ap (λ f. flag_at f k) items ∙ clear (length c.args.nodes.now) k);
    }

pub loop-index-preserved : goal.loop-index-preserved
loop-index-preserved c =
    let nodes = c.args.nodes.now in
    let index = c.loop-index.index in
    let above = c.node_at-above.result.above in
    let before : List Bool = c.loop-index.flags.items in
    let named = sym (ap (λ n. n.above) c.node_at-above.ensures) in
    let size = c.loop-index.invariant.size in
    let held = c.loop-index.invariant.held in
    elim c.if-above-index.branch [
      | then-above-index w ↦
          let written : c.if-above-index.flags.items ≡ set before above true = ap (λ f. f.items) w.flags-is in
          record {
            size = ap length written ∙ length-set before above true ∙ size;
            held = subst (λ f. HoldsBelow nodes f (index + 1)) (sym written)
                (holds_more nodes before index above c.loop-index-test.true named w.if-above-index.true (omega arith) held);
          }
      | else-above-index w ↦
          let same : c.if-above-index.flags.items ≡ before = ap (λ f. f.items) w.flags-is in
          record {
            size = ap length same ∙ size;
            held = subst (λ f. HoldsBelow nodes f (index + 1)) (sym same)
                (holds_same nodes before index above named w.if-above-index.false held);
          }
    ]

pub returns-clause-exact : goal.returns-clause-exact
returns-clause-exact c = holds_all _ _ c.loop-index.index (omega arith) c.loop-index.invariant.held
