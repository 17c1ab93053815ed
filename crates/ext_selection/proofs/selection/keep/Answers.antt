use Rattle.std.proofs.Common.{◌≡◌, ◌∙◌, ap, subst, arith}
use Rattle.ext_selection.proofs.Keeping.{IsSettled, settled_none, settled_all, settled_back}
use Rattle.ext_selection.proofs.selection.keep.Goals as goal

pub loop-index-init : goal.loop-index-init
loop-index-init c = record {
  size = c.requires.size;
  settled = settled_none _ _ _ _ (omega arith) c.requires.none;
}

pub loop-index-preserved : goal.loop-index-preserved
loop-index-preserved c = record {
  size = c.mark.auto.kept ∙ c.loop-index.invariant.size;
  settled = settled_back _ _ c.args.holders.now _ _ c.loop-index.index _ _ c.requires.holders (omega arith) (omega arith)
      c.loop-index.invariant.size (ap (λ n. n.above) c.node_at.ensures) c.is_kept-is_kept.ensures c.mark.ensures
      c.loop-index.invariant.settled;
}

pub returns : goal.returns
returns c = settled_all _ _ _
    (let at : c.loop-index.index ≡ 0 = omega arith in
    subst (IsSettled c.args.nodes.now c.args.wanted.now c.loop-index.kept) at c.loop-index.invariant.settled)
