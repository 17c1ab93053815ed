use Rattle.std.proofs.Common.{◌≡◌, ◌∙◌, ℕ, ◌+◌, ◌++◌, ◌∷◌, [], cond, ltb, List, length, ap, sym, subst, arith, rules}
use Rattle.std.specs.Prelude.{slice_index}
use Rattle.ext_selection.proofs.Ranks.{AreDepthsBelow, depths_none, depths_more, depths_all}
use Rattle.ext_selection.proofs.shuffling.depths.Goals as goal

pub loop-index-init : goal.loop-index-init
loop-index-init c = depths_none _ _ c.new-depths.ensures.items

pub loop-index-preserved : goal.loop-index-preserved
loop-index-preserved c =
    let nodes = c.args.nodes.now in
    let depths : List ℕ = c.loop-index.depths.items in
    let index = c.loop-index.index in
    let above = c.node_at.result.above in
    let depth = c.depth_below-depth.result in
    let seen : c.as_slice.result.now ≡ depths = c.as_slice.ensures.value in
    let is : depth ≡ cond (ltb above (length depths)) (slice_index depths above + 1) 0 =
    c.depth_below-depth.ensures ∙ ap (λ ds. cond (ltb above (length ds)) (slice_index ds above + 1) 0) seen in
    let pushed : c.push.new.self.items ≡ depths ++ depth ∷ [] = search rules in
    subst (λ ds. AreDepthsBelow nodes ds (index + 1)) (sym pushed)
    (depths_more nodes depths index above depth (ap (λ n. n.above) c.node_at.ensures) is c.loop-index.invariant)

pub returns : goal.returns
returns c = depths_all _ _ c.loop-index.index (omega arith) c.loop-index.invariant
