use Rattle.std.proofs.Common.{◌<◌, ◌≤◌, ap, arith, get_or, length}
use Rattle.ext_tree.proofs.KeyPlacing.{read_again}
use Rattle.ext_tree.proofs.KeyAgreeing.{compared_all, compared_more, same_place_so_far}
use Rattle.ext_tree.proofs.key_walk.agree_all.Goals as goal

pub agree-requires : goal.agree-requires
agree-requires c =
    let still = ap length c.loop-index.invariant.notes in
    let below : c.loop-index.index < length c.loop-index.entries = omega (arith, still, c.loop-index-test.true) in
    same_place_so_far c.loop-index.entries c.args.entries.now c.loop-index.others c.args.others.now c.loop-index.index c.loop-index.invariant c.requires below
    (get_or c.loop-index.entries c.loop-index.index c.index-entries-index.result) (get_or c.loop-index.others c.loop-index.index c.index-others-index.result)
    (read_again c.loop-index.entries c.loop-index.index c.index-entries-index.result c.index-entries-index.is) (read_again c.loop-index.others c.loop-index.index c.index-others-index.result c.index-others-index.is)

pub loop-index-preserved : goal.loop-index-preserved
loop-index-preserved c =
    let still = ap length c.loop-index.invariant.notes in
    let below : c.loop-index.index < length c.loop-index.entries = omega (arith, still, c.loop-index-test.true) in
    compared_more c.loop-index.entries c.args.entries.now c.loop-index.others c.args.others.now c.loop-index.index c.loop-index.invariant c.requires below
    (get_or c.loop-index.entries c.loop-index.index c.index-entries-index.result) (get_or c.loop-index.others c.loop-index.index c.index-others-index.result)
    (read_again c.loop-index.entries c.loop-index.index c.index-entries-index.result c.index-entries-index.is) (read_again c.loop-index.others c.loop-index.index c.index-others-index.result c.index-others-index.is)
    c.agree.new.self c.agree.new.other c.agree.ensures.key c.agree.ensures.unchanged c.agree.ensures.place c.agree.ensures.kept c.agree.ensures.taught c.agree.ensures.placed

pub returns-clause-taught : goal.returns-clause-taught
returns-clause-taught c =
    let still = ap length c.loop-index.invariant.notes in
    let all : length c.args.entries.now ≤ c.loop-index.index = omega (arith, still, c.loop-index-test.false) in
    compared_all c.loop-index.entries c.args.entries.now c.loop-index.others c.args.others.now c.loop-index.index all c.requires c.loop-index.invariant
