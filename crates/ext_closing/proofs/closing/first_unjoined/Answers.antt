use Rattle.std.proofs.Common.{below_more}
use Rattle.ext_closing.proofs.Joining.{all_joined, greatest}
use Rattle.ext_closing.proofs.closing.first_unjoined.Goals as goal

pub returns-then-not-is_joined-clause-unjoined : goal.returns-then-not-is_joined-clause-unjoined
returns-then-not-is_joined-clause-unjoined g c =
    greatest c.args.lanes.now c.args.numbers.now c.loop-number.number-index c.requires c.loop-number-test.true c.loop-number.invariant (c.is_joined.ensures.unknown c.if-not-is_joined.true)

pub loop-number-preserved : goal.loop-number-preserved
loop-number-preserved g c = below_more _ _ c.loop-number.invariant (c.is_joined.ensures.joined c.if-not-is_joined.false)

pub returns-clause-joined : goal.returns-clause-joined
returns-clause-joined g c = all_joined c.args.lanes.now c.args.numbers.now c.loop-number.number-index c.loop-number-test.false c.loop-number.invariant
