use Rattle.std.proofs.Common.{[]}
use Rattle.ext_locks.proofs.Texts.{text_at, twice_at, different_more, different_all}
use Rattle.ext_locks.proofs.names.first_twice.Goals as goal

pub returns-then-contains : goal.returns-then-contains
returns-then-contains c = twice_at c.args.names.now c.loop-at.at _ c.loop-at-test.true c.loop-at.invariant (text_at c.args.names.now c.loop-at.at _ [] c.loop-at-test.true) c.contains.result c.contains.ensures.cases c.if-contains.true

pub loop-at-preserved : goal.loop-at-preserved
loop-at-preserved c = different_more c.args.names.now c.loop-at.at _ c.loop-at-test.true c.loop-at.invariant (text_at c.args.names.now c.loop-at.at _ [] c.loop-at-test.true) c.contains.result c.contains.ensures.cases c.if-contains.false

pub returns : goal.returns
returns c = different_all c.args.names.now c.loop-at.at c.loop-at-test.false c.loop-at.invariant
