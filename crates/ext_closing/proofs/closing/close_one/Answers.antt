use Rattle.std.proofs.Common.{sym}
use Rattle.ext_closing.proofs.Calling.{closes_more, closes_no_more}
use Rattle.ext_closing.proofs.Faults.{counted_more}
use Rattle.ext_closing.proofs.closing.close_one.Goals as goal

pub returns-then-closeable-clause-closes : goal.returns-then-closeable-clause-closes
returns-then-closeable-clause-closes g c = λ numbers first so_far.
    closes_more g.V.StoreValue.is_closeable g.A.CloseAction.close_gives c.args.lanes.now numbers c.args.number first c.args.action.now c.close.new.self c.args.closed.now c.add.new.self
    c.known_value-value.result.now c.known_value-value.ensures.value so_far c.close.result (sym c.if-closeable.ensures) c.close.ensures
    (λ answers. counted_more c.args.closed.now c.add.new.self answers c.close.result c.fault_in.result c.fault_in.ensures c.add.ensures.counted)

pub returns-else-closeable-clause-closes : goal.returns-else-closeable-clause-closes
returns-else-closeable-clause-closes g c = λ numbers first so_far.
    closes_no_more g.V.StoreValue.is_closeable g.A.CloseAction.close_gives c.args.lanes.now numbers c.args.number first c.args.action.now c.args.closed.now
    c.known_value-value.result.now c.known_value-value.ensures.value (sym c.if-closeable.ensures) so_far
