use Rattle.std.proofs.Common.{◌∙◌, sym}
use Rattle.ext_report.proofs.Types.{no-type-more, type-found}
use Rattle.ext_report.proofs.reserve.has_type.Goals as goal

pub loop-i-preserved : goal.loop-i-preserved
loop-i-preserved c =
    no-type-more c.args.id.now c.loop-i.i (c.segment.result.0.now, c.segment.result.1.now) c.args.kind.now c.segment.ensures (sym c.eq.ensures ∙ c.if-eq.false) c.loop-i.invariant

pub returns-then-eq : goal.returns-then-eq
returns-then-eq c =
    sym (type-found c.args.id.now c.loop-i.i (c.segment.result.0.now, c.segment.result.1.now) c.args.kind.now c.segment.ensures (sym c.eq.ensures ∙ c.if-eq.true))
