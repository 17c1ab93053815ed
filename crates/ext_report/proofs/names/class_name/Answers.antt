use Rattle.std.proofs.Common.{◌++◌, ◌∙◌, ap, arith, string_bytes}
use Rattle.ext_report.proofs.ClassNames.{first-value, no-value-left, value-more}
use Rattle.ext_report.proofs.names.class_name.Goals as goal

pub loop-further-init : goal.loop-further-init
loop-further-init c =
    first-value c.args.id.now (c.segment-2.result.0.now, c.segment-2.result.1.now) (string_bytes c.push_str-2.new.self) (omega (arith, c.len.ensures.id.some))
    c.segment-2.ensures (c.in_ok-push_str-2.ensures.bytes ∙ ap (λ empty. empty ++ c.segment-2.result.1.now) c.new-name.ensures.bytes)

pub loop-further-preserved : goal.loop-further-preserved
loop-further-preserved c =
    value-more c.args.id.now c.loop-further.further (c.segment-in-loop-further.result.0.now, c.segment-in-loop-further.result.1.now) (string_bytes c.loop-further.name) (string_bytes c.write_dotted.new.name)
    c.segment-in-loop-further.ensures c.in_ok-write_dotted.ensures c.loop-further.invariant

pub returns : goal.returns
returns c = no-value-left c.args.id.now c.loop-further.further (string_bytes c.loop-further.name) (omega arith) c.loop-further.invariant
