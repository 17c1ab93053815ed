use Rattle.std.proofs.Common.{◌-◌, refl, string_bytes}
use Rattle.ext_report.proofs.Indents.{head-written}
use Rattle.ext_report.proofs.tree_lines.write_head.Goals as goal

pub returns : goal.returns
returns c =
    head-written c.args.id.now c.len-last.result (c.len-last.result - 1) (c.segment.result.0.now, c.segment.result.1.now) (string_bytes c.args.text.now) (string_bytes c.write_indent.new.text)
    (string_bytes c.write_segment.new.text) c.len-last.ensures.count refl c.segment.ensures c.in_ok-write_indent.ensures c.in_ok-write_segment.ensures
