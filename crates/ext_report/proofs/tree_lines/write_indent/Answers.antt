use Rattle.std.proofs.Common.{string_bytes}
use Rattle.ext_report.proofs.Indents.{no-indent, indent-more}
use Rattle.ext_report.proofs.tree_lines.write_indent.Goals as goal

pub loop-init : goal.loop-init
loop-init c = no-indent (string_bytes c.args.text.now)

pub loop-preserved : goal.loop-preserved
loop-preserved c =
    indent-more (string_bytes c.args.text.now) (string_bytes c.loop.text) (string_bytes c.push_str.new.self) c.loop.counter c.loop.invariant c.in_ok-push_str.ensures.bytes
