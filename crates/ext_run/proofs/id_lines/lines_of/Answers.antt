use Rattle.std.proofs.Common.{append_assoc}
use Rattle.ext_run.proofs.Elements.{drop_found}
use Rattle.ext_run.proofs.id_lines.lines_of.Goals as goal

pub loop-i-preserved : goal.loop-i-preserved
loop-i-preserved c =
    let more = drop_found c.args.id.now c.loop-i.i (c.segment.result.0.now, c.segment.result.1.now) c.segment.ensures in
    let before = rw more at c.loop-i.invariant in
    rw (c.in_ok-write_pair.ensures, append_assoc) before
