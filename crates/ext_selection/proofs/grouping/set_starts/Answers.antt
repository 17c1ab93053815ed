use Rattle.std.proofs.Common.{ℕ, List, get_or, arith}
use Rattle.std.proofs.lemmas.Option.{slice_get-get_or}
use Rattle.ext_selection.proofs.Starts.{starts_none, starts_more, starts_all}
use Rattle.ext_selection.proofs.grouping.set_starts.Goals as goal

pub loop-index-init : goal.loop-index-init
loop-index-init c = starts_none _ _ _ _ c.requires.starts c.requires.ends

pub loop-index-preserved : goal.loop-index-preserved
loop-index-preserved c =
    let order : List ℕ = c.args.order.now in
    let i : ℕ = c.loop-index.index-index in
    starts_more c.args.nodes.now order c.loop-index.starts c.loop-index.ends c.set_start.new.starts c.set_start.new.ends i
    (get_or order i 0) c.requires.behind (slice_get-get_or order i 0 c.loop-index-test.true) c.set_start.ensures
    c.loop-index.invariant

pub returns : goal.returns
returns c = starts_all _ _ _ c.loop-index.ends c.loop-index.index-index (omega arith) c.loop-index.invariant
