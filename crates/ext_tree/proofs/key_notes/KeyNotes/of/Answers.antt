use Rattle.std.proofs.Common.{arith, ◌≡◌, length}
use Rattle.ext_tree.proofs.KeyIndexing.{nothing_indexed}
use Rattle.ext_tree.proofs.key_notes.KeyNotes.of.Goals as goal

pub invariant_of-result : goal.invariant_of-result
invariant_of-result c =
    let long : c.len.result ≡ length c.args.entries.items = omega arith in
    nothing_indexed c.args.entries.items c.in_ok-index.index.hints.items c.len.result c.in_ok-index.index.next c.requires long c.in_ok-index.ensures.hints c.in_ok-index.ensures.next
