use Rattle.std.proofs.Common.{ap, ◌∙◌, bit_and, nat_lt}
use Rattle.ext_cells.proofs.MarkedBlocks.{mark_told}
use Rattle.ext_cells.proofs.marks.is_marked.Goals as goal

pub returns : goal.returns
returns c = record { mark = λ cell is. ap (λ bits. nat_lt 1 (bit_and c.args.block bits)) is ∙ mark_told c.args.block cell }
