use Rattle.std.proofs.Common.{◌≡◌, ◌↔◌, sym, subst, bit_and, nat_eq, true}
use Rattle.ext_cells.specs.Standings.{Open}
use Rattle.ext_cells.specs.InnerMarks.{standing_in}
use Rattle.ext_cells.proofs.MarkedBlocks.{open_told}
use Rattle.ext_cells.proofs.marks.is_open.Goals as goal

pub returns : goal.returns
returns c = record { told = λ cell is. subst (λ bits. (nat_eq (bit_and c.args.block bits) 0 ≡ true) ↔ (standing_in c.args.block cell ≡ Open)) (sym is) (open_told c.args.block cell) }
