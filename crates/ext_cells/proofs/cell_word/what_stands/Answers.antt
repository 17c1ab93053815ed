use Rattle.ext_cells.proofs.Readings.{value_told, nothing_told}
use Rattle.ext_cells.proofs.cell_word.what_stands.Goals as goal

pub returns-then-word-eq2-clause-says : goal.returns-then-word-eq2-clause-says
returns-then-word-eq2-clause-says c stands version fits is = value_told stands c.args.word c.number_in.result version fits is c.if-word-eq2.true c.number_in.ensures

pub returns-then-is_empty-clause-says : goal.returns-then-is_empty-clause-says
returns-then-is_empty-clause-says c stands version fits is = nothing_told stands c.args.word version is (c.is_empty.ensures.0 c.if-is_empty.true)
