use Rattle.std.proofs.Common.{◌∙◌}
use Rattle.ext_locks.proofs.Seats.{opens_zero}
use Rattle.ext_locks.proofs.locks.zero_table.Goals as goal

pub of_words-requires : goal.of_words-requires
of_words-requires c = opens_zero _ _ _ c.requires (c.as_slice.ensures.value ∙ c.in_ok-zeros.ensures)
