use Rattle.std.proofs.Common.{ℕ, length}
use Rattle.ext_store_core.proofs.trail.+are_different.Given as goal

abbrev pub decreases-are_different : goal.decreases-are_different
decreases-are_different l = length l.path.now
