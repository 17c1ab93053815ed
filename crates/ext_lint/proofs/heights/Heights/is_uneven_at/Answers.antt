use Rattle.std.proofs.Common.{rules}
use Rattle.ext_lint.specs.Heights.{is_uneven_at}
use Rattle.ext_lint.proofs.heights.Heights.is_uneven_at.Goals as goal

pub returns-then-saturating_sub-depth_of : goal.returns-then-saturating_sub-depth_of
unfolding is_uneven_at
returns-then-saturating_sub-depth_of c = search rules

pub returns-else-saturating_sub-depth_of : goal.returns-else-saturating_sub-depth_of
unfolding is_uneven_at
returns-else-saturating_sub-depth_of c = search rules
