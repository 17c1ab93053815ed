use Rattle.std.proofs.Common.{◌≡◌, ℕ, List, drop, map}
use Rattle.std.specs.Prelude.{◌||◌}
use Rattle.ext_lint.specs.InnerLists.{has, said_view}
use Rattle.ext_lint.specs.Said.{is_said}
use Rattle.ext_lint.proofs.said_set.SaidSet.of.Given as goal

abbrev pub invariant-loop-one : goal.invariant-loop-one
invariant-loop-one l = (key : ℕ) (text : List ℕ) → is_said (map said_view l.said) key text ≡ (has l.set key text || is_said (map said_view (drop l.one-index l.said)) key text)
