use Rattle.std.proofs.Common.{◌≡◌, ◌++◌, drop, map}
use Rattle.ext_lint.specs.InnerLists.{said_view}
use Rattle.ext_lint.proofs.text.names_of.Given as goal

abbrev pub invariant-loop-said : goal.invariant-loop-said
invariant-loop-said l = map (λ s. s.name) (map said_view l.stored) ≡ map (λ t. t.now) l.names.items ++ map (λ s. s.name) (map said_view (drop l.said-index l.stored))
