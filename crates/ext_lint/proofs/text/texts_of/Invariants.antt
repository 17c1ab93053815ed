use Rattle.std.proofs.Common.{◌≡◌, ◌++◌, drop, map}
use Rattle.ext_lint.specs.InnerLists.{said_view}
use Rattle.ext_lint.specs.NoteLines.{texts_of}
use Rattle.ext_lint.proofs.text.texts_of.Given as goal

abbrev pub invariant-loop-said : goal.invariant-loop-said
invariant-loop-said l = texts_of l.key (map said_view l.stored) ≡ map (λ t. t.now) l.texts.items ++ texts_of l.key (map said_view (drop l.said-index l.stored))
