use Rattle.std.proofs.Common.{take}
use Rattle.std.specs.List.{AllZip}
use Rattle.ext_ids.specs.Grammar.{IsIdText}
use Rattle.ext_tree.specs.Keys as keys
use Rattle.ext_c.proofs.names.ids_of.Given as goal

abbrev pub invariant-loop-text : goal.invariant-loop-text
invariant-loop-text l = AllZip IsIdText (take l.text-index (keys.texts_of l.texts)) l.ids.items
