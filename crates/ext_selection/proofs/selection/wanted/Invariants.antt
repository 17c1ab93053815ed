use Rattle.std.proofs.Common.{◌≡◌, take}
use Rattle.ext_selection.specs.Selection.{wanted_of}
use Rattle.ext_selection.proofs.selection.wanted.Given as goal

abbrev pub invariant-loop-id : goal.invariant-loop-id
invariant-loop-id l = l.flags.items ≡ wanted_of l.selection (take l.id-index l.ids)
