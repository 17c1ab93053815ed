use Rattle.std.proofs.Common.{◌≡◌, ◌++◌, take}
use Rattle.ext_tree.specs.Keys.{texts_of}
use Rattle.ext_tree.proofs.namespace.push_all.Given as goal

abbrev pub invariant-loop-part : goal.invariant-loop-part
invariant-loop-part l = l.list.items ≡ l.initial.list.items ++ texts_of (take l.part-index l.parts)
