use Rattle.ext_tree.proofs.KeyAgreeing.{Compared}
use Rattle.ext_tree.proofs.key_walk.agree_all.Given as goal

abbrev pub invariant-loop-index : goal.invariant-loop-index
invariant-loop-index l = Compared l.entries l.fn.entries l.others l.fn.others l.index
