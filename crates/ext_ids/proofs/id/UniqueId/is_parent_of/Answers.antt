use Rattle.std.proofs.Common.{◌≡◌, ◌∙◌, ap, arith, length}
use Rattle.ext_ids.proofs.Pairs.{Child, child_of}
use Rattle.ext_ids.proofs.id.UniqueId.is_parent_of.Goals as goal

child : (c : goal.After-eq) → Child c.args.self.now c.args.other.now c.eq.result
child c =
    let own : c.as_slice-in-len1-up.result.now ≡ c.args.self.now = c.as_slice-in-len1-up.ensures.value ∙ c.self.view_is in
    let others : c.as_slice.result.now ≡ c.args.other.now = c.as_slice.ensures.value ∙ c.other.view_is in
    child_of c.args.self.now c.args.other.now c.eq.result (omega (arith, ap length others)) (rw (own, others) at c.eq.ensures)

pub returns-in-len1-up-clause-exact : goal.returns-in-len1-up-clause-exact
returns-in-len1-up-clause-exact c = let h = child c in h.exact

pub returns-in-len1-up-clause-child : goal.returns-in-len1-up-clause-child
returns-in-len1-up-clause-child c = let h = child c in h.decides
