use Rattle.std.proofs.Common.{◌∙◌, refl}
use Rattle.ext_ids.proofs.id.UniqueId.write.Goals as goal

pub returns-clause-spelled : goal.returns-clause-spelled
returns-clause-spelled c = record {
  id = rw (← c.self.view_is) c.self.invariant;
  spells = c.in_ok-write_to.ensures ∙ rw c.new-text.ensures.bytes refl;
}
