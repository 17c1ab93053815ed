use Rattle.std.proofs.Common.{◌∙◌, ap, length, sym}
use Rattle.ext_values.proofs.FlagBits.{length-flags}
use Rattle.ext_values.proofs.flag_bits.FlagBits.len.Goals as goal

pub returns : goal.returns
returns c = sym (length-flags c.self.inside.count c.self.inside.words.items) ∙ ap length c.self.view_is
