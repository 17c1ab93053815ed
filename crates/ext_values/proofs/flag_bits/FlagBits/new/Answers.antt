use Rattle.std.proofs.Common.{◌∙◌, ap}
use Rattle.ext_values.specs.InnerFlags.{flags_of}
use Rattle.ext_values.proofs.FlagBits.{none_set}
use Rattle.ext_values.proofs.flag_bits.FlagBits.new.Goals as goal

pub returns : goal.returns
returns c =
    ap (λ l. flags_of c.args.count l) (c.in_ok-words.ensures.items_if_clones_equal (λ y same. same))
    ∙ none_set c.args.count c.div_ceil.result c.div_ceil.ensures
