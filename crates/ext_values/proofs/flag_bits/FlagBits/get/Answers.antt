use Rattle.std.proofs.Common.{arith}
use Rattle.ext_values.proofs.FlagBits.{word_within, flag_read}
use Rattle.ext_values.proofs.flag_bits.FlagBits.get.Goals as goal

pub index-requires : goal.index-requires
index-requires c =
    let there = word_within c.self.inside.count c.self.inside.words.items c.args.self.now c.self.view_is c.self.invariant c.args.index c.requires in omega arith

pub returns : goal.returns
returns c = flag_read c.self.inside.count c.self.inside.words.items c.args.self.now c.self.view_is c.self.invariant c.args.index c.requires c.index.result.now c.index.ensures
