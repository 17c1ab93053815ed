use Rattle.std.proofs.Common.{arith}
use Rattle.ext_values.proofs.FlagBits.{word_within, flag_set}
use Rattle.ext_values.proofs.flag_bits.FlagBits.set.Goals as goal

pub index_mut-requires : goal.index_mut-requires
index_mut-requires c =
    let there = word_within c.self.inside.count c.self.inside.words.items c.args.self.now c.self.view_is c.self.invariant c.args.index c.requires in omega arith

pub returns : goal.returns
returns c = flag_set c.self.inside.count c.self.inside.words.items c.args.self.now c.self.view_is c.self.invariant c.args.index c.requires c.index_mut.result.now c.index_mut.ensures.value
