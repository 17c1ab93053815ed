use Rattle.ext_tree.proofs.KeyTold.{tells}
use Rattle.ext_tree.proofs.key_entry.KeyEntry.ask.Goals as goal

pub returns-in-Some-clause-told : goal.returns-in-Some-clause-told
returns-in-Some-clause-told c = tells c.get.new.self.key c.in-Some.found.now c.args.key.now c.eq.result c.in-Some.ensures.found c.eq.ensures

pub returns-clause-told : goal.returns-clause-told
returns-clause-told c = tells c.offer.new.self.key c.offer.result.now c.args.key.now c.eq-2.result c.offer.ensures.found c.eq-2.ensures
