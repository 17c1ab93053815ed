use Rattle.std.proofs.Common.{subst, List}
use Rattle.ext_tree.specs.Keys.{KeyValue, AreDifferent}
use Rattle.ext_tree.specs.Traits.{key_eq, key_eq_equiv}
use Rattle.ext_tree.proofs.Equalities.{keys_Decides}
use Rattle.ext_tree.proofs.Numbers.{IsPlace, place_of, if_number}
use Rattle.ext_tree.proofs.directory.Directory.number_of.Goals as goal

place : (c : goal.After-get_index_of) → IsPlace c.args.self.now c.args.key.now c.get_index_of.result
place c = let P : List KeyValue → Type 0 = λ keys. IsPlace keys c.args.key.now c.get_index_of.result in
    subst P c.self.view_is (place_of key_eq keys_Decides key_eq_equiv c.self.inside.keys.keys c.args.key.now c.get_index_of.result c.get_index_of.ensures.index c.get_index_of.ensures.found)

pub returns-clause-number : goal.returns-clause-number
returns-clause-number c = if_number c.args.self.now c.args.key.now c.get_index_of.result (place c)

pub returns-clause-found : goal.returns-clause-found
returns-clause-found c = let p = place c in p.found (subst AreDifferent c.self.view_is c.self.invariant.1)

pub returns-clause-absent : goal.returns-clause-absent
returns-clause-absent c = let p = place c in p.absent
