use Rattle.std.proofs.Common.{◌≡◌, ◌+◌, ◌≤◌, ◌++◌, ◌∷◌, [], ◌∙◌, ap, length, Contains, arith}
use Rattle.std.proofs.lemmas.List.{length_push}
use Rattle.ext_tree.specs.Traits.{key_eq, key_eq_equiv}
use Rattle.ext_tree.proofs.Equalities.{keys_Decides}
use Rattle.ext_tree.proofs.Numbers.{inserted, last_number, different_with}
use Rattle.ext_tree.proofs.directory.Directory.declare.Goals as goal

missing : (c : goal.In_ok-insert) → Contains c.self.inside.keys.keys c.args.key → ⊥
missing c = rw (← c.self.view_is) at (c.number_of.ensures.absent.0 c.in_default.is)

grown : (c : goal.In_ok-insert) → c.insert.new.self.keys ≡ c.self.inside.keys.keys ++ c.args.key ∷ []
grown c = c.in_ok-insert.ensures.keys ∙ inserted key_eq keys_Decides key_eq_equiv c.self.inside.keys.keys c.args.key (missing c)

pub invariant_of-self-2 : goal.invariant_of-self-2
invariant_of-self-2 c =
    let few : length c.self.inside.keys.keys + 1 ≤ 1024 = omega (arith, c.requires, c.len-number.ensures.len, c.if-number-most.false) in
    rw (grown c) (omega (arith, few, length_push c.self.inside.keys.keys c.args.key), different_with c.self.inside.keys.keys c.args.key c.self.invariant.1 (missing c))

pub returns-clause-number : goal.returns-clause-number
returns-clause-number c = rw (grown c, c.len-number.ensures.len) (last_number c.self.inside.keys.keys c.args.key)

pub returns-clause-added : goal.returns-clause-added
returns-clause-added c = λ _. (c.len-number.ensures.len ∙ ap length c.self.view_is, grown c ∙ ap (λ keys. keys ++ c.args.key ∷ []) c.self.view_is)
