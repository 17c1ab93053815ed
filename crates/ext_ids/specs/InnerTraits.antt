-- What the traits `PartialEq` and `Eq` ask for beside their function: that it is an equivalence. A reader has nothing
-- to judge here.
use Rattle.std.specs.Cmp.{IsEquivalence, and_equiv, on_equiv}
use Rattle.std.specs.Cmp.Lexicographic.{nat_list_eq_equiv}
use Rattle.ext_ids.specs.Ids.{pair_eq}

abbrev pub pair_eq_equiv : IsEquivalence pair_eq
pair_eq_equiv = and_equiv (on_equiv (λ p. p.0) nat_list_eq_equiv) (on_equiv (λ p. p.1) nat_list_eq_equiv)
