-- What the traits `PartialEq`, `Eq` and `Hash` ask for beside their function: that equality is an equivalence, and that
-- equal values have equal hashes. A reader has nothing to judge here: the clause `same` of each type says that `==` is
-- equality of values.
use Rattle.std.specs.Prelude.{Bool, ◌&&◌, ◌++◌, List}
use Rattle.std.specs.Bool.{beq}
use Rattle.std.specs.Str.{bytes_eq}
use Rattle.std.specs.Cmp.{IsEquivalence, and_equiv, on_equiv, bool_eq_equiv, booleans_Decides}
use Rattle.std.specs.Cmp.Lexicographic.{pointwise, lists_equiv, nat_list_eq_equiv, bytes_decides}
use Rattle.std.specs.Hash.{HashWrites, Alike, and-Alike, on_Alike, same_Alike, items_Alike}
use Rattle.std.specs.Hash as fed
use Rattle.ext_ids.specs.Grammar.{Pair}
use Rattle.ext_ids.specs.Ids.{pair_eq}
use Rattle.ext_tree.specs.Keys.{NamespaceValue, KeyValue}

abbrev pub namespace_eq : NamespaceValue → NamespaceValue → Bool
namespace_eq m n = beq m.created n.created && pointwise bytes_eq m.parts n.parts

abbrev pub namespace_eq_equiv : IsEquivalence namespace_eq
namespace_eq_equiv = and_equiv (on_equiv (λ n. n.created) bool_eq_equiv)
    (on_equiv (λ n. n.parts) (lists_equiv nat_list_eq_equiv))

abbrev pub namespace_input : NamespaceValue → HashWrites
namespace_input n = fed.bool n.created ++ fed.slice fed.str n.parts

pub texts_Alike : Alike bytes_eq fed.str
texts_Alike = same_Alike fed.str bytes_decides

pub namespaces_Alike : Alike namespace_eq namespace_input
namespaces_Alike = and-Alike (on_Alike (λ n. n.created) (same_Alike fed.bool booleans_Decides))
    (on_Alike (λ n. n.parts) (items_Alike texts_Alike))

abbrev pub key_eq : KeyValue → KeyValue → Bool
key_eq j k = namespace_eq j.namespace k.namespace && bytes_eq j.name k.name

abbrev pub key_eq_equiv : IsEquivalence key_eq
key_eq_equiv = and_equiv (on_equiv (λ k. k.namespace) namespace_eq_equiv) (on_equiv (λ k. k.name) nat_list_eq_equiv)

abbrev pub key_input : KeyValue → HashWrites
key_input k = namespace_input k.namespace ++ fed.str k.name

pub keys_Alike : Alike key_eq key_input
keys_Alike = and-Alike (on_Alike (λ k. k.namespace) namespaces_Alike) (on_Alike (λ k. k.name) texts_Alike)

abbrev pub trail_input : List Pair → HashWrites
trail_input = fed.slice (λ p. fed.str p.0 ++ fed.str p.1)

pub trails_Alike : Alike (pointwise pair_eq) trail_input
trails_Alike = items_Alike (and-Alike (on_Alike (λ p. p.0) texts_Alike) (on_Alike (λ p. p.1) texts_Alike))
