-- `==` of namespaces and of keys is equality of their values.
use Rattle.std.proofs.Common.{◌≡◌, Bool, true, List, ℕ, refl, ap, sym, ◌∙◌}
use Rattle.std.specs.Bool.{Decides, beq}
use Rattle.std.specs.Cmp.{booleans_Decides}
use Rattle.std.specs.Cmp.Lexicographic.{pointwise}
use Rattle.std.specs.Str.{bytes_eq}
use Rattle.std.proofs.lemmas.Bool.{and_parts}
use Rattle.std.proofs.lemmas.Slice.Eq.{bytes_eq-Decides, slice_eq-Decides}
use Rattle.ext_tree.specs.Keys.{NamespaceValue, KeyValue}
use Rattle.ext_tree.specs.Traits.{namespace_eq, key_eq}

parts_Decides : (xs ys : List (List ℕ)) → Decides (pointwise bytes_eq xs ys) (xs ≡ ys)
parts_Decides xs ys = slice_eq-Decides bytes_eq-Decides xs ys (pointwise bytes_eq xs ys) refl

pub namespaces_Decides : (m n : NamespaceValue) → Decides (namespace_eq m n) (m ≡ n)
namespaces_Decides m n = (
  λ h.
      let parts = and_parts (beq m.created n.created) (pointwise bytes_eq m.parts n.parts) h in
      let created : m.created ≡ n.created = (booleans_Decides m.created n.created).0 parts.0 in
      let texts : m.parts ≡ n.parts = (parts_Decides m.parts n.parts).0 parts.1 in
      λ i. record { created = created i; parts = texts i },
  λ e.
      let created : beq m.created n.created ≡ true = (booleans_Decides m.created n.created).1 (ap (λ v. v.created) e) in
      let texts : pointwise bytes_eq m.parts n.parts ≡ true = (parts_Decides m.parts n.parts).1 (ap (λ v. v.parts) e) in
      rw (created, texts) refl,
)

pub keys_Decides : (j k : KeyValue) → Decides (key_eq j k) (j ≡ k)
keys_Decides j k = (
  λ h.
      let parts = and_parts (namespace_eq j.namespace k.namespace) (bytes_eq j.name k.name) h in
      let namespace : j.namespace ≡ k.namespace = (namespaces_Decides j.namespace k.namespace).0 parts.0 in
      let name : j.name ≡ k.name = (bytes_eq-Decides j.name k.name).0 parts.1 in
      λ i. record { namespace = namespace i; name = name i },
  λ e.
      let namespace : namespace_eq j.namespace k.namespace ≡ true = (namespaces_Decides j.namespace k.namespace).1 (ap (λ v. v.namespace) e) in
      let name : bytes_eq j.name k.name ≡ true = (bytes_eq-Decides j.name k.name).1 (ap (λ v. v.name) e) in
      rw (namespace, name) refl,
)

pub decides_by : (m n : NamespaceValue) (r : Bool) → r ≡ namespace_eq m n → Decides r (m ≡ n)
decides_by m n r e = let d = namespaces_Decides m n in (λ h. d.0 (sym e ∙ h), λ h. e ∙ d.1 h)
