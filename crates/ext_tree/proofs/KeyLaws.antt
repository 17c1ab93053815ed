-- The laws of namespaces, numbers of keys and cells.
use Rattle.std.proofs.Common.{◌≡◌, ℕ, ◌+◌, ◌*◌, ◌<◌, ◌≤◌, inl, inr, arith, ap, sym, ◌∙◌, refl, true≢false, append_assoc, mul-le-mul_right, add-mul, one-mul}
use Rattle.std.proofs.lemmas.Bool.{cases_order}
use Rattle.std.proofs.lemmas.Option.{get_or_from_slice_get}
use Rattle.ext_tree.specs.TreeLaws.{NumbersTell, CellsTell, NamespacesTell}
use Rattle.ext_tree.proofs.Numbers.{one_place}

pub numbers_tell : NumbersTell
numbers_tell = record {
  one_number = λ keys key number second different. one_place keys different key number second;
  one_key = λ keys key other number h g. sym (get_or_from_slice_get keys number key key h) ∙ get_or_from_slice_get keys number other key g;
}

below : (keys context key context' key' : ℕ) → key < keys → context < context' → context * keys + key ≡ context' * keys + key' → ⊥
below keys context key context' key' p less e =
    let m : (context + 1) * keys ≤ context' * keys = mul-le-mul_right keys (omega (arith, less)) in
    let s : (context + 1) * keys ≡ context * keys + 1 * keys = add-mul context 1 keys in
    omega (arith, m, s, one-mul keys)

pub cells_tell : CellsTell
cells_tell keys context key context' key' p q e =
    elim (cases_order context context') [
      | inl same ↦ (same, omega (arith, ap (λ c. c * keys) same))
      | inr (inl less) ↦ absurd (below keys context key context' key' p less e)
      | inr (inr less) ↦ absurd (below keys context' key' context key q less (omega arith))
    ]

pub namespaces_tell : NamespacesTell
namespaces_tell = record {
  step_by_step = λ namespace first second. λ i. record { created = namespace.created; parts = append_assoc namespace.parts first second i };
  created = λ first second. refl;
  global_apart = λ parts created e. true≢false (sym (ap (λ n. n.created) e));
}
