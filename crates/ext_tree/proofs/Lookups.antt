-- From the answers of the table of ids to what stands before an id.
use Rattle.std.proofs.Common.{◌≡◌, ◌<◌, ◌+◌, ◌-◌, ℕ, Bool, List, [], ◌∷◌, ◌++◌, length, take, get_or, slice_get, Option, Some, None, Contains, IsTrue, ◌↔◌, true, false, true≢false, refl, ap, sym, ◌∙◌, arith}
use Rattle.std.specs.List.{list_any, IsAnyAnswer}
use Rattle.std.specs.Cmp.Lexicographic.{pointwise, lists_equiv}
use Rattle.std.proofs.lemmas.List.{get_or_default, get_or-take, length-take-le, take_more, take_all, length_push}
use Rattle.std.proofs.Math.Seq.{take-append_seam}
use Rattle.std.proofs.lemmas.Option.{get_or_from_slice_get, slice_get_within}
use Rattle.std.proofs.lemmas.Map.Views.{list_any-from_Contains}
use Rattle.indexmap.specs.IndexSet.{insert_key}
use Rattle.indexmap.proofs.CallerLemmas.{Contains-list_any}
use Rattle.ext_ids.specs.Grammar.{Pair}
use Rattle.ext_ids.specs.Ids.{pair_eq}
use Rattle.ext_ids.specs.InnerTraits.{pair_eq_equiv}
use Rattle.ext_ids.proofs.Pairs.{ids_Decides, last_of}
use Rattle.ext_tree.specs.Trees.{Id, id_at, StandsBefore}
use Rattle.ext_tree.specs.InnerBuilding.{IsParentBefore}
use Rattle.ext_tree.proofs.Numbers.{IsPlace, inserted}

-- one more segment of an id
pub pushed : (id before after : List Pair) (i : ℕ) (kind value k v : List ℕ) → slice_get id i ≡ Some (k, v) → kind ≡ k → value ≡ v → before ≡ take i id
    → after ≡ before ++ (kind, value) ∷ [] → after ≡ take (i + 1) id
pushed id before after i kind value k v at same_kind same_value front grown =
    let pair : (kind, value) ≡ get_or id i (k, v) = (λ j. (same_kind j, same_value j)) ∙ sym (get_or_from_slice_get id i (k, v) (k, v) at) in
    grown ∙ (λ j. front j ++ pair j ∷ []) ∙ sym (take_more id i (k, v) (slice_get_within id i (k, v) at))

-- all but the last segment, and that one
pub whole : (id : Id) → 0 < length id → take (length id - 1 + 1) id ≡ id
whole id some = take_all (length id - 1 + 1) id (omega arith)

module _ (ids : List Id) (at : ℕ) (within : at < length ids) where
  stands_to : (x : Id) → Contains (take at ids) x → (j : ℕ) × (j < at) × (id_at ids j ≡ x)
  stands_to x (j, less, e) =
      let count : length (take at ids) ≡ at = length-take-le at ids (omega (arith, within)) in
      let inside : j < at = omega (arith, less, count) in
      (j, inside, sym (get_or-take at ids j [] inside) ∙ get_or_default (take at ids) j [] x less ∙ e)

  stands_from : (x : Id) (j : ℕ) → j < at → id_at ids j ≡ x → Contains (take at ids) x
  stands_from x j inside e =
      let count : length (take at ids) ≡ at = length-take-le at ids (omega (arith, within)) in
      let less : j < length (take at ids) = omega (arith, inside, count) in
      (j, less, get_or_default (take at ids) j x [] less ∙ get_or-take at ids j [] inside ∙ e)

  pub stands_judged : (x : Id) (b : Bool) → x ≡ id_at ids at → b ≡ list_any (pointwise pair_eq x) (take at ids) → IsTrue b ↔ StandsBefore ids at
  stands_judged x b e is = (
    λ h. let s = stands_to x (Contains-list_any (pointwise pair_eq) (λ p q. (ids_Decides p q).0) (take at ids) x (sym is ∙ h)) in (s.0, s.1, s.2 ∙ e),
    λ (j, less, same). is ∙ list_any-from_Contains (lists_equiv pair_eq_equiv) x (take at ids) (stands_from x j less (same ∙ sym e)),
  )

  pub stands_said : (x : Id) (b : Bool) → x ≡ id_at ids at → IsAnyAnswer (λ y b. pointwise pair_eq y x ≡ b) (take at ids) b → IsTrue b ↔ StandsBefore ids at
  stands_said x true e (k, less, h) = (λ _. let s = stands_to x (k, less, (ids_Decides (get_or (take at ids) k x) x).0 (h x)) in (s.0, s.1, s.2 ∙ e), λ _. refl)
  stands_said x false e none = (
    λ t. absurd (true≢false (sym t)),
    λ (j, less, same). let s = stands_from x j less (same ∙ sym e) in
        absurd (true≢false (sym ((ids_Decides (get_or (take at ids) s.0 x) x).1 s.2) ∙ none s.0 x (omega arith) s.1)),
  )

  pub parent_judged : (x : Id) (r : Option ℕ) → 0 < length (id_at ids at) → x ≡ take (length (id_at ids at) - 1) (id_at ids at) → IsPlace (take at ids) x r → IsParentBefore ids at r
  unfolding stands_to
  parent_judged x None some e p = λ (j, less, (q, is)).
      let count : length (id_at ids at) - 1 ≡ length (id_at ids j) = (let long = ap length is ∙ length_push (id_at ids j) q in omega (arith, long)) in
      let front : x ≡ id_at ids j = e ∙ ap (λ n. take n (id_at ids at)) count ∙ ap (take (length (id_at ids j))) is ∙ take-append_seam (id_at ids j) (q ∷ []) in
      p.absent.0 refl (stands_from x j less (sym front))
  parent_judged x (Some n) some e p =
      let place = p.number n refl in
      let s = stands_to x (n, slice_get_within (take at ids) n x place, get_or_from_slice_get (take at ids) n x x place) in
      let l = last_of (id_at ids at) (omega (arith, some)) in
      (s.1, (l.last, l.is ∙ ap (λ xs. xs ++ l.last ∷ []) (sym e ∙ sym s.2)))

  -- a new id goes to the end of the table
  pub entered : (x : Id) → x ≡ id_at ids at → ¬ StandsBefore ids at → insert_key (pointwise pair_eq) (take at ids) x ≡ take (at + 1) ids
  entered x e fresh =
      inserted (pointwise pair_eq) ids_Decides (lists_equiv pair_eq_equiv) (take at ids) x (λ k. let s = stands_to x k in fresh (s.0, s.1, s.2 ∙ e))
      ∙ ap (λ y. take at ids ++ y ∷ []) e ∙ sym (take_more ids at [] within)
