-- Names of locks: in a list as references show them, and each once.
use Rattle.std.proofs.Common.{◌≡◌, ℕ, true, false, List, [], ◌∷◌, ◌++◌, ◌∙◌, map, ap, refl, sym, subst, arith, inl, inr, ◌≢◌}
use Rattle.std.proofs.lemmas.Bool.{cases_Bool}
use Rattle.std.proofs.lemmas.List.Folds.{list_any_at}
use Rattle.std.proofs.lemmas.Slice.Eq.{bytes_eq-Decides}
use Rattle.ext_tree.proofs.Numbers.{different_with}
use Rattle.std.proofs.lemmas.List.{map-append}
use Rattle.std.specs.Prelude.{◌||◌, if◌then◌else◌, AllPairs, Contains, fold, get_or}
use Rattle.std.specs.List.{list_any}
use Rattle.std.specs.Str.{bytes_eq}
use Rattle.std.specs.Borrow.{Bor}
use Rattle.ext_plan.specs.Labels.{is_label}
use Rattle.ext_plan.specs.LockNames.{with_name, named_locks, lock_names}
use Rattle.ext_plan.specs.Plans.{NodeText}

pub shown : (names : List (Bor (List ℕ))) (name : List ℕ) → list_any (λ n. bytes_eq name n.now) names ≡ is_label (map (λ n. n.now) names) name
shown [] name = refl
shown (n ∷ names) name = ap (λ b. bytes_eq name n.now || b) (shown names name)

-- one that is there is not added, and another is
pub with-known : (names : List (Bor (List ℕ))) (name : List ℕ) → list_any (λ n. bytes_eq name n.now) names ≡ true → with_name (map (λ n. n.now) names) name ≡ map (λ n. n.now) names
with-known names name there = ap (λ b. if b then map (λ n. n.now) names else map (λ n. n.now) names ++ name ∷ []) (sym (shown names name) ∙ there)

pub with-new : (names after : List (Bor (List ℕ))) (name : Bor (List ℕ)) → list_any (λ n. bytes_eq name.now n.now) names ≡ false → after ≡ names ++ name ∷ [] → map (λ n. n.now) after ≡ with_name (map (λ n. n.now) names) name.now
with-new names after name other are =
    ap (map (λ n. n.now)) are ∙ (map-append (λ n. n.now) names (name ∷ []) ∙ sym (ap (λ b. if b then map (λ n. n.now) names else map (λ n. n.now) names ++ name.now ∷ []) (sym (shown names name.now) ∙ other)))

-- ---- different names

named_there : (names : List (List ℕ)) (name : List ℕ) → Contains names name → is_label names name ≡ true
named_there names name there = list_any_at (bytes_eq name) names there.0 name there.1 ((bytes_eq-Decides name (get_or names there.0 name)).1 (sym there.2))

differ_with : (names : List (List ℕ)) (name : List ℕ) → AllPairs (λ a b. a ≢ b) names → AllPairs (λ a b. a ≢ b) (with_name names name)
differ_with names name different = elim (cases_Bool (is_label names name)) [
  | inl old ↦ subst (AllPairs (λ a b. a ≢ b)) (sym (ap (λ b. if b then names else names ++ name ∷ []) old)) different
  | inr fresh ↦ subst (AllPairs (λ a b. a ≢ b)) (sym (ap (λ b. if b then names else names ++ name ∷ []) fresh))
      (different_with names name different (λ there. let e : true ≡ false = sym (named_there names name there) ∙ fresh in cc))
]

differ_from : (more names : List (List ℕ)) → AllPairs (λ a b. a ≢ b) names → AllPairs (λ a b. a ≢ b) (fold with_name names more)
differ_from [] names different = different
differ_from (name ∷ more) names different = differ_from more (with_name names name) (differ_with names name different)

-- no name of a lock stands twice
pub lock_names-differ : (nodes : List NodeText) → AllPairs (λ a b. a ≢ b) (lock_names nodes)
lock_names-differ nodes = differ_from (named_locks nodes) [] (λ i j d less within. absurd (omega (arith, within)))
