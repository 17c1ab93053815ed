-- Parts of texts.
use Rattle.std.proofs.Common.{◌≡◌, ◌⊎◌, ◌↔◌, ℕ, Bool, true, false, cond, ◌||◌, List, [], ◌∷◌, ◌++◌, length, drop, refl, sym, ap, ◌∙◌, inl, inr, ⊎_elim}
use Rattle.std.specs.Prelude.{nat_eq}
use Rattle.std.specs.List.{starts_with}
use Rattle.std.specs.Str.Iter.{HasSubslice}
use Rattle.std.specs.Bool.{Decides, one_answer}
use Rattle.std.specs.Str.{bytes_eq}
use Rattle.std.proofs.lemmas.Slice.Eq.{starts_is, bytes_eq-Decides}
use Rattle.std.proofs.lemmas.Bool.{cases_Bool}
use Rattle.std.proofs.lemmas.Bool.Decides.{Decides-eqb}
use Rattle.ext_selection.specs.Selection.{has_part}

begins_is : (s p rest : List ℕ) → s ≡ p ++ rest → starts_with nat_eq s p ≡ true
begins_is s p rest e = (starts_is Decides-eqb s p (starts_with nat_eq s p) refl).1 rest e

begins_splits : (s p : List ℕ) → starts_with nat_eq s p ≡ true → s ≡ p ++ drop (length p) s
begins_splits s p is = (starts_is Decides-eqb s p (starts_with nat_eq s p) refl).0 is

or_left : (a b : Bool) → a ≡ true → (a || b) ≡ true
or_left true b is = refl
or_left false b is = let clash : false ≡ true = is in cc

or_right : (a b : Bool) → b ≡ true → (a || b) ≡ true
or_right true b is = refl
or_right false b is = is

or_cases : (a b : Bool) → (a || b) ≡ true → (a ≡ true) ⊎ (b ≡ true)
or_cases true b is = inl refl
or_cases false b is = inr is

part_at_start : (p s : List ℕ) → starts_with nat_eq s p ≡ true → has_part p s ≡ true
part_at_start p [] is = is
part_at_start p (c ∷ cs) is = or_left _ _ is

part_from : (p a b : List ℕ) → has_part p (a ++ (p ++ b)) ≡ true
part_from p [] b = part_at_start p (p ++ b) (begins_is (p ++ b) p b refl)
part_from p (x ∷ a) b = or_right _ _ (part_from p a b)

part_splits : (p s : List ℕ) → has_part p s ≡ true → HasSubslice s p
part_splits p [] is = ([], drop (length p) [], begins_splits [] p is)
part_splits p (c ∷ cs) is = ⊎_elim
    (λ (start : starts_with nat_eq (c ∷ cs) p ≡ true). ([], drop (length p) (c ∷ cs), begins_splits (c ∷ cs) p start))
    (λ (later : has_part p cs ≡ true). let rest : HasSubslice cs p = part_splits p cs later in
    (c ∷ rest.0, rest.1, ap (λ s. c ∷ s) rest.2))
    (or_cases (starts_with nat_eq (c ∷ cs) p) (has_part p cs) is)

-- A test that is true exactly where the part stands is `has_part`.
pub has_part_is : (p s : List ℕ) (r : Bool) → ((r ≡ true) ↔ HasSubslice s p) → r ≡ has_part p s
has_part_is p s r h = ⊎_elim
    (λ (yes : has_part p s ≡ true). h.1 (part_splits p s yes) ∙ sym yes)
    (λ (no : has_part p s ≡ false). ⊎_elim
    (λ (is : r ≡ true). let some : HasSubslice s p = h.0 is in
    let found : has_part p s ≡ true = ap (has_part p) some.2 ∙ part_from p some.0 some.1 in cc)
    (λ (is_not : r ≡ false). is_not ∙ sym no)
    (cases_Bool r))
    (cases_Bool (has_part p s))

pub bytes_eq_comm : (a b : List ℕ) → bytes_eq a b ≡ bytes_eq b a
bytes_eq_comm a b =
    let turned : Decides (bytes_eq b a) (a ≡ b) =
    (λ is. sym ((bytes_eq-Decides b a).0 is), λ e. (bytes_eq-Decides b a).1 (sym e)) in
    one_answer (bytes_eq a b) (bytes_eq b a) (bytes_eq-Decides a b) turned

pub cond_or : (b x : Bool) → cond b true x ≡ (x || b)
cond_or true true = refl
cond_or true false = refl
cond_or false true = refl
cond_or false false = refl
