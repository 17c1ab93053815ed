-- Names in the order of their bytes, and the place of one among them.
use Rattle.std.proofs.Common.{◌≡◌, ◌≢◌, ℕ, zero, suc, ◌+◌, ◌<◌, ◌≤◌, Bool, true, false, List, [], ◌∷◌, ◌++◌, length, map, Option, Some, None, Result, Ok, Err, refl, sym, ap, ◌∙◌, subst, ⊎_elim, true≢false, arith, String, Global, string_bytes, get_or, take, Bor, nat_eq}
use Rattle.std.specs.Prelude.{slice_get, MatchResult, IfSome, Contains, IsPermutation}
use Rattle.std.specs.Result.{result_ok}
use Rattle.std.specs.List.Sorted.{IsSorted, IsBinarySearchResult, IsSearchInRange, IsPartitionPoint}
use Rattle.std.specs.String.{string_cmp}
use Rattle.std.specs.Ordering.{nat_cmp, is_eq, is_lt}
use Rattle.std.specs.Cmp.Lexicographic.{slice_cmp, bytes_decides, pointwise}
use Rattle.std.specs.List.{IsAnyAnswer}
use Rattle.ext_locks.specs.Names.{texts_of, AreDifferent, IsFirstTwice}
use Rattle.std.specs.declared.cmp.Ordering.{Ordering}
use Rattle.std.specs.declared.cmp.Ordering.TheVariants.{Less, Equal, Greater}
use Rattle.std.proofs.lemmas.Bool.{cases_lt}
use Rattle.std.proofs.lemmas.Cmp.{nat_list_cmp_total}
use Rattle.std.proofs.lemmas.List.{get_or-map, length-map, take_all, take_more, get_or-take, map_push}
use Rattle.std.proofs.lemmas.List.Quantifiers.{all_pairs_push}
use Rattle.std.proofs.lemmas.List.Sorted.{searchable_from_sorted, IsPermutation-map, length_permutation}
use Rattle.std.proofs.lemmas.Map.Keys.{IsDistinct-IsPermutation}
use Rattle.std.proofs.lemmas.Map.Made.{AllPairs-from_IsDistinct, IsDistinct-from_AllPairs}
use Rattle.std.proofs.lemmas.Map.Text.{is_eq-slice_cmp}
use Rattle.std.proofs.lemmas.Option.{slice_get-get_or}

-- how a name compares with those of a list
abbrev pub against : List ℕ → String Global → Ordering
against name other = slice_cmp nat_cmp (string_bytes other) name

same_name : (xs ys : List ℕ) → slice_cmp nat_cmp xs ys ≡ Equal → xs ≡ ys
same_name xs ys is = (bytes_decides xs ys).0 (sym (is_eq-slice_cmp xs ys) ∙ ap is_eq is)

not_less : (xs ys : List ℕ) → xs ≡ ys → slice_cmp nat_cmp xs ys ≡ Less → ⊥
not_less xs ys same is = true≢false (sym ((bytes_decides xs ys).1 same) ∙ (sym (is_eq-slice_cmp xs ys) ∙ ap is_eq is))

not_greater : (xs ys : List ℕ) → xs ≡ ys → slice_cmp nat_cmp xs ys ≡ Greater → ⊥
not_greater xs ys same is = true≢false (sym ((bytes_decides xs ys).1 same) ∙ (sym (is_eq-slice_cmp xs ys) ∙ ap is_eq is))

name_at : (names : List (String Global)) (name : List ℕ) (at : ℕ) → at < length names → ((d : String Global) → against name (get_or names at d) ≡ Equal) → slice_get (map string_bytes names) at ≡ Some name
name_at [] name at below is = absurd (omega arith)
name_at (x ∷ names) name at below is =
    slice_get-get_or (map string_bytes (x ∷ names)) at [] (let e = length-map (x ∷ names) string_bytes in omega arith)
    ∙ ap Some (get_or-map string_bytes (x ∷ names) at x [] below ∙ same_name _ _ (is x))

no_name : (names : List (String Global)) (name : List ℕ) (at : ℕ) → IsPartitionPoint (λ y. against name y ≡ Less) (λ y. against name y ≡ Greater) names at → Contains (map string_bytes names) name → ⊥
no_name [] name at parts has = let b = has.1 in absurd (omega arith)
no_name (x ∷ names) name at parts has =
    let few : has.0 < length (x ∷ names) = (let e = length-map (x ∷ names) string_bytes in let b = has.1 in omega arith) in
    let same = sym (get_or-map string_bytes (x ∷ names) has.0 x name few) ∙ has.2 in
    ⊎_elim
    (λ low. not_less _ _ same (parts.0 has.0 x (omega arith) low))
    (λ high. not_greater _ _ same (parts.1 has.0 x high few))
    (cases_lt has.0 at)

-- what a search by halves finds
pub searched : (names : List (String Global)) (name : List ℕ) (r : Result ℕ ℕ) → IsSorted string_cmp names → IsSearchInRange r (length names) → IsBinarySearchResult (against name) names r
    → MatchResult r (λ at. slice_get (map string_bytes names) at ≡ Some name) (λ _. Contains (map string_bytes names) name → ⊥)
searched names name (Ok at) sorted below is = name_at names name at below is
searched names name (Err at) sorted below parts = no_name names name at (parts (searchable_from_sorted nat_list_cmp_total string_bytes names name sorted))

pub found_some : (P : ℕ → Type 0) (Q : ℕ → Type 0) (o : Option ℕ) (r : Result ℕ ℕ) → o ≡ result_ok r → MatchResult r P Q → IfSome o P
found_some P Q o (Ok at) is holds = subst (λ x. IfSome x P) (sym is) holds
found_some P Q o (Err at) is holds = subst (λ x. IfSome x P) (sym is) tt

pub found_none : (P : ℕ → Type 0) (Q : Type 0) (o : Option ℕ) (r : Result ℕ ℕ) → o ≡ result_ok r → MatchResult r P (λ _. Q) → o ≡ None → Q
found_none P Q o (Ok at) is holds none = absurd (cc)
found_none P Q o (Err at) is holds none = holds

-- ---- a name that stands twice

pub text_at : (names : List (Bor (List ℕ))) (i : ℕ) (x : Bor (List ℕ)) (d : List ℕ) → i < length names → get_or (texts_of names) i d ≡ (get_or names i x).now
text_at names i x d below = get_or-map (λ t. t.now) names i x d below

-- the place after so many elements of the front
take_at : (names : List (Bor (List ℕ))) (at i : ℕ) (d : List ℕ) → i < at → get_or (take at (texts_of names)) i d ≡ get_or (texts_of names) i d
take_at names at i d below = get_or-take at (texts_of names) i d below

take_texts : (names : List (Bor (List ℕ))) (at : ℕ) → take at (texts_of names) ≡ texts_of (take at names)
take_texts [] zero = refl
take_texts [] (suc at) = refl
take_texts (x ∷ names) zero = refl
take_texts (x ∷ names) (suc at) = ap (λ t. x.now ∷ t) (take_texts names at)

short : (names : List (Bor (List ℕ))) (at i : ℕ) → at < length names → i < at → i < length (take at names)
short [] at i below low = absurd (omega arith)
short (x ∷ names) zero i below low = absurd (omega arith)
short (x ∷ names) (suc at) zero below low = omega arith
short (x ∷ names) (suc at) (suc i) below low = let h = short names at i (omega arith) (omega arith) in omega arith

small : (names : List (Bor (List ℕ))) (at i : ℕ) → i < length (take at names) → i < at
small [] zero i few = absurd (omega arith)
small [] (suc at) i few = absurd (omega arith)
small (x ∷ names) zero i few = absurd (omega arith)
small (x ∷ names) (suc at) zero few = omega arith
small (x ∷ names) (suc at) (suc i) few = let h = small names at i (omega arith) in omega arith

module _ (names : List (Bor (List ℕ))) (at : ℕ) (name : List ℕ) (below : at < length names) (different : AreDifferent (take at (texts_of names))) (is_name : get_or (texts_of names) at [] ≡ name) where
  long : length (texts_of names) ≡ length names
  long = length-map names (λ (t : Bor (List ℕ)). t.now)

  -- some name, where there is one
  some_name : (xs : List (Bor (List ℕ))) → at < length xs → Bor (List ℕ)
  some_name [] few = absurd (omega arith)
  some_name (x ∷ xs) few = x

  -- the text at a place of the front
  front_text : (k : ℕ) (d : Bor (List ℕ)) (e : List ℕ) → k < length (take at names) → get_or (texts_of names) k e ≡ (get_or (take at names) k d).now
  front_text k d e few = sym (take_at names at k e (small names at k few)) ∙ (ap (λ t. get_or t k e) (take_texts names at) ∙ text_at (take at names) k d e few)

  pub twice_at : (r : Bool) → IsAnyAnswer (λ (y : Bor (List ℕ)) b. pointwise nat_eq y.now name ≡ b) (take at names) r → r ≡ true → IsFirstTwice (texts_of names) at
  twice_at true answer is =
      let k = answer.0 in
      let few = answer.1 in
      let early = small names at k few in
      record {
        within = (let l = long in omega arith);
        earlier = k;
        before = early;
        same = slice_get-get_or (texts_of names) k [] (let l = long in omega arith)
            ∙ (ap Some (front_text k (some_name names below) [] few ∙ ((bytes_decides _ name).0 (answer.2 (some_name names below)) ∙ sym is_name))
            ∙ sym (slice_get-get_or (texts_of names) at [] (let l = long in omega arith)));
        first = different;
      }
  twice_at false answer is = absurd (true≢false (sym is))

  pub different_more : (r : Bool) → IsAnyAnswer (λ (y : Bor (List ℕ)) b. pointwise nat_eq y.now name ≡ b) (take at names) r → r ≡ false → AreDifferent (take (at + 1) (texts_of names))
  different_more true answer is = absurd (true≢false is)
  different_more false answer is =
      subst AreDifferent (sym (take_more (texts_of names) at [] (let l = long in omega arith) ∙ ap (λ t. take at (texts_of names) ++ t ∷ []) is_name))
      (all_pairs_push (λ a b. a ≢ b) (take at (texts_of names)) name different
      (λ k d few same. true≢false (sym ((bytes_decides _ name).1 (sym (front k d few) ∙ same)) ∙ answer k (some_name names below) (omega arith) (short_front k few))))
    where
      short_front : (k : ℕ) → k < length (take at (texts_of names)) → k < length (take at names)
      short_front k few = let e = ap length (take_texts names at) in let l = length-map (take at names) (λ (t : Bor (List ℕ)). t.now) in omega arith

      front : (k : ℕ) (d : List ℕ) → k < length (take at (texts_of names)) → get_or (take at (texts_of names)) k d ≡ (get_or (take at names) k (some_name names below)).now
      front k d few = ap (λ t. get_or t k d) (take_texts names at) ∙ text_at (take at names) k (some_name names below) d (short_front k few)

pub different_all : (names : List (Bor (List ℕ))) (at : ℕ) → length names ≤ at → AreDifferent (take at (texts_of names)) → AreDifferent (texts_of names)
different_all names at many different = subst AreDifferent (take_all at (texts_of names) (let e = length-map names (λ (t : Bor (List ℕ)). t.now) in omega arith)) different

-- ---- copies of names

pub copied_more : (names : List (Bor (List ℕ))) (copies now : List (String Global)) (text : String Global) (at : ℕ) → at < length names → map string_bytes copies ≡ take at (texts_of names) → now ≡ copies ++ text ∷ []
    → get_or (texts_of names) at [] ≡ string_bytes text → map string_bytes now ≡ take (at + 1) (texts_of names)
copied_more names copies now text at below was is same =
    ap (map string_bytes) is ∙ (map_push string_bytes copies text ∙ (ap (λ t. t ++ string_bytes text ∷ []) was
    ∙ (ap (λ t. take at (texts_of names) ++ t ∷ []) (sym same) ∙ sym (take_more (texts_of names) at [] (let l = length-map names (λ (t : Bor (List ℕ)). t.now) in omega arith)))))

pub sorted_names : (names : List (Bor (List ℕ))) (copies sorted : List (String Global)) (at : ℕ) → length names ≤ at → map string_bytes copies ≡ take at (texts_of names) → IsPermutation copies sorted
    → IsPermutation (texts_of names) (map string_bytes sorted)
sorted_names names copies sorted at many was moved =
    subst (λ t. IsPermutation t (map string_bytes sorted)) (was ∙ take_all at (texts_of names) (let l = length-map names (λ (t : Bor (List ℕ)). t.now) in omega arith))
    (IsPermutation-map string_bytes copies sorted moved)

-- texts in order are in the order of their bytes
pub sorted_texts : (copies : List (String Global)) → IsSorted string_cmp copies → IsSorted (slice_cmp nat_cmp) (map string_bytes copies)
sorted_texts [] sorted k d low below = absurd (omega arith)
sorted_texts (x ∷ copies) sorted k d low below =
    let l = length-map (x ∷ copies) string_bytes in
    let first : k < length (x ∷ copies) = omega arith in
    let second : k + 1 < length (x ∷ copies) = omega arith in
    ap (λ o. is_lt o) (λ i. slice_cmp nat_cmp (get_or-map string_bytes (x ∷ copies) (k + 1) x d second i) (get_or-map string_bytes (x ∷ copies) k x d first i)) ∙ sorted k x low second

pub names_count : (names : List (Bor (List ℕ))) (copies : List (String Global)) → IsPermutation (texts_of names) (map string_bytes copies) → length copies ≡ length names
names_count names copies moved =
    let a = length_permutation (texts_of names) (map string_bytes copies) moved in
    let b = length-map names (λ (t : Bor (List ℕ)). t.now) in
    let c = length-map copies string_bytes in
    omega arith

same_text : (xs ys : List ℕ) → pointwise nat_eq xs ys ≡ pointwise nat_eq ys xs
same_text xs ys = go (pointwise nat_eq xs ys) refl (pointwise nat_eq ys xs) refl
  where
    go : (a : Bool) → pointwise nat_eq xs ys ≡ a → (b : Bool) → pointwise nat_eq ys xs ≡ b → pointwise nat_eq xs ys ≡ pointwise nat_eq ys xs
    go true p true q = p ∙ sym q
    go true p false q = absurd (true≢false (sym ((bytes_decides ys xs).1 (sym ((bytes_decides xs ys).0 p))) ∙ q))
    go false p true q = absurd (true≢false (sym ((bytes_decides xs ys).1 (sym ((bytes_decides ys xs).0 q))) ∙ p))
    go false p false q = p ∙ sym q

-- names that are different stay so when they change places
pub different_still : (names moved : List (List ℕ)) → IsPermutation names moved → AreDifferent names → AreDifferent moved
different_still names moved places different =
    AllPairs-from_IsDistinct bytes_decides moved (IsDistinct-IsPermutation (pointwise nat_eq) same_text names moved places (IsDistinct-from_AllPairs bytes_decides names different))
