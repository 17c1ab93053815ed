-- Laws of lists of any kind.
use Rattle.std.proofs.Common.{◌≡◌, ℕ, ◌+◌, ◌<◌, zero, suc, List, [], ◌∷◌, ◌++◌, length, map, take, drop, ap, refl, subst, arith}
use Rattle.std.specs.Prelude.{All, Option, Some, None, slice_get, flat_map, filter_map}
use Rattle.std.proofs.lemmas.List.Elements.{All-append, All-cons, All-head, All-tail}

-- a fact of each element of both parts is one of each element of the whole
pub all_parts : {X : Type 0} (P : X → Type 0) (n : ℕ) (xs : List X) → All P (take n xs) → All P (drop n xs) → All P xs
all_parts P zero xs a b = b
all_parts P (suc n) [] a b = a
all_parts P (suc n) (x ∷ xs) a b = All-cons P x xs (All-head P x (take n xs) a) (all_parts P n xs (All-tail P x (take n xs) a) b)

pub length_parts : {X : Type 0} (n : ℕ) (xs : List X) → length (take n xs) + length (drop n xs) ≡ length xs
length_parts zero xs = omega arith
length_parts (suc n) [] = refl
length_parts (suc n) (x ∷ xs) = let rest = length_parts n xs in omega (arith, rest)

all_split : {X : Type 0} (P : X → Type 0) (xs ys : List X) → All P (xs ++ ys) → All P xs × All P ys
all_split P [] ys all = ((λ k d l. absurd (omega arith)), all)
all_split P (x ∷ xs) ys all = let rest = all_split P xs ys (All-tail P x (xs ++ ys) all) in (All-cons P x xs (All-head P x (xs ++ ys) all) rest.0, rest.1)

-- a fact of each element of all lists together is one of each element of each list
pub all_apart : {X : Type 0} (P : X → Type 0) (lists : List (List X)) → All P (flat_map (λ l. l) lists) → All (λ l. All P l) lists
all_apart P [] all = λ k d l. absurd (omega arith)
all_apart {X} P (list ∷ lists) all =
    let both = all_split P list (flat_map (λ l. l) lists) all in
    let Q : List X → Type 0 = λ l. All P l in
    All-cons Q list lists both.0 (all_apart P lists both.1)

pub all_together : {X : Type 0} (P : X → Type 0) (lists : List (List X)) → All (λ l. All P l) lists → All P (flat_map (λ l. l) lists)
all_together P [] all = λ k d l. absurd (omega arith)
all_together {X} P (list ∷ lists) all =
    let Q : List X → Type 0 = λ l. All P l in
    All-append P list (flat_map (λ l. l) lists) (All-head Q list lists all) (all_together P lists (All-tail Q list lists all))

pub lists_together : {H X : Type 0} (f : H → List X) (hands : List H) → flat_map f hands ≡ flat_map (λ l. l) (map f hands)
lists_together f [] = refl
lists_together f (h ∷ hands) = ap (λ l. f h ++ l) (lists_together f hands)

whole : {X : Type 0} (xs ys : List X) → take (length xs) (xs ++ ys) ≡ xs
whole [] ys = refl
whole (x ∷ xs) ys = ap (λ l. x ∷ l) (whole xs ys)

-- what a slice was lent out of is the slice again
pub lent_back : {X : Type 0} (n : ℕ) (xs ys : List X) → length xs ≡ n → take n (xs ++ ys) ≡ xs
lent_back {X} n xs ys e = subst (λ (k : ℕ). take k (xs ++ ys) ≡ xs) e (whole xs ys)

-- options that all hold something
first_of_some : {O : Type 0} (x : O) (by_job : List (Option O)) → ((i : ℕ) (o : O) → slice_get by_job i ≡ Some (Some o) → slice_get (filter_map (λ p. p) by_job) i ≡ Some o)
    → (i : ℕ) (o : O) → slice_get (Some x ∷ by_job) i ≡ Some (Some o) → slice_get (x ∷ filter_map (λ p. p) by_job) i ≡ Some o
first_of_some x by_job rest zero o e = cc
first_of_some x by_job rest (suc i) o e = rest i o e

pub full : {O : Type 0} (by_job : List (Option O)) → ((i : ℕ) → i < length by_job → (o : O) × (slice_get by_job i ≡ Some (Some o)))
    → (length (filter_map (λ p. p) by_job) ≡ length by_job) × ((i : ℕ) (o : O) → slice_get by_job i ≡ Some (Some o) → slice_get (filter_map (λ p. p) by_job) i ≡ Some o)
full [] all = (refl, λ i o e. cc)
full {O} (None ∷ by_job) all = let h = all 0 (omega arith) in let bad : Some None ≡ Some (Some h.0) = h.1 in cc
full {O} (Some x ∷ by_job) all =
    let rest = full by_job (λ i l. all (suc i) (omega arith)) in
    (ap suc rest.0, first_of_some x by_job rest.1)
