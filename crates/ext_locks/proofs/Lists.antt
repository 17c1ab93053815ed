-- The locks of a set as a list, against its modes by lock number.
use Rattle.std.proofs.Common.{◌≡◌, ◌&&◌, ◌||◌, ℕ, zero, suc, ◌+◌, ◌<◌, ◌≤◌, Bool, true, false, List, [], ◌∷◌, ◌++◌, length, take, map, Option, Some, None, slice_index_or, refl, sym, ap, ◌∙◌, subst, arith, append-nil}
use Rattle.std.specs.Prelude.{nat_lt, slice_get, slice_index}
use Rattle.std.specs.List.Sorted.{IsStrictlyIncreasing}
use Rattle.std.proofs.lemmas.Bool.{ne_eqb, eq-eqb, cond-true, cond-false}
use Rattle.std.proofs.lemmas.Bool.Decides.{nat_tests}
use Rattle.std.proofs.lemmas.List.{take_more}
use Rattle.ext_locks.specs.declared.event.LockMode.{LockMode}
use Rattle.ext_locks.specs.History.{same_mode}
use Rattle.ext_locks.specs.Sets.{AllBelow, is_lock, locks_from, locks_of, locks_below, wants}
use Rattle.ext_locks.specs.InnerSteps.{has_mode}
use Rattle.ext_locks.proofs.Histories.{same_mode_self}

-- the locks from a number on have no lower one
pub wants_low : (n : ℕ) (modes : List (Option LockMode)) (lock : ℕ) (mode : LockMode) → lock < n → wants (locks_from n modes) lock mode ≡ false
wants_low n [] lock mode low = refl
wants_low n (None ∷ modes) lock mode low = wants_low (suc n) modes lock mode (omega arith)
wants_low n (Some m ∷ modes) lock mode low =
    ap (λ b. (b && same_mode m mode) || wants (locks_from (suc n) modes) lock mode) (ne_eqb n lock (omega arith)) ∙ wants_low (suc n) modes lock mode (omega arith)

or_false : (b : Bool) → (b || false) ≡ b
or_false true = refl
or_false false = refl

wants_from : (n : ℕ) (modes : List (Option LockMode)) (lock : ℕ) (mode : LockMode) → wants (locks_from n modes) (n + lock) mode ≡ has_mode modes lock mode
wants_from n [] lock mode = refl
wants_from n (None ∷ modes) zero mode = wants_low (suc n) modes (n + 0) mode (omega arith)
wants_from n (None ∷ modes) (suc lock) mode =
    ap (λ k. wants (locks_from (suc n) modes) k mode) (let e : n + suc lock ≡ suc n + lock = omega arith in e) ∙ wants_from (suc n) modes lock mode
wants_from n (Some m ∷ modes) zero mode =
    ap (λ b. (b && same_mode m mode) || wants (locks_from (suc n) modes) (n + 0) mode) (eq-eqb n (n + 0) (omega arith))
    ∙ (ap (λ b. same_mode m mode || b) (wants_low (suc n) modes (n + 0) mode (omega arith)) ∙ or_false (same_mode m mode))
wants_from n (Some m ∷ modes) (suc lock) mode =
    ap (λ b. (b && same_mode m mode) || wants (locks_from (suc n) modes) (n + suc lock) mode) (ne_eqb n (n + suc lock) (omega arith))
    ∙ (ap (λ k. wants (locks_from (suc n) modes) k mode) (let e : n + suc lock ≡ suc n + lock = omega arith in e) ∙ wants_from (suc n) modes lock mode)

-- the set has just the locks that have a mode
pub wants_modes : (modes : List (Option LockMode)) (lock : ℕ) (mode : LockMode) → wants (locks_of modes) lock mode ≡ has_mode modes lock mode
wants_modes modes lock mode = ap (λ k. wants (locks_of modes) k mode) (let e : lock ≡ 0 + lock = omega arith in e) ∙ wants_from 0 modes lock mode

pub locks_from-append : (n : ℕ) (xs ys : List (Option LockMode)) → locks_from n (xs ++ ys) ≡ locks_from n xs ++ locks_from (n + length xs) ys
locks_from-append n [] ys = ap (λ k. locks_from k ys) (let e : n ≡ n + 0 = omega arith in e)
locks_from-append n (None ∷ xs) ys = locks_from-append (suc n) xs ys ∙ ap (λ k. locks_from (suc n) xs ++ locks_from k ys) (let e : suc n + length xs ≡ n + suc (length xs) = omega arith in e)
locks_from-append n (Some m ∷ xs) ys =
    ap (λ t. (n, m) ∷ t) (locks_from-append (suc n) xs ys ∙ ap (λ k. locks_from (suc n) xs ++ locks_from k ys) (let e : suc n + length xs ≡ n + suc (length xs) = omega arith in e))

locks_one : (n k : ℕ) (o : Option LockMode) → n ≡ k → locks_from n (o ∷ []) ≡ locks_from k (o ∷ [])
locks_one n k o e = ap (λ x. locks_from x (o ∷ [])) e

more : (modes : List (Option LockMode)) (k : ℕ) → k < length modes → locks_of (take (k + 1) modes) ≡ locks_of (take k modes) ++ locks_from k (slice_index_or modes k None ∷ [])
more modes k below =
    ap locks_of (take_more modes k None below)
    ∙ (locks_from-append 0 (take k modes) (slice_index_or modes k None ∷ [])
    ∙ ap (λ t. locks_of (take k modes) ++ t) (locks_one (0 + length (take k modes)) k (slice_index_or modes k None) (long modes k below)))
  where
    long : (xs : List (Option LockMode)) (i : ℕ) → i < length xs → 0 + length (take i xs) ≡ i
    long [] i few = absurd (omega arith)
    long (x ∷ xs) zero few = refl
    long (x ∷ xs) (suc i) few = let h = long xs i (omega arith) in omega arith

-- one lock further
pub locks_more : (modes : List (Option LockMode)) (k : ℕ) (m : LockMode) → k < length modes → slice_index_or modes k None ≡ Some m → locks_of (take (k + 1) modes) ≡ locks_of (take k modes) ++ (k, m) ∷ []
locks_more modes k m below is = more modes k below ∙ ap (λ o. locks_of (take k modes) ++ locks_from k (o ∷ [])) is

pub locks_same : (modes : List (Option LockMode)) (k : ℕ) → k < length modes → slice_index_or modes k None ≡ None → locks_of (take (k + 1) modes) ≡ locks_of (take k modes)
locks_same modes k below is = more modes k below ∙ (ap (λ o. locks_of (take k modes) ++ locks_from k (o ∷ [])) is ∙ append-nil (locks_of (take k modes)))

lt_true : (n k : ℕ) → n < k → nat_lt n k ≡ true
lt_true n k below = grind (arith, nat_tests)

lt_false : (n k : ℕ) → k ≤ n → nat_lt n k ≡ false
lt_false n k above = grind (arith, nat_tests)

below_none : (n : ℕ) (modes : List (Option LockMode)) (k : ℕ) → k ≤ n → locks_below k (locks_from n modes) ≡ []
below_none n [] k low = refl
below_none n (None ∷ modes) k low = below_none (suc n) modes k (omega arith)
below_none n (Some m ∷ modes) k low = cond-false (nat_lt n k) ((n, m) ∷ locks_below k (locks_from (suc n) modes)) _ (lt_false n k low) ∙ below_none (suc n) modes k (omega arith)

below_from : (n j k : ℕ) (modes : List (Option LockMode)) → k ≡ n + j → locks_below k (locks_from n modes) ≡ locks_from n (take j modes)
below_from n zero k modes is = below_none n modes k (omega arith)
below_from n (suc j) k [] is = refl
below_from n (suc j) k (None ∷ modes) is = below_from (suc n) j k modes (omega arith)
below_from n (suc j) k (Some m ∷ modes) is =
    cond-true (nat_lt n k) ((n, m) ∷ locks_below k (locks_from (suc n) modes)) (locks_below k (locks_from (suc n) modes)) (lt_true n k (omega arith)) ∙ ap (λ t. (n, m) ∷ t) (below_from (suc n) j k modes (omega arith))

-- the locks below a number are those of the modes below it
pub below_take : (modes : List (Option LockMode)) (k : ℕ) → locks_below k (locks_of modes) ≡ locks_of (take k modes)
below_take modes k = below_from 0 k k modes (omega arith)

-- a set whose locks are below a number is that of the modes below it
all_below : (k : ℕ) (set : List (ℕ × LockMode)) → AllBelow k set → locks_below k set ≡ set
all_below k [] all = refl
all_below k (x ∷ set) all =
    cond-true (nat_lt x.0 k) (x ∷ locks_below k set) (locks_below k set) (lt_true x.0 k (all.each x.0 x.1 here))
    ∙ ap (λ t. x ∷ t) (all_below k set (record { each = λ lock mode is. all.each lock mode (ap (λ b. is_lock lock mode x || b) is ∙ or_true (is_lock lock mode x)) }))
  where
    here : wants (x ∷ set) x.0 x.1 ≡ true
    here = ap (λ b. (b && same_mode x.1 x.1) || wants set x.0 x.1) (eq-eqb x.0 x.0 refl) ∙ ap (λ b. b || wants set x.0 x.1) (same_mode_self x.1)

    or_true : (b : Bool) → (b || true) ≡ true
    or_true true = refl
    or_true false = refl

pub take_low : (modes : List (Option LockMode)) (k : ℕ) → AllBelow k (locks_of modes) → locks_of (take k modes) ≡ locks_of modes
take_low modes k all = sym (below_take modes k) ∙ all_below k (locks_of modes) all

-- a lock that has a mode stands behind those below it
get_from : (n : ℕ) (modes : List (Option LockMode)) (k : ℕ) (m : LockMode) → slice_index_or modes k None ≡ Some m → slice_get (locks_from n modes) (length (locks_from n (take k modes))) ≡ Some (n + k, m)
get_from n [] k m is = absurd (cc)
get_from n (None ∷ modes) zero m is = absurd (cc)
get_from n (None ∷ modes) (suc k) m is = get_from (suc n) modes k m is ∙ ap (λ x. Some (x, m)) (let e : suc n + k ≡ n + suc k = omega arith in e)
get_from n (Some x ∷ modes) zero m is = (λ i. Some (same_number i, same_value i))
  where
    same_number : n ≡ n + 0
    same_number = omega arith

    same_value : x ≡ m
    same_value = cc
get_from n (Some x ∷ modes) (suc k) m is = get_from (suc n) modes k m is ∙ ap (λ y. Some (y, m)) (let e : suc n + k ≡ n + suc k = omega arith in e)

pub get_lock : (modes : List (Option LockMode)) (set : List (ℕ × LockMode)) (k i : ℕ) (m : LockMode) → locks_of modes ≡ set → slice_index_or modes k None ≡ Some m → length (locks_of (take k modes)) ≡ i → Some (k, m) ≡ slice_get set i
get_lock modes set k i m view is count = ap (λ y. Some (y, m)) (let e : k ≡ 0 + k = omega arith in e) ∙ (sym (get_from 0 modes k m is) ∙ (λ j. slice_get (view j) (count j)))

-- the numbers of a set's locks rise
rise_low : (n : ℕ) (modes : List (Option LockMode)) (k : ℕ) → k < length (map (λ (lock : ℕ × LockMode). lock.0) (locks_from n modes)) → n ≤ slice_index (map (λ (lock : ℕ × LockMode). lock.0) (locks_from n modes)) k
rise_low n [] k below = absurd (omega arith)
rise_low n (None ∷ modes) k below = let h = rise_low (suc n) modes k below in omega arith
rise_low n (Some m ∷ modes) zero below = omega arith
rise_low n (Some m ∷ modes) (suc k) below = let h = rise_low (suc n) modes k (omega arith) in omega arith

rise_from : (n : ℕ) (modes : List (Option LockMode)) → IsStrictlyIncreasing (map (λ (lock : ℕ × LockMode). lock.0) (locks_from n modes))
rise_from n [] k below = absurd (omega arith)
rise_from n (None ∷ modes) k below = rise_from (suc n) modes k below
rise_from n (Some m ∷ modes) zero below = rise_low (suc n) modes 0 (omega arith)
rise_from n (Some m ∷ modes) (suc k) below =
    subst (λ j. slice_index (map (λ (lock : ℕ × LockMode). lock.0) (locks_from (suc n) modes)) k < slice_index (n ∷ map (λ (lock : ℕ × LockMode). lock.0) (locks_from (suc n) modes)) j)
    (let e : suc (k + 1) ≡ suc k + 1 = omega arith in e) (rise_from (suc n) modes k (omega arith))

pub numbers_rise : (modes : List (Option LockMode)) → IsStrictlyIncreasing (map (λ (lock : ℕ × LockMode). lock.0) (locks_of modes))
numbers_rise modes = rise_from 0 modes
