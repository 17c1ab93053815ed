-- Numbers of views, added up, and numbers counted in lists.
use Rattle.std.proofs.Common.{◌≡◌, ◌≢◌, ℕ, zero, suc, ◌+◌, ◌<◌, ◌≤◌, cond, List, [], ◌∷◌, ◌++◌, set, ap, sym, refl, arith}
use Rattle.std.specs.Prelude.{◌==◌, ltb, leb, All}
use Rattle.std.proofs.lemmas.Bool.Decides.{nat_tests}
use Rattle.std.proofs.lemmas.List.Elements.{All-cons, All-weaker}
use mathlib.Core.Option.{some, some-injective, some-ne-none}
use lib.ListN.{get_elem?}
use Rattle.ext_crew.specs.Times.{times}
use Rattle.ext_crew.specs.InnerCounter.{total, ends, jobs_of}
use Rattle.ext_crew.specs.declared.jobs.done.Done.{Done}

module _ {V : Type 0} (f : V → ℕ) where
  -- one view changes
  pub total_set : (views : List V) (i : ℕ) (v w : V) → get_elem? views i ≡ some v → total f (set views i w) + f v ≡ total f views + f w
  total_set [] i v w at = absurd (some-ne-none v (sym at))
  total_set (u ∷ us) zero v w at = let h : f u ≡ f v = ap f (some-injective u v at) in omega (arith, h)
  total_set (u ∷ us) (suc i) v w at = let h = total_set us i v w at in omega (arith, h)

  -- one view comes last
  pub total_push : (views : List V) (w : V) → total f (views ++ w ∷ []) ≡ total f views + f w
  total_push [] w = omega arith
  total_push (u ∷ us) w = let h = total_push us w in omega (arith, h)

  pub total_one : (views : List V) (i : ℕ) (v : V) → get_elem? views i ≡ some v → f v ≤ total f views
  total_one [] i v at = absurd (some-ne-none v (sym at))
  total_one (u ∷ us) zero v at = let h : f u ≡ f v = ap f (some-injective u v at) in omega (arith, h)
  total_one (u ∷ us) (suc i) v at = let h = total_one us i v at in omega (arith, h)

  pub total_two : (views : List V) (i j : ℕ) (v w : V) → get_elem? views i ≡ some v → get_elem? views j ≡ some w → i ≢ j → f v + f w ≤ total f views
  total_two [] i j v w at there apart = absurd (some-ne-none v (sym at))
  total_two (u ∷ us) zero zero v w at there apart = absurd (apart refl)
  total_two (u ∷ us) zero (suc j) v w at there apart = let h : f u ≡ f v = ap f (some-injective u v at) in let l = total_one us j w there in omega (arith, h, l)
  total_two (u ∷ us) (suc i) zero v w at there apart = let h : f u ≡ f w = ap f (some-injective u w there) in let l = total_one us i v at in omega (arith, h, l)
  total_two (u ∷ us) (suc i) (suc j) v w at there apart = let l = total_two us i j v w at there (λ e. apart (ap suc e)) in omega (arith, l)

  pub total_most : (g : V → ℕ) (views : List V) → ((i : ℕ) (v : V) → get_elem? views i ≡ some v → f v ≤ g v) → total f views ≤ total g views
  total_most g [] each = omega arith
  total_most g (u ∷ us) each =
      let here = each 0 u refl in
      let rest = total_most g us (λ i v at. each (suc i) v at) in
      omega (arith, here, rest)

module _ {V : Type 0} (f p : V → ℕ) where
  total_none : (views : List V) → total p views ≡ 0 → ((i : ℕ) (v : V) → get_elem? views i ≡ some v → p v ≡ 0 → f v ≡ 0) → total f views ≡ 0
  total_none [] none each = refl
  total_none (u ∷ us) none each =
      let here : f u ≡ 0 = each 0 u refl (omega (arith, none)) in
      let rest : total f us ≡ 0 = total_none us (omega (arith, none)) (λ i v at. each (suc i) v at) in
      omega (arith, here, rest)

  -- where one view has all of p, and f is 0 wherever p is, it has all of f
  pub total_sole : (views : List V) (i : ℕ) (v : V) → get_elem? views i ≡ some v → total p views ≡ p v
      → ((j : ℕ) (u : V) → get_elem? views j ≡ some u → p u ≡ 0 → f u ≡ 0) → total f views ≡ f v
  total_sole [] i v at all each = absurd (some-ne-none v (sym at))
  total_sole (u ∷ us) zero v at all each =
      let h : p u ≡ p v = ap p (some-injective u v at) in
      let k : f u ≡ f v = ap f (some-injective u v at) in
      let rest : total f us ≡ 0 = total_none us (omega (arith, all, h)) (λ j w there. each (suc j) w there) in
      omega (arith, k, rest)
  total_sole (u ∷ us) (suc i) v at all each =
      let least = total_one p us i v at in
      let here : f u ≡ 0 = each 0 u refl (omega (arith, all, least)) in
      let rest : total f us ≡ f v = total_sole us i v at (omega (arith, all, least)) (λ j w there. each (suc j) w there) in
      omega (arith, here, rest)

pub times-append : (x : ℕ) (xs ys : List ℕ) → times x (xs ++ ys) ≡ times x xs + times x ys
times-append x [] ys = omega arith
times-append x (y ∷ xs) ys = let e = times-append x xs ys in omega (arith, e)

pub ends-append : (n : ℕ) (xs ys : List ℕ) → ends n (xs ++ ys) ≡ ends n xs + ends n ys
ends-append n [] ys = omega arith
ends-append n (y ∷ xs) ys = let e = ends-append n xs ys in omega (arith, e)

no_end : (n y x k : ℕ) → cond (leb n y) 1 0 + k ≡ 0 → n ≤ x → (k ≡ 0) × (◌≡◌ {A = ℕ} (cond (y == x) 1 0) 0)
no_end n y x k e l = (grind (arith, nat_tests), grind (arith, nat_tests))

-- a list with no end has no number from there on
pub ends_none : (n : ℕ) (xs : List ℕ) → ends n xs ≡ 0 → (x : ℕ) → n ≤ x → times x xs ≡ 0
ends_none n [] none x l = refl
ends_none n (y ∷ xs) none x l =
    let h = no_end n y x (ends n xs) none l in
    let a = h.1 in
    let rest = ends_none n xs h.0 x l in
    omega (arith, a, rest)

pub below_next : (x j : ℕ) → ◌≡◌ {A = ℕ} (cond (ltb x (j + 1)) 1 0) (cond (ltb x j) 1 0 + cond (j == x) 1 0)
below_next x j = grind (arith, nat_tests)

pub is_below : (x j n : ℕ) → 0 < n → n ≤ cond (ltb x j) 1 0 → x < j
is_below x j n more most = grind (arith, nat_tests)

pub once_if : (x j : ℕ) → x < j → ◌≡◌ {A = ℕ} (cond (ltb x j) 1 0) 1
once_if x j l = grind (arith, nat_tests)

pub same_once : (x : ℕ) → ◌≡◌ {A = ℕ} (cond (x == x) 1 0) 1
same_once x = grind (arith, nat_tests)

pub other_none : (j x : ℕ) → x < j → ◌≡◌ {A = ℕ} (cond (j == x) 1 0) 0
other_none j x l = grind (arith, nat_tests)

pub end_once : (n j : ℕ) → n ≤ j → ◌≡◌ {A = ℕ} (cond (leb n j) 1 0) 1
end_once n j l = grind (arith, nat_tests)

pub end_none : (n j : ℕ) → j < n → ◌≡◌ {A = ℕ} (cond (leb n j) 1 0) 0
end_none n j l = grind (arith, nat_tests)

pub end_most : (n j : ℕ) → cond (leb n j) 1 0 ≤ 1
end_most n j = grind (arith, nat_tests)

pub none_below : (x : ℕ) → ◌≡◌ {A = ℕ} 0 (cond (ltb x 0) 1 0)
none_below x = grind (arith, nat_tests)

pub at_most_once : (x j : ℕ) → cond (ltb x j) 1 0 ≤ 1
at_most_once x j = grind (arith, nat_tests)

one_more : (x k n : ℕ) → 0 < n → 0 < cond (k == x) 1 0 + n
one_more x k n l = omega (arith, l)

here_once : (x n : ℕ) → 0 < cond (x == x) 1 0 + n
here_once x n = grind (arith, nat_tests)

-- each job that was done is one of the jobs
pub done_counted : {O : Type 0} (done : List (Done O)) → All (λ d. 0 < times d.job (jobs_of done)) done
done_counted [] = λ k d l. absurd (omega arith)
done_counted {O} (d ∷ done) =
    let P : Done O → Type 0 = λ e. 0 < times e.job (jobs_of (d ∷ done)) in
    let Q : Done O → Type 0 = λ e. 0 < times e.job (jobs_of done) in
    All-cons P d done (here_once d.job (times d.job (jobs_of done)))
    (All-weaker Q P (λ e l. one_more e.job d.job (times e.job (jobs_of done)) l) done (done_counted done))
