-- Where a number stands that is put into a falling list.
use Rattle.std.proofs.Common.{◌≡◌, ℕ, zero, suc, ◌<◌, List, [], ◌∷◌, ◌++◌, length, take, drop, get_or, refl, ap, ◌∙◌, arith}
use Rattle.ext_model.specs.Closing.{put_in}
use Rattle.ext_model.proofs.Remaining.{put_before, put_same, put_after}

-- behind those that are greater
pub put_last : (number : ℕ) (xs : List ℕ) → ((k : ℕ) → k < length xs → number < get_or xs k 0) → put_in number xs ≡ xs ++ number ∷ []
put_last number [] greater = refl
put_last number (x ∷ xs) greater =
    put_after number x xs (greater 0 (omega arith)) ∙ ap (λ ys. x ∷ ys) (put_last number xs (λ k below. greater (suc k) (omega (arith, below))))

-- before the first that is less
pub put_at : (number : ℕ) (xs : List ℕ) (at : ℕ) → at < length xs → ((k : ℕ) → k < at → number < get_or xs k 0) → get_or xs at 0 < number
    → put_in number xs ≡ take at xs ++ number ∷ drop at xs
put_at number [] at within greater less = absurd (omega (arith, within))
put_at number (x ∷ xs) zero within greater less = put_before number x xs less
put_at number (x ∷ xs) (suc at) within greater less =
    put_after number x xs (greater 0 (omega arith)) ∙ ap (λ ys. x ∷ ys) (put_at number xs at (omega (arith, within)) (λ k below. greater (suc k) (omega (arith, below))) less)

-- and nowhere else where it stands already
pub put_again : (number : ℕ) (xs : List ℕ) (at : ℕ) → at < length xs → ((k : ℕ) → k < at → number < get_or xs k 0) → get_or xs at 0 ≡ number → put_in number xs ≡ xs
put_again number [] at within greater same = absurd (omega (arith, within))
put_again number (x ∷ xs) zero within greater same = put_same number x xs same
put_again number (x ∷ xs) (suc at) within greater same =
    put_after number x xs (greater 0 (omega arith)) ∙ ap (λ ys. x ∷ ys) (put_again number xs at (omega (arith, within)) (λ k below. greater (suc k) (omega (arith, below))) same)
