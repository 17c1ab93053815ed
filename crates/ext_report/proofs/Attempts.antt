-- The elements of attempts that failed, one at a time.
use Rattle.std.proofs.Common.{◌≡◌, ℕ, ◌+◌, suc, List, ◌++◌, refl, sym, ap, ◌∙◌, append-nil, append_assoc, add-one}
use Rattle.std.specs.Prelude.{Option, slice_get}
use Rattle.ext_report.specs.JunitCases.{flaky_element, flaky_elements}

pub no-attempt : (said : List (List ℕ)) (text : List ℕ) → text ≡ text ++ flaky_elements said 0
unfolding flaky_elements
no-attempt said text = sym (append-nil text)

attempts-suc : (said : List (List ℕ)) (n : ℕ) → flaky_elements said (suc n) ≡ flaky_elements said n ++ flaky_element (n + 1) (slice_get said n)
unfolding flaky_elements
attempts-suc said n = refl

pub attempt-more : (said : List (List ℕ)) (old text more : List ℕ) (n : ℕ) (one : Option (List ℕ)) → text ≡ old ++ flaky_elements said n → one ≡ slice_get said n → more ≡ text ++ flaky_element (n + 1) one
    → more ≡ old ++ flaky_elements said (n + 1)
attempt-more said old text more n one so at is =
    is ∙ ap (λ t. t ++ flaky_element (n + 1) one) so ∙ append_assoc old (flaky_elements said n) (flaky_element (n + 1) one)
    ∙ ap (λ o. old ++ (flaky_elements said n ++ flaky_element (n + 1) o)) at
    ∙ ap (λ es. old ++ es) (sym (attempts-suc said n) ∙ ap (flaky_elements said) (sym (add-one n)))
