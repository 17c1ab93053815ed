-- The suites of a report in JUnit's XML, one at a time.
use Rattle.std.proofs.Common.{◌≡◌, ℕ, suc, ◌+◌, List, ◌++◌, refl, sym, ap, ◌∙◌, add-one, append-nil, append_assoc}
use Rattle.ext_tree.specs.Trees.{Id}
use Rattle.ext_lifecycle.specs.FaultTexts.{NodeOutcome}
use Rattle.ext_report.specs.declared.extra.Extra.{Extra}
use Rattle.ext_report.specs.JunitXml.{suite_if_any, suites_below}

pub no-suite : (extras : List Extra) (earlier : List (List (List ℕ))) (ids : List Id) (rs : List NodeOutcome) (text : List ℕ) → text ≡ text ++ suites_below extras earlier ids rs 0
unfolding suites_below
no-suite extras earlier ids rs text = sym (append-nil text)

suites-suc : (extras : List Extra) (earlier : List (List (List ℕ))) (ids : List Id) (rs : List NodeOutcome) (n : ℕ) → suites_below extras earlier ids rs (suc n) ≡ suites_below extras earlier ids rs n ++ suite_if_any extras earlier ids rs n
unfolding suites_below
suites-suc extras earlier ids rs n = refl

pub suites-more : (extras : List Extra) (earlier : List (List (List ℕ))) (ids : List Id) (rs : List NodeOutcome) (n : ℕ) (old text more : List ℕ) → text ≡ old ++ suites_below extras earlier ids rs n → more ≡ text ++ suite_if_any extras earlier ids rs n → more ≡ old ++ suites_below extras earlier ids rs (n + 1)
suites-more extras earlier ids rs n old text more so is =
    is ∙ ap (λ t. t ++ suite_if_any extras earlier ids rs n) so ∙ append_assoc old (suites_below extras earlier ids rs n) (suite_if_any extras earlier ids rs n)
    ∙ ap (λ s. old ++ s) (sym (suites-suc extras earlier ids rs n) ∙ ap (suites_below extras earlier ids rs) (sym (add-one n)))
