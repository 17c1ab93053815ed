-- The lines of an earlier report, one more at a time.
use Rattle.std.proofs.Common.{◌≡◌, ◌∙◌, ◌++◌, ◌∷◌, [], ℕ, Bool, List, ap, append-nil, is_some, map, subst, sym, true}
use Rattle.std.specs.Borrow.{Bor}
use Rattle.std.specs.Prelude.{All}
use Rattle.std.proofs.lemmas.Grind.{flat_map-append}
use Rattle.std.proofs.lemmas.List.{map-append}
use Rattle.std.proofs.lemmas.List.Elements.{All-push}
use Rattle.serde_json.specs.Read.{read}
use Rattle.ext_runner.specs.InnerEarlierRuns.{failed_in, failed_ids}

abbrev pub text_of : Bor (List ℕ) → List ℕ
text_of line = line.now

failed-push : (are_tests : Bool) (ids more : List (List ℕ)) (lines : List (List ℕ)) (line : List ℕ) → ids ≡ failed_ids are_tests lines → more ≡ ids ++ failed_in are_tests (read line) → more ≡ failed_ids are_tests (lines ++ line ∷ [])
failed-push are_tests ids more lines line before grown =
    grown ∙ ap (λ all. all ++ failed_in are_tests (read line)) before ∙ ap (λ one. failed_ids are_tests lines ++ one) (sym (append-nil (failed_in are_tests (read line))))
    ∙ sym (flat_map-append (λ (text : List ℕ). failed_in are_tests (read text)) lines (line ∷ []))

pub failed-more : (are_tests : Bool) (ids more : List (List ℕ)) (lines : List (Bor (List ℕ))) (line : Bor (List ℕ)) → ids ≡ failed_ids are_tests (map text_of lines) → more ≡ ids ++ failed_in are_tests (read line.now)
    → more ≡ failed_ids are_tests (map text_of (lines ++ line ∷ []))
failed-more are_tests ids more lines line before grown =
    failed-push are_tests ids more (map text_of lines) line.now before grown ∙ ap (failed_ids are_tests) (sym (map-append text_of lines (line ∷ [])))

pub read-more : (lines : List (Bor (List ℕ))) (line : Bor (List ℕ)) → All (λ (text : List ℕ). is_some (read text) ≡ true) (map text_of lines) → is_some (read line.now) ≡ true
    → All (λ (text : List ℕ). is_some (read text) ≡ true) (map text_of (lines ++ line ∷ []))
read-more lines line before is_read =
    subst (All (λ (text : List ℕ). is_some (read text) ≡ true)) (sym (map-append text_of lines (line ∷ []))) (All-push (λ (text : List ℕ). is_some (read text) ≡ true) (map text_of lines) line.now before is_read)
