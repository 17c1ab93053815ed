-- The names of suites and cases: a class from its values, one at a time, and the value of a last segment.
use Rattle.std.proofs.Common.{arith, ◌≡◌, ℕ, ◌+◌, ◌-◌, ◌<◌, ◌≤◌, List, [], ◌∷◌, ◌++◌, codes, drop, length, get_or, refl, sym, ap, ◌∙◌, append-nil, append_assoc}
use Rattle.std.specs.List.{flat_map, slice_get}
use Rattle.std.specs.Prelude.{Some}
use Rattle.std.proofs.lemmas.List.{drop_more, drop_all}
use Rattle.std.proofs.lemmas.Option.{get_or_from_slice_get, slice_get_within}
use Rattle.ext_ids.specs.Grammar.{Pair}
use Rattle.ext_report.specs.JunitCases.{case_name, class_name}
use Rattle.ext_report.specs.Xml.{xml_text}

-- the last segment's value was written
pub case-named : (id : List Pair) (n : ℕ) (segment : Pair) (old new : List ℕ) → n ≡ length id → slice_get id (n - 1) ≡ Some segment → new ≡ old ++ xml_text segment.1 → new ≡ old ++ case_name id
case-named id n segment old new count found wrote =
    wrote ∙ ap (λ s. old ++ xml_text s.1) (sym (get_or_from_slice_get id (n - 1) segment ([], []) found)) ∙ ap (λ m. old ++ xml_text (get_or id (m - 1) ([], [])).1) count

-- a value behind another
abbrev pub behind : Pair → List ℕ
behind segment = codes "." ++ segment.1

-- what is read at a place
value-at : (id : List Pair) (i k : ℕ) (segment : Pair) → slice_get id i ≡ Some segment → i ≡ k → segment.1 ≡ (get_or id k ([], [])).1
value-at id i k segment found is = ap (λ s. s.1) (sym (get_or_from_slice_get id i segment ([], []) found) ∙ ap (λ j. get_or id j ([], [])) is)

-- the first value below it stands, and the others are to come
pub first-value : (id : List Pair) (segment : Pair) (name : List ℕ) → 1 < length id → slice_get id 1 ≡ Some segment → name ≡ segment.1 → name ++ flat_map behind (drop 2 id) ≡ class_name id
first-value [] segment name more found is = absurd (omega (arith, more))
first-value (engine ∷ []) segment name more found is = absurd (omega (arith, more))
first-value (engine ∷ below ∷ others) segment name more found is =
    ap (λ v. v ++ flat_map behind others) (is ∙ value-at (engine ∷ below ∷ others) 1 1 segment found refl)

-- one value more
pub value-more : (id : List Pair) (i : ℕ) (segment : Pair) (old new : List ℕ) → slice_get id i ≡ Some segment → new ≡ old ++ behind segment → old ++ flat_map behind (drop i id) ≡ class_name id
    → new ++ flat_map behind (drop (i + 1) id) ≡ class_name id
value-more id i segment old new found wrote before =
    let left = drop_more id i segment (slice_get_within id i segment found) ∙ ap (λ s. s ∷ drop (i + 1) id) (get_or_from_slice_get id i segment segment found) in
    ap (λ t. t ++ flat_map behind (drop (i + 1) id)) wrote ∙ append_assoc old (behind segment) (flat_map behind (drop (i + 1) id)) ∙ ap (λ l. old ++ flat_map behind l) (sym left) ∙ before

-- no value is left
pub no-value-left : (id : List Pair) (i : ℕ) (name : List ℕ) → length id ≤ i → name ++ flat_map behind (drop i id) ≡ class_name id → name ≡ class_name id
no-value-left id i name past so_far = sym (append-nil name) ∙ ap (λ l. name ++ flat_map behind l) (sym (drop_all i id past)) ∙ so_far
