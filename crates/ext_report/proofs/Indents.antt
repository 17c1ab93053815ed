-- Indents, one level at a time, and what a line begins with.
use Rattle.std.proofs.Common.{◌≡◌, ℕ, ◌+◌, ◌-◌, suc, List, [], ◌++◌, codes, length, sym, ap, ◌∙◌, append-nil, append_assoc, add-one, refl}
use Rattle.ext_ids.specs.Grammar.{Pair}
use Rattle.std.specs.List.{slice_get, slice_index_or}
use Rattle.std.specs.Prelude.{Some}
use Rattle.std.proofs.lemmas.Option.{get_or_from_slice_get}
use Rattle.ext_report.specs.TreeLines.{indent, segment_words, tree_head}

pub no-indent : (text : List ℕ) → text ≡ text ++ indent 0
unfolding indent
no-indent text = sym (append-nil text)

indent-suc : (n : ℕ) → indent (suc n) ≡ indent n ++ codes "  "
unfolding indent
indent-suc n = refl

pub indent-more : (old text more : List ℕ) (n : ℕ) → text ≡ old ++ indent n → more ≡ text ++ codes "  " → more ≡ old ++ indent (n + 1)
indent-more old text more n so is =
    is ∙ ap (λ t. t ++ codes "  ") so ∙ append_assoc old (indent n) (codes "  ") ∙ ap (λ i. old ++ i) (sym (indent-suc n) ∙ ap indent (sym (add-one n)))

-- the indent and the last segment are the beginning of a line
pub head-written : (id : List Pair) (n last : ℕ) (segment : Pair) (old text more : List ℕ) → n ≡ length id → last ≡ n - 1 → slice_get id last ≡ Some segment → text ≡ old ++ indent last → more ≡ text ++ segment_words segment
    → more ≡ old ++ tree_head id
unfolding tree_head
head-written id n last segment old text more count at found indented wrote =
    let place : last ≡ length id - 1 = at ∙ ap (λ m. m - 1) count in
    let is : segment ≡ slice_index_or id last ([], []) = sym (get_or_from_slice_get id last segment ([], []) found) in
    wrote ∙ ap (λ t. t ++ segment_words segment) indented ∙ append_assoc old (indent last) (segment_words segment)
    ∙ ap (λ s. old ++ (indent last ++ segment_words s)) is ∙ ap (λ k. old ++ (indent k ++ segment_words (slice_index_or id k ([], [])))) place
