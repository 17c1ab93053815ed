-- Whether an id has a segment of a type, one segment at a time.
use Rattle.std.proofs.Common.{◌≡◌, ℕ, ◌+◌, ◌||◌, true, false, List, [], take, get_or, ap, ◌∙◌}
use Rattle.std.specs.List.{slice_get}
use Rattle.std.specs.Prelude.{Some}
use Rattle.std.specs.Str.{bytes_eq}
use Rattle.std.proofs.lemmas.List.Folds.{list_any_at, list_any_more}
use Rattle.std.proofs.lemmas.Option.{get_or_from_slice_get, slice_get_within}
use Rattle.ext_ids.specs.Grammar.{Pair}
use Rattle.ext_report.specs.Reserve.{has_type}

-- a segment's type, read at its place
type-at : (id : List Pair) (i : ℕ) (segment : Pair) (kind : List ℕ) → slice_get id i ≡ Some segment → bytes_eq (get_or id i ([], [])).0 kind ≡ bytes_eq segment.0 kind
type-at id i segment kind at = ap (λ s. bytes_eq s.0 kind) (get_or_from_slice_get id i segment ([], []) at)

pub type-found : (id : List Pair) (i : ℕ) (segment : Pair) (kind : List ℕ) → slice_get id i ≡ Some segment → bytes_eq segment.0 kind ≡ true → has_type kind id ≡ true
type-found id i segment kind at is =
    list_any_at (λ s. bytes_eq s.0 kind) id i ([], []) (slice_get_within id i segment at) (type-at id i segment kind at ∙ is)

pub no-type-more : (id : List Pair) (i : ℕ) (segment : Pair) (kind : List ℕ) → slice_get id i ≡ Some segment → bytes_eq segment.0 kind ≡ false → has_type kind (take i id) ≡ false
    → has_type kind (take (i + 1) id) ≡ false
no-type-more id i segment kind at other none =
    list_any_more (λ s. bytes_eq s.0 kind) id i ([], []) (slice_get_within id i segment at)
    ∙ ap (λ b. b || bytes_eq (get_or id i ([], [])).0 kind) none ∙ type-at id i segment kind at ∙ other
