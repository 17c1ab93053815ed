-- The lines of a report, one more at a time.
use Rattle.std.proofs.Common.{◌≡◌, ℕ, ◌+◌, ◌<◌, List, [], ◌++◌, length, take, get_or, refl, append-nil, append_assoc, ◌∙◌, ap}
use Rattle.std.specs.List.{flat_map, slice_index_or}
use Rattle.std.proofs.lemmas.List.{take_more, map-append}
use Rattle.std.proofs.lemmas.Grind.{flat_map-append}
use Rattle.ext_ids.specs.Grammar.{Pair}
use Rattle.ext_tree.specs.Trees.{id_at}
use Rattle.ext_lifecycle.specs.declared.node_result.NodeResult.{NodeResult}
use Rattle.ext_lifecycle.specs.FaultTexts.{NodeOutcome, result_view, results_view}
use Rattle.ext_report.specs.declared.extra.Extra.{Extra}
use Rattle.ext_report.specs.Report.{line_of, lines_of}

-- what is told of one result more
pub results-more : {B : Type 0} (tell : NodeOutcome → List B) (rs : List NodeResult) (i : ℕ) (r : NodeResult) → i < length rs → r ≡ get_or rs i r
    → flat_map tell (results_view (take (i + 1) rs)) ≡ flat_map tell (results_view (take i rs)) ++ tell (result_view r)
results-more tell rs i r h at =
    rw (take_more rs i r h, map-append, flat_map-append, ← at, append-nil) refl

-- the lines of one result more, whatever a line is
pub lines-more : (line : List Pair → NodeOutcome → List ℕ) (ids : List (List Pair)) (rs : List NodeResult) (i : ℕ) (r : NodeResult) (id : List Pair) → i < length rs → r ≡ get_or rs i r → id ≡ id_at ids r.node
    → flat_map (λ o. line (slice_index_or ids o.node []) o) (results_view (take (i + 1) rs)) ≡ flat_map (λ o. line (slice_index_or ids o.node []) o) (results_view (take i rs)) ++ line id (result_view r)
lines-more line ids rs i r id h at is =
    rw is (results-more (λ o. line (slice_index_or ids o.node []) o) rs i r h at)

pub lines_of-more : (extras : List Extra) (ids : List (List Pair)) (rs : List NodeResult) (i : ℕ) (r : NodeResult) (id : List Pair) → i < length rs → r ≡ get_or rs i r → id ≡ id_at ids r.node
    → lines_of extras ids (results_view (take (i + 1) rs)) ≡ lines_of extras ids (results_view (take i rs)) ++ line_of extras id (result_view r)
lines_of-more extras ids rs i r id h at is = lines-more (line_of extras) ids rs i r id h at is

-- the lines of one context more, or of anything else
pub context-more : {A : Type 0} (line : A → List ℕ) (contexts : List A) (i : ℕ) (c : A) → i < length contexts → c ≡ get_or contexts i c
    → flat_map line (take (i + 1) contexts) ≡ flat_map line (take i contexts) ++ line c
context-more line contexts i c h at =
    rw (take_more contexts i c h, flat_map-append, ← at, append-nil) refl

-- what two writes in a row leave
pub joined : {A : Type 0} (w x y a b : List A) → x ≡ w ++ a → y ≡ x ++ b → y ≡ w ++ (a ++ b)
joined w x y a b first second = second ∙ ap (λ l. l ++ b) first ∙ append_assoc w a b
