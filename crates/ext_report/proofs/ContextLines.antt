-- The lines of a context, from the results grouped by their contexts.
use Rattle.std.proofs.Common.{◌≡◌, ℕ, ◌+◌, ◌<◌, All, List, [], ◌∷◌, ◌++◌, length, map, get_or, take, refl, sym, ap, subst, ◌∙◌, append-nil}
use Rattle.std.specs.Prelude.{◌==◌, filter}
use Rattle.std.specs.Borrow.{Bor}
use Rattle.std.specs.Global.{Vec}
use Rattle.std.specs.List.{flat_map}
use Rattle.std.proofs.lemmas.List.{get_or_default, map-append, take_more}
use Rattle.std.proofs.lemmas.List.Elements.{All-get_or}
use Rattle.std.proofs.lemmas.Grind.{flat_map-append}
use Rattle.ext_tree.specs.Trees.{Id, id_at}
use Rattle.ext_lifecycle.specs.declared.node_result.NodeResult.{NodeResult}
use Rattle.ext_lifecycle.specs.FaultTexts.{NodeOutcome, result_view, results_view}
use Rattle.ext_report.specs.declared.extra.Extra.{Extra}
use Rattle.ext_report.specs.Groups.{AreGrouped, numbered, shown}
use Rattle.ext_report.specs.Report.{outcome_part}
use Rattle.ext_report.specs.TreeLines.{tree_head, tree_line}
use Rattle.ext_report.proofs.Groupings.{group_read}
use Rattle.ext_report.proofs.Lines.{context-more}
use Rattle.ext_report.proofs.SuiteCases.{kept_same}

-- the results of a context
of_context : (k : ℕ) (rs : List NodeResult) → results_view (numbered k (map (λ r. r.node) rs) rs) ≡ filter (λ r. r.node == k) (results_view rs)
of_context k [] = refl
of_context k (r ∷ rs) =
    kept_same (r.node == k) (r.node == k) r (numbered k (map (λ r. r.node) rs) rs) (filter (λ r. r.node == k) (results_view rs)) refl (of_context k rs)

-- what is read of a context's list
pub read_results : (n k : ℕ) (rs : List NodeResult) (groups : List (Vec (Bor NodeResult))) (v : Vec (Bor NodeResult)) (refs : List (Bor NodeResult)) → k < n → k < length groups → v ≡ get_or groups k v → refs ≡ v.items
    → AreGrouped n (map (λ r. r.node) rs) rs groups → results_view (shown refs) ≡ filter (λ r. r.node == k) (results_view rs)
read_results n k rs groups v refs less within is same are =
    ap (λ l. results_view (shown l)) (same ∙ sym (group_read groups k v within is)) ∙ ap results_view (are.each k less) ∙ of_context k rs

-- what is told of one result more
pub shown_more : (tell : NodeOutcome → List ℕ) (refs : List (Bor NodeResult)) (i : ℕ) (ref : Bor NodeResult) → i < length refs → ref ≡ get_or refs i ref
    → flat_map tell (results_view (shown (take (i + 1) refs))) ≡ flat_map tell (results_view (shown (take i refs))) ++ tell (result_view ref.now)
shown_more tell refs i ref less is =
    rw (take_more refs i ref less, map-append, map-append, flat_map-append, ← is, append-nil) refl

-- the lines of one context more
pub told_more : (extras : List Extra) (ids : List Id) (rs : List NodeResult) (groups : List (Vec (Bor NodeResult))) (order : List ℕ) (i : ℕ) (v : Vec (Bor NodeResult)) (refs : List (Bor NodeResult)) (id : Id) (text more : List ℕ)
    → All (λ k. k < length ids) order → i < length order → length groups ≡ length ids → v ≡ get_or groups (get_or order i 0) v → refs ≡ v.items → AreGrouped (length ids) (map (λ r. r.node) rs) rs groups
    → id ≡ id_at ids (get_or order i 0) → text ≡ flat_map (tree_line extras ids (results_view rs)) (take i order) → more ≡ text ++ flat_map (λ r. tree_head id ++ outcome_part extras r) (results_view (shown refs))
    → more ≡ flat_map (tree_line extras ids (results_view rs)) (take (i + 1) order)
told_more extras ids rs groups order i v refs id text more all less count is same are at so_far told =
    let k = get_or order i 0 in
    let within : k < length ids = All-get_or (λ j. j < length ids) order i 0 less all in
    let kept = read_results (length ids) k rs groups v refs within (subst (λ n. k < n) (sym count) within) is same are in
    let before = flat_map (tree_line extras ids (results_view rs)) (take i order) in
    told ∙ ap (λ t. t ++ flat_map (λ r. tree_head id ++ outcome_part extras r) (results_view (shown refs))) so_far
    ∙ ap (λ d. before ++ flat_map (λ r. tree_head d ++ outcome_part extras r) (results_view (shown refs))) at
    ∙ ap (λ l. before ++ flat_map (λ r. tree_head (id_at ids k) ++ outcome_part extras r) l) kept
    ∙ sym (context-more (tree_line extras ids (results_view rs)) order i k less (get_or_default order i 0 k less))
