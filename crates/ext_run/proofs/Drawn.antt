-- What is drawn of a node, and the faults of one node more.
use Rattle.std.proofs.Common.{◌≡◌, ℕ, suc, ◌+◌, Bool, List, [], ◌++◌, codes, length, string_bytes, refl, ap, sym, ◌∙◌, add-one}
use Rattle.std.specs.Prelude.{option_map}
use Rattle.std.specs.List.{flat_map}
use Rattle.std.proofs.lemmas.List.Folds.{flat_map-map}
use Rattle.ext_ids.specs.Grammar.{Pair}
use Rattle.ext_tree.specs.Trees.{Id, id_at}
use Rattle.ext_lifecycle.specs.Modes.{is_concurrent}
use Rattle.ext_plan_reading.specs.PlanNode.{PlanNode}
use Rattle.ext_plan_reading.specs.Plans.{lock_view, locks_view, node_view, steps_view}
use Rattle.ext_report.proofs.Lines.{joined}
use Rattle.ext_run.specs.Drawings.{lock_words, node_words, test_words, word_if}
use Rattle.ext_run.specs.Failures.{Listing, failures_at, failures_below}
use Rattle.ext_run.specs.declared.failures.NodeFault.{NodeFault}

-- four writes in a row are what is drawn
pub words-written : (node : PlanNode) (concurrent : Bool) (text a b c d : List ℕ) → concurrent ≡ is_concurrent node.mode
    → a ≡ text ++ word_if concurrent (codes ", concurrent") → b ≡ a ++ word_if node.isolated (codes ", isolated") → c ≡ b ++ flat_map (λ lock. lock_words (lock_view lock)) node.locks.items
    → d ≡ c ++ test_words (option_map steps_view node.test) → d ≡ text ++ node_words (node_view node)
unfolding node_words
words-written node concurrent text a b c d mode first second third fourth =
    let mode_words = word_if (is_concurrent node.mode) (codes ", concurrent") in
    let isolated_words = word_if node.isolated (codes ", isolated") in
    let all_locks = flat_map lock_words (locks_view node.locks) in
    let steps_words = test_words (option_map steps_view node.test) in
    let one : a ≡ text ++ mode_words = first ∙ ap (λ v. text ++ word_if v (codes ", concurrent")) mode in
    let three : c ≡ b ++ all_locks = third ∙ ap (λ l. b ++ l) (sym (flat_map-map lock_words lock_view node.locks.items)) in
    let two = joined text a b mode_words isolated_words one second in
    joined text c d ((mode_words ++ isolated_words) ++ all_locks) steps_words (joined text b c (mode_words ++ isolated_words) all_locks two three) fourth

pub no-failures : (line : Listing) (ids : List Id) (faults : List NodeFault) (text : List ℕ) → text ≡ [] → text ≡ failures_below line ids faults 0
unfolding failures_below
no-failures line ids faults text none = none

below-suc : (line : Listing) (ids : List Id) (faults : List NodeFault) (n : ℕ) → failures_below line ids faults (suc n) ≡ failures_below line ids faults n ++ failures_at line (id_at ids n) n faults
unfolding failures_below
below-suc line ids faults n = refl

pub failures-more : (line : Listing) (ids : List Id) (faults : List NodeFault) (n : ℕ) (id : List Pair) (text more : List ℕ) → id ≡ id_at ids n → text ≡ failures_below line ids faults n → more ≡ text ++ failures_at line id n faults
    → more ≡ failures_below line ids faults (n + 1)
failures-more line ids faults n id text more at so is =
    is ∙ ap (λ t. t ++ failures_at line id n faults) so ∙ ap (λ i. failures_below line ids faults n ++ failures_at line i n faults) at ∙ sym (below-suc line ids faults n) ∙ ap (failures_below line ids faults) (sym (add-one n))
