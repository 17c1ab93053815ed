use Rattle.std.proofs.Common.{◌≡◌, ◌∙◌, ℕ, List, map, ap, sym, subst, IsPermutation}
use Rattle.std.proofs.lemmas.Result.{IfOk-weaker}
use Rattle.std.proofs.lemmas.List.Sorted.{All-permutation, IsPermutation-map}
use Rattle.ext_selection.specs.Shuffling.{drawn_at, IsOrder}
use Rattle.ext_selection.specs.InnerRanks.{AreDepths, IsRank}
use Rattle.ext_selection.specs.declared.rank.Rank.{Rank}
use Rattle.ext_selection.proofs.Ranks.{is_order}
use Rattle.ext_selection.proofs.shuffling.by_levels.Goals as goal

pub returns-clause-indices : goal.returns-clause-indices
returns-clause-indices c =
    let ranks : List Rank = c.in_ok-ranks.ranks.items in
    let sorted : List Rank = c.in_ok-sorted.sorted.items in
    IfOk-weaker c.indices_of.result
    (λ order. order.items ≡ map (λ rank. rank.index) c.as_slice-2.result.now)
    (λ order. IsPermutation c.args.indices.now order.items)
    (λ order e. subst (IsPermutation c.args.indices.now) (sym (e ∙ ap (λ rs. map (λ rank. rank.index) rs) c.as_slice-2.ensures.value))
    (subst (λ ps. IsPermutation ps (map (λ rank. rank.index) sorted)) c.in_ok-ranks.ensures.indices
    (IsPermutation-map (λ rank. rank.index) ranks sorted c.in_ok-sorted.ensures.same)))
    c.indices_of.ensures

pub returns-clause-order : goal.returns-clause-order
returns-clause-order c =
    let nodes = c.args.nodes.now in
    let numbers : ℕ → ℕ = drawn_at c.args.seed c.args.ids.now in
    let depths : List ℕ = c.as_slice.result.now in
    let ranks : List Rank = c.in_ok-ranks.ranks.items in
    let sorted : List Rank = c.in_ok-sorted.sorted.items in
    IfOk-weaker c.indices_of.result
    (λ order. order.items ≡ map (λ rank. rank.index) c.as_slice-2.result.now)
    (λ order. IsOrder nodes numbers order.items)
    (λ order e. subst (IsOrder nodes numbers) (sym (e ∙ ap (λ rs. map (λ rank. rank.index) rs) c.as_slice-2.ensures.value))
    (is_order nodes numbers depths sorted
    (subst (AreDepths nodes) (sym c.as_slice.ensures.value) c.in_ok-depths.ensures)
    (record {
      each = All-permutation (IsRank nodes numbers depths) ranks sorted c.in_ok-sorted.ensures.same c.in_ok-ranks.ensures.each;
      up = c.in_ok-sorted.ensures.rising;
    })))
    c.indices_of.ensures
