use Rattle.std.proofs.Common.{◌≡◌, ◌∙◌, ℕ, List, map, ap, sym, subst, IsPermutation}
use Rattle.std.proofs.lemmas.Result.{IfOk-weaker}
use Rattle.std.proofs.lemmas.List.Sorted.{All-permutation, IsPermutation-map}
use Rattle.ext_selection.specs.InnerStarts.{IsStartRank, IsRegrouped}
use Rattle.ext_selection.specs.declared.rank.Rank.{Rank}
use Rattle.ext_selection.proofs.Starts.{regrouped_is}
use Rattle.ext_selection.proofs.grouping.regrouped.Goals as goal

pub returns-clause-indices : goal.returns-clause-indices
returns-clause-indices c =
    let ranks : List Rank = c.in_ok-ranks.ranks.items in
    let sorted : List Rank = c.in_ok-sorted.sorted.items in
    IfOk-weaker c.indices_of.result
    (λ order. order.items ≡ map (λ rank. rank.index) c.as_slice.result.now)
    (λ order. IsPermutation c.args.order.now order.items)
    (λ order e. subst (IsPermutation c.args.order.now) (sym (e ∙ ap (λ rs. map (λ rank. rank.index) rs) c.as_slice.ensures.value))
    (subst (λ ps. IsPermutation ps (map (λ rank. rank.index) sorted)) c.in_ok-ranks.ensures.indices
    (IsPermutation-map (λ rank. rank.index) ranks sorted c.in_ok-sorted.ensures.same)))
    c.indices_of.ensures

pub returns-clause-order : goal.returns-clause-order
returns-clause-order c =
    let order : List ℕ = c.args.order.now in
    let starts : List ℕ = c.args.starts.now in
    let ranks : List Rank = c.in_ok-ranks.ranks.items in
    let sorted : List Rank = c.in_ok-sorted.sorted.items in
    IfOk-weaker c.indices_of.result
    (λ regrouped. regrouped.items ≡ map (λ rank. rank.index) c.as_slice.result.now)
    (λ regrouped. IsRegrouped order starts regrouped.items)
    (λ regrouped e. subst (IsRegrouped order starts) (sym (e ∙ ap (λ rs. map (λ rank. rank.index) rs) c.as_slice.ensures.value))
    (regrouped_is order starts sorted
    (All-permutation (IsStartRank order starts) ranks sorted c.in_ok-sorted.ensures.same c.in_ok-ranks.ensures.each)
    c.in_ok-sorted.ensures.rising))
    c.indices_of.ensures
