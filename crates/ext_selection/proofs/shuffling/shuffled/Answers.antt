use Rattle.std.proofs.Common.{ℕ, List, sym, subst, IsPermutation}
use Rattle.std.proofs.lemmas.Result.{IfOk-weaker}
use Rattle.std.proofs.lemmas.List.Sorted.{IsPermutation-trans}
use Rattle.ext_selection.specs.Nodes.{AreIndices}
use Rattle.ext_selection.proofs.Indices.{moved_indices}
use Rattle.ext_selection.specs.Shuffling.{drawn_at, IsOrder}
use Rattle.ext_selection.specs.InnerStarts.{AreStarts, IsRegrouped}
use Rattle.ext_selection.proofs.Starts.{order_again}
use Rattle.ext_selection.proofs.shuffling.shuffled.Goals as goal

pub returns-clause-indices : goal.returns-clause-indices
returns-clause-indices c =
    let indices : List ℕ = c.args.indices.now in
    let levels : List ℕ = c.in_ok-levels.levels.items in
    let level : IsPermutation indices c.as_slice-2.result.now =
    subst (IsPermutation indices) (sym c.as_slice-2.ensures.value) c.in_ok-levels.ensures.indices in
    IfOk-weaker c.regrouped.result
    (λ order. IsPermutation c.as_slice-2.result.now order.items)
    (λ order. IsPermutation indices order.items)
    (λ order p. IsPermutation-trans indices c.as_slice-2.result.now order.items level p)
    c.regrouped.ensures.indices

pub returns-clause-order : goal.returns-clause-order
returns-clause-order c =
    let nodes = c.args.nodes.now in
    let numbers : ℕ → ℕ = drawn_at c.args.seed c.args.ids.now in
    let levels : List ℕ = c.in_ok-levels.levels.items in
    let starts : List ℕ = c.in_ok-starts.starts.items in
    IfOk-weaker c.regrouped.result
    (λ order. IsRegrouped c.as_slice-2.result.now c.as_slice-3.result.now order.items)
    (λ order. IsOrder nodes numbers order.items)
    (λ order g. order_again nodes numbers levels starts order.items c.in_ok-levels.ensures.order
    (subst (λ o. AreStarts nodes o starts) c.as_slice.ensures.value c.in_ok-starts.ensures)
    (subst (λ s. IsRegrouped levels s order.items) c.as_slice-3.ensures.value
    (subst (λ o. IsRegrouped o c.as_slice-3.result.now order.items) c.as_slice-2.ensures.value g)))
    c.regrouped.ensures.order

pub returns-clause-once : goal.returns-clause-once
returns-clause-once c = λ count h.
    IfOk-weaker c.regrouped.result
    (λ order. IsPermutation c.args.indices.now order.items)
    (λ order. AreIndices count order.items)
    (λ order p. moved_indices count c.args.indices.now order.items p h)
    (returns-clause-indices c)
