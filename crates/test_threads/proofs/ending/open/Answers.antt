use Rattle.std.proofs.Common.{◌<◌, ◌∷◌, [], length, rules, get_or, ap, ◌∙◌, subst, arith, length-append}
use Rattle.std.specs.Prelude.{All}
use Rattle.std.proofs.lemmas.List.{get_or_append_left}
use Rattle.ext_store.specs.Stores.{IsLaneOf}
use Rattle.test_threads.proofs.ending.open.Goals as goal

pub returns-clause-others : goal.returns-clause-others
returns-clause-others c = λ k d less.
    let all : All (IsLaneOf c.in_ok-store.store.id) c.in_ok-store.lanes.items = search rules in
    let items = c.in_ok-first.ensures.items in
    let more : k < length c.in_ok-store.lanes.items = omega (arith, less, ap length items, length-append c.pop.new.self.items (c.in_ok-first.first ∷ [])) in
    subst (IsLaneOf c.in_ok-store.store.id) (ap (λ xs. get_or xs k d) items ∙ get_or_append_left c.pop.new.self.items (c.in_ok-first.first ∷ []) d k less) (all k d more)
