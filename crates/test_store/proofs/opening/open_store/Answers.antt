use Rattle.std.proofs.Common.{Some, ◌<◌, length, slice_index_or, subst, sym}
use Rattle.std.proofs.lemmas.List.Elements.{All-pop}
use Rattle.ext_store.specs.Stores.{IsCloserOf, IsLaneOf}
use Rattle.test_store.proofs.opening.open_store.Goals as goal

pub returns-clause-first : goal.returns-clause-first
returns-clause-first g c =
    let last = c.in_ok-store.ensures.lanes in
    let own = IsLaneOf c.in-Ok.store.id in
    let rest = All-pop own c.in-Ok.lanes.items last.1 (Some c.in_ok-store.second) last.2 c.in-Ok.ensures.own_lanes in
    subst (λ store. IsLaneOf store.id c.in_ok-store.first) (sym c.in_ok-store.ensures.same.0) (All-pop own last.1 last.0 (Some c.in_ok-store.first) last.3 rest.0).1

pub returns-clause-second : goal.returns-clause-second
returns-clause-second g c =
    let last = c.in_ok-store.ensures.lanes in
    let own = IsLaneOf c.in-Ok.store.id in
    subst (λ store. IsLaneOf store.id c.in_ok-store.second) (sym c.in_ok-store.ensures.same.0)
    (All-pop own c.in-Ok.lanes.items last.1 (Some c.in_ok-store.second) last.2 c.in-Ok.ensures.own_lanes).1

pub returns-clause-closers : goal.returns-clause-closers
returns-clause-closers g c k d within =
    let same = c.in_ok-store.ensures.same in
    let of_opened = subst (λ closers. k < length closers.items → IsCloserOf c.in-Ok.store (slice_index_or closers.items k d)) (sym same.1) (c.in-Ok.ensures.own_closers k d) in
    subst (λ store. IsCloserOf store (slice_index_or c.in_ok-store.closers.items k d)) (sym same.0) (of_opened within)
