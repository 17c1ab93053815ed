use Rattle.std.proofs.Common.{ap, subst, sym, ℕ, ◌∙◌, ◌≡◌, ◌≢◌}
use Rattle.ext_store.specs.Computing.{IfComputed, Uses, without_factory}
use Rattle.ext_store.specs.LaneCalls.{Grows}
use Rattle.ext_store.specs.Stores.{StoreLane, IsKeptBy}
use Rattle.std.specs.Fn.{FnOnceReturnsAt}
use Rattle.ext_tree.specs.Keys.{KeyValue, key_at}
use Rattle.ext_store.proofs.Numbered.{one_key}
use Rattle.ext_store.proofs.store.Store.compute_along_wait.Goals as goal

pub returns-clause-apart : goal.returns-clause-apart
returns-clause-apart g c =
    subst (λ (l : StoreLane g.row.V.Denot). IfComputed c.compute_along_wait_named.result (λ number. (m : ℕ) → IsKeptBy l m → m ≢ number))
    ((λ i. record { cells = c.lane.inside.cells; known = c.lane.inside.notes; faults = c.lane.inside.faults; keys = c.key-name.ensures.unchanged i }) ∙ c.lane.view_is) c.compute_along_wait_named.ensures.apart

pub returns-clause-grows : goal.returns-clause-grows
returns-clause-grows g c =
    subst (λ (l : StoreLane g.row.V.Denot). Grows c.args.self.now.id l c.compute_along_wait_named.new.lane)
    ((λ i. record { cells = c.lane.inside.cells; known = c.lane.inside.notes; faults = c.lane.inside.faults; keys = c.key-name.ensures.unchanged i }) ∙ c.lane.view_is) c.compute_along_wait_named.ensures.grows

-- the lane knows one key of the number
pub returns-clause-factory : goal.returns-clause-factory
returns-clause-factory g c name known =
    let inside : StoreLane g.row.V.Denot = record { cells = c.lane.inside.cells; known = c.lane.inside.notes; faults = c.lane.inside.faults; keys = c.key-name.new.notes } in
    let lane : inside ≡ c.args.lane.now = (λ i. record { cells = c.lane.inside.cells; known = c.lane.inside.notes; faults = c.lane.inside.faults; keys = c.key-name.ensures.unchanged i }) ∙ c.lane.view_is in
    let same : c.key-name.result.now ≡ name = one_key _ _ (sym c.key-name.ensures.key ∙ (ap (λ (l : StoreLane g.row.V.Denot). key_at l.keys c.args.key) c.lane.view_is ∙ known)) in
    subst (λ (z : StoreLane g.row.V.Denot × KeyValue). Uses (λ answer. FnOnceReturnsAt g.F.FnOnce c.args.factory z.1 answer) z.0 c.compute_along_wait_named.new.lane (without_factory c.compute_along_wait_named.result)) (λ i. (lane i, same i)) c.compute_along_wait_named.ensures.factory
