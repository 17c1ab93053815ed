use Rattle.std.proofs.Common.{◌≡◌, ◌∙◌, refl, sym, ap, subst, length, map}
use Rattle.std.specs.Prelude.{All}
use Rattle.ext_cells.specs.Lanes.{fresh_lanes}
use Rattle.ext_store_core.specs.ContextCalls.{ContextCells}
use Rattle.ext_store.specs.Stores.{IsLaneOf, IsCloserOf, fresh_store_lane, closers_below}
use Rattle.ext_store.proofs.Fresh.{lanes_own, closers_own}
use Rattle.ext_store.proofs.Opened.{opened_bad}
use Rattle.ext_store.proofs.store.Store.open.Goals as goal

pub returns-clause-slots : goal.returns-clause-slots
returns-clause-slots g c = c.in_ok-cells.ensures.parts.slots

pub returns-clause-tries : goal.returns-clause-tries
returns-clause-tries g c = ap (λ (s : ContextCells). s.tries) c.new-shared.ensures ∙ c.in_ok-cells.ensures.parts.tries

pub returns-clause-lanes : goal.returns-clause-lanes
returns-clause-lanes g c =
    subst (λ (s : ContextCells). c.in_ok-cells.lanes.items ≡ map (fresh_store_lane c.in_ok-cells.values c.in_ok-cells.faults s.keys) (fresh_lanes s.cells 0 c.args.limits.lanes)) (sym c.new-shared.ensures) c.in_ok-cells.ensures.parts.lanes

pub returns-clause-own_lanes : goal.returns-clause-own_lanes
returns-clause-own_lanes g c =
    subst (λ (s : ContextCells). All (IsLaneOf (record { cells = s.cells; slots = c.in_ok-cells.values; fault_slots = c.in_ok-cells.faults; keys = s.keys })) c.in_ok-cells.lanes.items) (sym c.new-shared.ensures)
    (lanes_own (record { cells = c.in_ok-cells.cells.id; slots = c.in_ok-cells.values; fault_slots = c.in_ok-cells.faults; keys = c.in_ok-cells.keys }) c.in_ok-cells.lanes.items _ c.args.limits.lanes c.in_ok-cells.ensures.parts.lanes refl)

pub returns-clause-closers : goal.returns-clause-closers
returns-clause-closers g c = subst (λ (s : ContextCells). c.in_ok-cells.closers.items ≡ closers_below s.cells (length c.args.tree)) (sym c.new-shared.ensures) (c.in_ok-cells.ensures.parts.closers ∙ ap (closers_below c.in_ok-cells.cells.id) c.len-contexts.ensures.count)

pub returns-clause-own_closers : goal.returns-clause-own_closers
returns-clause-own_closers g c =
    subst (λ (s : ContextCells). All (IsCloserOf (record { id = record { cells = s.cells; slots = c.in_ok-cells.values; fault_slots = c.in_ok-cells.faults; keys = s.keys }; tree = s.tree; tries = s.tries })) c.in_ok-cells.closers.items) (sym c.new-shared.ensures)
    (closers_own (record { id = record { cells = c.in_ok-cells.cells.id; slots = c.in_ok-cells.values; fault_slots = c.in_ok-cells.faults; keys = c.in_ok-cells.keys }; tree = c.args.tree; tries = c.in_ok-cells.cells.tries }) c.in_ok-cells.closers.items _ c.len-contexts.ensures.count c.in_ok-cells.ensures.parts.closers)

pub returns-clause-bad_limit : goal.returns-clause-bad_limit
returns-clause-bad_limit g c = opened_bad _ _ _ _ _ _ c.in_ok-cells.ensures.within

pub returns-clause-keys : goal.returns-clause-keys
returns-clause-keys g c = ap (λ (s : ContextCells). length s.keys) c.new-shared.ensures ∙ c.in_ok-cells.ensures.parts.key_places
