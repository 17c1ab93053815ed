use Rattle.ext_engine.specs.TreeRun.{setting_of}
use Rattle.ext_engine.proofs.Going.{tree_goes}
use Rattle.ext_engine.proofs.Ordered.{containers_made, containers_seen, nodes_seen}
use Rattle.ext_engine.proofs.laws.order_laws.Goals as goal

pub returns-clause-go_on : goal.returns-clause-go_on
returns-clause-go_on g c = λ suite store locks moves.
    tree_goes (setting_of g.V.StoreValue.is_closeable g.S.Suite.suite_view g.S.Suite.enabled_gives g.S.Callbacks.registered g.S.Suite.call_gives g.S.Suite.action_gives g.S.Action.CloseAction.close_gives suite store locks) moves

pub returns-clause-seen : goal.returns-clause-seen
returns-clause-seen g c = λ suite store locks moves.
    nodes_seen (setting_of g.V.StoreValue.is_closeable g.S.Suite.suite_view g.S.Suite.enabled_gives g.S.Callbacks.registered g.S.Suite.call_gives g.S.Suite.action_gives g.S.Action.CloseAction.close_gives suite store locks) moves

pub returns-clause-containers_seen : goal.returns-clause-containers_seen
returns-clause-containers_seen g c = λ suite store locks moves.
    containers_seen (setting_of g.V.StoreValue.is_closeable g.S.Suite.suite_view g.S.Suite.enabled_gives g.S.Callbacks.registered g.S.Suite.call_gives g.S.Suite.action_gives g.S.Action.CloseAction.close_gives suite store locks) moves

pub returns-clause-containers : goal.returns-clause-containers
returns-clause-containers g c = λ suite store locks moves.
    containers_made (setting_of g.V.StoreValue.is_closeable g.S.Suite.suite_view g.S.Suite.enabled_gives g.S.Callbacks.registered g.S.Suite.call_gives g.S.Suite.action_gives g.S.Action.CloseAction.close_gives suite store locks) moves
