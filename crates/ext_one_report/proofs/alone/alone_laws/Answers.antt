use Rattle.ext_engine.specs.TreeRun.{setting_of}
use Rattle.ext_one_report.proofs.CallsAlone.{calls_are_alone}
use Rattle.ext_one_report.proofs.Containers.{children_alone, containers_alone, tests_alone}
use Rattle.ext_one_report.proofs.WholeAlone.{fresh_all, whole_alone}
use Rattle.ext_one_report.proofs.alone.alone_laws.Goals as goal

pub returns-clause-whole : goal.returns-clause-whole
returns-clause-whole g c = λ suite store locks moves.
    whole_alone (setting_of g.V.StoreValue.is_closeable g.S.Suite.suite_view g.S.Suite.enabled_gives g.S.Callbacks.registered g.S.Suite.call_gives g.S.Suite.action_gives g.S.Action.CloseAction.close_gives suite store locks) moves

pub returns-clause-containers : goal.returns-clause-containers
returns-clause-containers g c = λ suite store locks moves.
    containers_alone (setting_of g.V.StoreValue.is_closeable g.S.Suite.suite_view g.S.Suite.enabled_gives g.S.Callbacks.registered g.S.Suite.call_gives g.S.Suite.action_gives g.S.Action.CloseAction.close_gives suite store locks) moves

pub returns-clause-children : goal.returns-clause-children
returns-clause-children g c = λ suite store locks moves.
    children_alone (setting_of g.V.StoreValue.is_closeable g.S.Suite.suite_view g.S.Suite.enabled_gives g.S.Callbacks.registered g.S.Suite.call_gives g.S.Suite.action_gives g.S.Action.CloseAction.close_gives suite store locks) moves

pub returns-clause-tests : goal.returns-clause-tests
returns-clause-tests g c = λ suite store locks moves.
    tests_alone (setting_of g.V.StoreValue.is_closeable g.S.Suite.suite_view g.S.Suite.enabled_gives g.S.Callbacks.registered g.S.Suite.call_gives g.S.Suite.action_gives g.S.Action.CloseAction.close_gives suite store locks) moves

pub returns-clause-calls : goal.returns-clause-calls
returns-clause-calls g c = λ suite store locks moves.
    calls_are_alone (setting_of g.V.StoreValue.is_closeable g.S.Suite.suite_view g.S.Suite.enabled_gives g.S.Callbacks.registered g.S.Suite.call_gives g.S.Suite.action_gives g.S.Action.CloseAction.close_gives suite store locks) moves

pub returns-clause-fresh : goal.returns-clause-fresh
returns-clause-fresh g c = fresh_all
