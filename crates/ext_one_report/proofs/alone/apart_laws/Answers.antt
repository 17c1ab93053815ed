use Rattle.ext_engine.specs.TreeRun.{setting_of}
use Rattle.ext_one_report.proofs.Changing.{acts_are_only, alone_on_cells, apart_is_left, calls_alone_on_cells, runs_change_only}
use Rattle.ext_one_report.proofs.Sees.{sees_its_own}
use Rattle.ext_one_report.proofs.alone.apart_laws.Goals as goal

pub returns-clause-acts : goal.returns-clause-acts
returns-clause-acts g c = acts_are_only

pub returns-clause-changed : goal.returns-clause-changed
returns-clause-changed g c = λ suite store locks changed moves.
    runs_change_only (setting_of g.V.StoreValue.is_closeable g.S.Suite.suite_view g.S.Suite.enabled_gives g.S.Callbacks.registered g.S.Suite.call_gives g.S.Suite.action_gives g.S.Action.CloseAction.close_gives suite store locks) changed moves

pub returns-clause-alone : goal.returns-clause-alone
returns-clause-alone g c = λ suite store locks changed moves.
    alone_on_cells (setting_of g.V.StoreValue.is_closeable g.S.Suite.suite_view g.S.Suite.enabled_gives g.S.Callbacks.registered g.S.Suite.call_gives g.S.Suite.action_gives g.S.Action.CloseAction.close_gives suite store locks) changed moves

pub returns-clause-calls : goal.returns-clause-calls
returns-clause-calls g c = λ suite store locks changed moves.
    calls_alone_on_cells (setting_of g.V.StoreValue.is_closeable g.S.Suite.suite_view g.S.Suite.enabled_gives g.S.Callbacks.registered g.S.Suite.call_gives g.S.Suite.action_gives g.S.Action.CloseAction.close_gives suite store locks) changed moves

pub returns-clause-left : goal.returns-clause-left
returns-clause-left g c = λ suite store locks changed moves.
    apart_is_left (setting_of g.V.StoreValue.is_closeable g.S.Suite.suite_view g.S.Suite.enabled_gives g.S.Callbacks.registered g.S.Suite.call_gives g.S.Suite.action_gives g.S.Action.CloseAction.close_gives suite store locks) changed moves

pub returns-clause-sees : goal.returns-clause-sees
returns-clause-sees g c = λ suite store locks changed moves.
    sees_its_own (setting_of g.V.StoreValue.is_closeable g.S.Suite.suite_view g.S.Suite.enabled_gives g.S.Callbacks.registered g.S.Suite.call_gives g.S.Suite.action_gives g.S.Action.CloseAction.close_gives suite store locks) changed
