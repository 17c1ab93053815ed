use Rattle.ext_engine.specs.TreeRun.{setting_of}
use Rattle.ext_engine.proofs.Early.{ends_by_fault, unknown_to_all}
use Rattle.ext_engine.proofs.Lanes.{keeps_lanes}
use Rattle.ext_engine.proofs.GrownRuns.{grown}
use Rattle.ext_engine.proofs.RunLaws.{one_result_each, runs_once, skipped_below, skips_exactly}
use Rattle.ext_engine.proofs.laws.engine_laws.Goals as goal

pub returns-clause-once : goal.returns-clause-once
returns-clause-once g c = λ suite store locks top before ran after r.
    let t = setting_of g.V.StoreValue.is_closeable g.S.Suite.suite_view g.S.Suite.enabled_gives g.S.Callbacks.registered g.S.Suite.call_gives g.S.Suite.action_gives g.S.Action.CloseAction.close_gives suite store locks in
    runs_once store.tree t.suite t.enabled_gives r.tree r.depth top ran
    (grown t r.tree r.runnable r.depth top before ran after r.run)

pub returns-clause-skipped : goal.returns-clause-skipped
returns-clause-skipped g c = λ suite store locks top before ran after r.
    let t = setting_of g.V.StoreValue.is_closeable g.S.Suite.suite_view g.S.Suite.enabled_gives g.S.Callbacks.registered g.S.Suite.call_gives g.S.Suite.action_gives g.S.Action.CloseAction.close_gives suite store locks in
    skips_exactly store.tree t.suite t.enabled_gives r.tree r.depth top ran
    (grown t r.tree r.runnable r.depth top before ran after r.run)

pub returns-clause-results : goal.returns-clause-results
returns-clause-results g c = λ suite store locks before ran after r.
    let t = setting_of g.V.StoreValue.is_closeable g.S.Suite.suite_view g.S.Suite.enabled_gives g.S.Callbacks.registered g.S.Suite.call_gives g.S.Suite.action_gives g.S.Action.CloseAction.close_gives suite store locks in
    one_result_each store.tree t.suite t.enabled_gives r.tree r.depth ran
    (grown t r.tree r.runnable r.depth 0 before ran after r.run)

pub returns-clause-lanes : goal.returns-clause-lanes
returns-clause-lanes g c = λ suite store locks top before ran after r usable.
    keeps_lanes (setting_of g.V.StoreValue.is_closeable g.S.Suite.suite_view g.S.Suite.enabled_gives g.S.Callbacks.registered g.S.Suite.call_gives g.S.Suite.action_gives g.S.Action.CloseAction.close_gives suite store locks) r.depth top before ran after r.run usable

pub returns-clause-results_skipped : goal.returns-clause-results_skipped
returns-clause-results_skipped g c = λ suite store locks before ran after r.
    let t = setting_of g.V.StoreValue.is_closeable g.S.Suite.suite_view g.S.Suite.enabled_gives g.S.Callbacks.registered g.S.Suite.call_gives g.S.Suite.action_gives g.S.Action.CloseAction.close_gives suite store locks in
    skipped_below store.tree t.suite t.enabled_gives r.tree r.depth ran
    (grown t r.tree r.runnable r.depth 0 before ran after r.run)

pub returns-clause-faults : goal.returns-clause-faults
returns-clause-faults g c = λ suite store locks. ends_by_fault (setting_of g.V.StoreValue.is_closeable g.S.Suite.suite_view g.S.Suite.enabled_gives g.S.Callbacks.registered g.S.Suite.call_gives g.S.Suite.action_gives g.S.Action.CloseAction.close_gives suite store locks)

pub returns-clause-unknown : goal.returns-clause-unknown
returns-clause-unknown g c = λ suite store locks. unknown_to_all (setting_of g.V.StoreValue.is_closeable g.S.Suite.suite_view g.S.Suite.enabled_gives g.S.Callbacks.registered g.S.Suite.call_gives g.S.Suite.action_gives g.S.Action.CloseAction.close_gives suite store locks)
