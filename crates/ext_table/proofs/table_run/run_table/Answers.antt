use Rattle.std.proofs.Common.{◌≡◌, ◌∙◌, ℕ, List, Bor, String, Global, string_bytes, ap, map, length, subst, sym}
use Rattle.std.proofs.lemmas.List.{length-map}
use Rattle.ext_lifecycle.specs.Results.{as_result}
use Rattle.ext_locks.specs.Names.{texts_of}
use Rattle.ext_table.specs.TableRuns.{EndsTableRun, IsTableRun, table_setting}
use Rattle.ext_table.specs.Tables.{AreKnown, texts_in}
use Rattle.ext_table.proofs.TableRuns.{at_others, store_for}
use Rattle.ext_table.proofs.table_run.run_table.Goals as goal

pub returns-in-Ok-results_over-clause-run : goal.returns-in-Ok-results_over-clause-run
returns-in-Ok-results_over-clause-run g c =
    let e = c.in-Ok-open_run.ensures in
    let o = c.in-Ok-open_run.opened in
    let ran = c.in-Ok-results_over.ensures.run in
    let named : texts_of c.as_slice-names.result.now ≡ texts_in c.args.table.now.lock_names.items = ap texts_of c.as_slice-names.ensures.value ∙ c.in-Ok.ensures ∙ ap texts_in c.as_slice.ensures.value in
    at_others (λ rows ids names. IsTableRun (table_setting {L = g.row.L.Denot} c.args.engine.now (g.E.Engine.test_gives c.args.engine.now) (g.E.Engine.make_gives c.args.engine.now) (g.E.Engine.lane_gives c.args.engine.now) g.E.Engine.close_gives rows names c.args.run.attempts c.args.run.stop_after) ids names c.args.run.limits o.store (map as_result c.in-Ok-results_over.results.items))
    c.as_slice-rows.result.now c.args.table.now.rows.items c.as_slice-ids.result.now c.args.table.now.ids.items (texts_of c.as_slice-names.result.now) (texts_in c.args.table.now.lock_names.items)
    c.as_slice-rows.ensures.value c.as_slice-ids.ensures.value named
    (record {
      locks = o.locks;
      first = record { first = c.as_mut_slice-all_lanes.result.now; second = c.as_mut_slice-all_locks.result.now };
      opened = record {
        store_is = store_for c.as_slice-ids.result.now c.args.run.limits o.store e.tree e.limits e.keys e.tries.0 e.within;
        names_are = e.names;
        tries = e.tries.1;
        lanes = c.as_mut_slice-all_lanes.ensures.value ∙ e.lanes;
        lock_lanes = c.as_mut_slice-all_locks.ensures.value ∙ e.lock_lanes;
      };
      ran = ran.0;
      last = record { first = c.results_over.new.lanes; second = c.results_over.new.lock_lanes };
      run = ran.1;
      results_are = ran.2;
    })

pub results_over-requires-clause-known : goal.results_over-requires-clause-known
results_over-requires-clause-known g c κs inside =
    let named : texts_of c.as_slice-names.result.now ≡ texts_in c.args.table.now.lock_names.items = ap texts_of c.as_slice-names.ensures.value ∙ c.in-Ok.ensures ∙ ap texts_in c.as_slice.ensures.value in
    let names = c.args.table.now.lock_names.items in
    let long : length c.as_slice-names.result.now ≡ length names = sym (length-map c.as_slice-names.result.now (λ (t : Bor (List ℕ)). t.now)) ∙ ap length named ∙ length-map names (λ (s : String Global). string_bytes s) in
    subst (λ n. AreKnown n c.as_slice-rows.result.now) (sym long) (subst (λ rows. AreKnown (length names) rows) (sym c.as_slice-rows.ensures.value) c.args.table.now.known)

pub returns-clause-fault : goal.returns-clause-fault
returns-clause-fault g c =
    let e = c.in-Ok-open_run.ensures in
    let o = c.in-Ok-open_run.opened in
    let named : texts_of c.as_slice-names.result.now ≡ texts_in c.args.table.now.lock_names.items = ap texts_of c.as_slice-names.ensures.value ∙ c.in-Ok.ensures ∙ ap texts_in c.as_slice.ensures.value in
    at_others (λ rows ids names. EndsTableRun (table_setting {L = g.row.L.Denot} c.args.engine.now (g.E.Engine.test_gives c.args.engine.now) (g.E.Engine.make_gives c.args.engine.now) (g.E.Engine.lane_gives c.args.engine.now) g.E.Engine.close_gives rows names c.args.run.attempts c.args.run.stop_after) ids names c.args.run.limits c.in-Err-results_over.why)
    c.as_slice-rows.result.now c.args.table.now.rows.items c.as_slice-ids.result.now c.args.table.now.ids.items (texts_of c.as_slice-names.result.now) (texts_in c.args.table.now.lock_names.items)
    c.as_slice-rows.ensures.value c.as_slice-ids.ensures.value named
    (record {
      store = o.store;
      locks = o.locks;
      first = record { first = c.as_mut_slice-all_lanes.result.now; second = c.as_mut_slice-all_locks.result.now };
      opened = record {
        store_is = store_for c.as_slice-ids.result.now c.args.run.limits o.store e.tree e.limits e.keys e.tries.0 e.within;
        names_are = e.names;
        tries = e.tries.1;
        lanes = c.as_mut_slice-all_lanes.ensures.value ∙ e.lanes;
        lock_lanes = c.as_mut_slice-all_locks.ensures.value ∙ e.lock_lanes;
      };
      last = record { first = c.results_over.new.lanes; second = c.results_over.new.lock_lanes };
      early = c.in-Err-results_over.ensures.early;
    })
