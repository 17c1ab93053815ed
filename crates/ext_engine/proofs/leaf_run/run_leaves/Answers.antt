use Rattle.std.proofs.Common.{◌∙◌}
use Rattle.ext_engine.proofs.LeafRuns.{store_for}
use Rattle.ext_engine.proofs.leaf_run.run_leaves.Goals as goal

pub results_over-requires-clause-fits : goal.results_over-requires-clause-fits
results_over-requires-clause-fits g c κs inside =
    let e = c.in-Ok.ensures in
    c.requires.fits c.in-Ok.opened.store (store_for c.args.ids.now c.args.limits c.in-Ok.opened.store e.tree e.limits e.keys e.tries.0 e.within)

pub returns-in-Ok-results_over-clause-run : goal.returns-in-Ok-results_over-clause-run
returns-in-Ok-results_over-clause-run g c =
    let e = c.in-Ok.ensures in
    let ran = c.in-Ok-results_over.ensures.run in
    record {
      locks = c.in-Ok.opened.locks;
      first = record { first = c.as_mut_slice-all_lanes.result.now; second = c.as_mut_slice-all_locks.result.now };
      opened = record {
        store_is = store_for c.args.ids.now c.args.limits c.in-Ok.opened.store e.tree e.limits e.keys e.tries.0 e.within;
        no_names = e.names;
        tries = e.tries.1;
        lanes = c.as_mut_slice-all_lanes.ensures.value ∙ e.lanes;
        lock_lanes = c.as_mut_slice-all_locks.ensures.value ∙ e.lock_lanes;
      };
      ran = ran.0;
      last = record { first = c.results_over.new.lanes; second = c.results_over.new.lock_lanes };
      run = ran.1;
      results_are = ran.2;
    }

pub returns-in-Err-results_over-clause-fault : goal.returns-in-Err-results_over-clause-fault
returns-in-Err-results_over-clause-fault g c =
    let e = c.in-Ok.ensures in
    record {
      store = c.in-Ok.opened.store;
      locks = c.in-Ok.opened.locks;
      first = record { first = c.as_mut_slice-all_lanes.result.now; second = c.as_mut_slice-all_locks.result.now };
      opened = record {
        store_is = store_for c.args.ids.now c.args.limits c.in-Ok.opened.store e.tree e.limits e.keys e.tries.0 e.within;
        no_names = e.names;
        tries = e.tries.1;
        lanes = c.as_mut_slice-all_lanes.ensures.value ∙ e.lanes;
        lock_lanes = c.as_mut_slice-all_locks.ensures.value ∙ e.lock_lanes;
      };
      last = record { first = c.results_over.new.lanes; second = c.results_over.new.lock_lanes };
      early = c.in-Err-results_over.ensures.early;
    }
