use Rattle.ext_plan_parallel.specs.declared.steps.stored_value.StoredValue.{StoredValue}
use Rattle.ext_engine.specs.TreeRun.{Lanes}
use Rattle.ext_plan_parallel.proofs.Mapped.{if_err, if_ok}
use Rattle.ext_plan_parallel.proofs.parallel.results_of.Goals as goal

pub returns-clause-run : goal.returns-clause-run
returns-clause-run g c =
    let after : Lanes StoredValue = record { first = c.run_tree-ran.new.lanes; second = c.run_tree-ran.new.lock_lanes } in
    if_ok c.run_tree-ran.result (λ results ran. (ran.0, after, ran.1, ran.2, c.meet_all.ensures.shared, c.meet_all.ensures.numbered)) c.run_tree-ran.ensures.run

pub returns-clause-early : goal.returns-clause-early
returns-clause-early g c =
    let after : Lanes StoredValue = record { first = c.run_tree-ran.new.lanes; second = c.run_tree-ran.new.lock_lanes } in
    if_err c.run_tree-ran.result (λ why early. record { after = after; early = early; shared = c.meet_all.ensures.shared; numbered = c.meet_all.ensures.numbered }) c.run_tree-ran.ensures.early
