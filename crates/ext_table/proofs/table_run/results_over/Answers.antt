use Rattle.ext_table.proofs.table_run.results_over.Goals as goal

pub returns-clause-run : goal.returns-clause-run
returns-clause-run g c = c.run_tree.ensures.run

pub returns-clause-early : goal.returns-clause-early
returns-clause-early g c = c.run_tree.ensures.early
