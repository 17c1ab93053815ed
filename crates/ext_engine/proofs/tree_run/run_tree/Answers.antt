use Rattle.std.proofs.Common.{rules, ◌≡◌, ◌∙◌, length, map, vec_len, arith, refl, subst, ap}
use Rattle.ext_tree.specs.Trees.{IsTree}
use Rattle.ext_engine.specs.InnerResults.{ran_view}
use Rattle.ext_lifecycle.specs.Results.{as_result}
use Rattle.ext_engine.specs.TreeRun.{setting_of, all_results, all_skipped, with_results}
use Rattle.ext_engine.proofs.InTree.{results_within}
use Rattle.ext_engine.proofs.Roots.{root-item, ran-within, skipped-count}
use Rattle.ext_engine.proofs.RunLaws.{ran_within}
use Rattle.ext_engine.proofs.GrownRuns.{grown}
use Rattle.ext_engine.proofs.tree_run.run_tree.Goals as goal

pub run_node-requires-clause-item : goal.run_node-requires-clause-item
run_node-requires-clause-item g c κs within = root-item c.args.store.now (record { node = 0; closers = c.args.closers }) (subst (λ t. IsTree t) c.tree.ensures c.len.ensures.tree) refl c.requires.closers

pub put_results-requires : goal.put_results-requires
put_results-requires g c =
    let st = c.args.store.now in
    let su = g.S.Suite.suite_view c.args.suite.now in
    let ts = setting_of g.V.StoreValue.is_closeable g.S.Suite.suite_view g.S.Suite.enabled_gives g.S.Callbacks.registered g.S.Suite.call_gives g.S.Suite.action_gives g.S.Action.CloseAction.close_gives c.args.suite.now st c.args.locks.now in
    let nodes = length st.tree in
    let tree = subst (λ t. IsTree t) c.tree.ensures c.len.ensures.tree in
    let grow = grown ts tree c.requires.runnable 16 0 _ (map ran_view c.in_ok-ran.ran.items) _ c.in_ok-ran.ensures.left.2 in
    let count : c.len.result ≡ nodes = search rules in
    let places : vec_len c.in_ok-results.results ≡ nodes = (let e = skipped-count su c.in_ok-results.results.items c.len.result c.in_ok-results.ensures in let f = c.in_ok-results.results.ok.0 in omega (arith, e, f, count)) in
    ran-within c.in_ok-ran.ran.items nodes (vec_len c.in_ok-results.results) places (ran_within st.tree su (g.S.Suite.enabled_gives c.args.suite.now) tree 16 (map ran_view c.in_ok-ran.ran.items) grow)

pub returns-clause-nodes : goal.returns-clause-nodes
returns-clause-nodes g c =
    let nodes = length c.args.store.now.tree in
    let su = g.S.Suite.suite_view c.args.suite.now in
    let ran = map ran_view c.in_ok-ran.ran.items in
    let count : c.len.result ≡ nodes = search rules in
    let are : map as_result c.put_results.new.results.items ≡ all_results su nodes ran =
    c.put_results.ensures ∙ ap (λ l. with_results l ran) (c.in_ok-results.ensures ∙ ap (λ n. all_skipped su n) count) in
    results_within su nodes ran c.put_results.new.results.items are
