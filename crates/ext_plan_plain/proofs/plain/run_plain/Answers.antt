use Rattle.std.proofs.Common.{◌≡◌, ◌∙◌, ◌<◌, false, [], ◌∷◌, length, All, refl, ap, sym, subst}
use Rattle.std.proofs.lemmas.List.{length-map}
use Rattle.ext_lifecycle.specs.FaultTexts.{results_view}
use Rattle.ext_tree.specs.Trees.{IsTree}
use Rattle.ext_plan.specs.ReadPlans.{ids_of_nodes}
use Rattle.ext_plan.specs.Plans.{node_view, nodes_view, plan_view}
use Rattle.ext_plan_plain.specs.InnerSteps.{NodeSpared, state_view}
use Rattle.ext_plan_plain.specs.PlainRun.{RunState, node_run, plain_run_by, run_opening, skipped_from, ArePlain, HasNoFailed}
use Rattle.ext_plan_plain.specs.ValueStates.{value_opening, with_memory}
use Rattle.ext_plan_plain.proofs.Unfailed.{results_count, runs_as_planned, told_by_nodes}
use Rattle.ext_plan_plain.proofs.Sound.{results_within}
use Rattle.ext_plan_plain.proofs.plain.run_plain.Goals as goal

pub run_node-requires : goal.run_node-requires
run_node-requires g c =
    let tree = subst IsTree (c.tree.ensures ∙ sym c.of.ensures.tree) c.len-levels.ensures.tree in
    record { within = tree.first.some; tree = tree }

pub returns : goal.returns
returns g c =
    let nodes = c.args.plan.now.nodes.items in
    let plan = plan_view c.args.plan.now in
    let ran = c.in_ok-run_node.ensures.run.each (0 ∷ []) (refl, refl) [] in
    let lacked = c.run_node.new.self.caller.lacked in
    let memory = ran.0 in
    let results = results_view c.in_ok-skipped.field-0.items in
    let skipped = c.in_ok-skipped.ensures ∙ ap (λ ns. skipped_from 0 (nodes_view ns)) c.as_slice-2.ensures.value in
    let opening : RunState = record { state = with_memory memory (state_view c.new.result); results = results } in
    let opened : opening ≡ run_opening memory plan =
    ap (λ s. record { state = with_memory memory s; results = results }) (c.new.ensures ∙ ap (value_opening plan.keep_faults plan.key_places) c.numbers.ensures) ∙ ap (λ rs. record { state = (run_opening memory plan).state; results = rs }) skipped in
    let levels = c.len-levels.ensures.count ∙ ap length c.tree.ensures ∙ length-map plan.nodes (λ n. n.id) in
    let is : results_view c.run_node.new.self.results.items ≡ plain_run_by memory plan =
    ap (λ (r : RunState). r.results) (ran.1 ∙ ap (λ p. node_run p c.len-levels.result (0 ∷ []) opening) c.of.ensures.plan ∙ ap (λ n. node_run plan n (0 ∷ []) opening) levels ∙ ap (node_run plan (length plan.nodes) (0 ∷ [])) opened) in
    let tree : IsTree (ids_of_nodes plan.nodes) = subst IsTree c.tree.ensures c.len-levels.ensures.tree in
    let length_is : length (results_view c.run_node.new.self.results.items) ≡ length (ids_of_nodes plan.nodes) = ap length is ∙ results_count memory plan ∙ sym (length-map plan.nodes (λ n. n.id)) in
    let rs = results_view c.run_node.new.self.results.items in
    let spared : NodeSpared (ids_of_nodes plan.nodes) (0 ∷ []) rs → false ≡ false → lacked ≡ false = subst (λ ids. NodeSpared ids (0 ∷ []) rs → false ≡ false → lacked ≡ false) c.of.ensures.tree ran.2.spared in
    let are : ArePlain plan (results_view c.run_node.new.self.results.items) lacked = record {
      memory = memory;
      exact = is;
      planned = λ unfailed. is ∙ runs_as_planned memory plan tree (subst HasNoFailed is unfailed);
      unlacked = λ none. is ∙ ap (λ m. plain_run_by m plan) (ran.2.nothing none refl);
      lacking = told_by_nodes (results_view c.run_node.new.self.results.items) lacked (ids_of_nodes plan.nodes) tree length_is spared;
    } in
    record {
      results = are;
      in_tree = subst (λ n. All (λ r. r.node < n) c.run_node.new.self.results.items) (length-map nodes node_view) (results_within plan c.run_node.new.self.results.items lacked are);
    }
