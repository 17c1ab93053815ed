use Rattle.std.proofs.Common.{◌≡◌, ◌∙◌, map, ap}
use Rattle.ext_lifecycle.specs.FaultTexts.{result_view, results_view}
use Rattle.ext_plan.specs.Values.{close_fault}
use Rattle.ext_plan_plain.specs.ContextEnds.{closeables, faults_of_closes}
use Rattle.ext_plan_plain.specs.InnerSteps.{calls_end, state_view}
use Rattle.ext_plan_plain.specs.ValueStates.{with_memory}
use Rattle.ext_plan_plain.proofs.Memories.{seal_keys-with}
use Rattle.ext_plan_plain.proofs.Nodes.{end_is, outcome_is}
use Rattle.ext_plan_plain.proofs.plain.PlainRunner.end_node.Goals as goal

pub returns-clause-end : goal.returns-clause-end
returns-clause-end g c = record {
  same = ap (λ caller. caller.lacked) c.set_result.ensures.caller;
  each = λ outcomes tallied later.
      let old = c.args.self.now in
      let at = c.args.at in
      let s = state_view old.caller.store in
      let sealed = state_view c.seal_context.new.self in
      let numbers = c.as_slice.ensures.numbers ∙ c.in_ok-numbers.ensures.numbers in
      let closed = map close_fault (closeables sealed.values c.as_slice.result.now) in
      let told : closed ≡ faults_of_closes s.places at sealed = ap (λ ns. map close_fault (closeables sealed.values ns)) numbers in
      let counted = c.in_ok-closes.ensures in
      let shown = outcome_is at c.args.is_test s closed outcomes counted.faults c.result-ended.result (c.result-ended.ensures outcomes counted.faults tallied counted.counted) counted.texts in
      let results = results_view old.results.items in
      let left = with_memory later sealed in
      let sealing = ap (with_memory later) c.in_ok-numbers.ensures.state ∙ seal_keys-with later s.places at s in
      let end = end_is at c.args.is_test (calls_end (with_memory later s) outcomes) results left closed (result_view c.result-ended.result) sealing told shown in
      let store = ap (λ caller. with_memory later (state_view caller.store)) c.set_result.ensures.caller in
      ap (λ t. record { state = t; results = results_view c.set_result.new.self.results.items }) store
      ∙ ap (λ rs. record { state = left; results = rs }) c.set_result.ensures.results
      ∙ end;
}
