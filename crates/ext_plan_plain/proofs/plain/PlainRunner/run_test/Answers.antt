use Rattle.std.proofs.Common.{◌∙◌, refl, arith}
use Rattle.ext_lifecycle.specs.FaultTexts.{results_view}
use Rattle.ext_plan_plain.proofs.Outcomes.{OnOk-map}
use Rattle.ext_plan_plain.proofs.Runs.{calls-setting, test-runs}
use Rattle.ext_plan_plain.proofs.plain.PlainRunner.run_test.Goals as goal

pub run_calls-tally-requires-clause-ready : goal.run_calls-tally-requires-clause-ready
run_calls-tally-requires-clause-ready g c = record { tree = c.requires.tree; within = c.requires.within }

pub end_node-requires : goal.end_node-requires
end_node-requires g c = record { room = c.run_calls-tally.ensures.room 1 (omega (arith, c.in_ok-befores.ensures.few, c.in_ok-afters.ensures.few, c.as_slice-3.ensures.len, c.as_slice-4.ensures.len)) }

pub returns-clause-run : goal.returns-clause-run
returns-clause-run g c =
    let old = c.args.self.now in
    let setting = old.caller.setting in
    let made = c.run_calls-tally.ensures.calls in
    OnOk-map c.end_node.result c.end_node.ensures.end (λ ended.
    test-runs setting c.args.at c.path-path.result.now _ _ _ _ _ c.run_calls-tally.new.caller made.0 c.run_calls-tally.result (results_view old.results.items) _
    c.requires.tree c.path-path.ensures.path c.as_slice.ensures.contexts c.as_slice-2.ensures.contexts (c.as_slice-3.ensures.value ∙ c.in_ok-befores.ensures.calls) (c.as_slice-4.ensures.value ∙ c.in_ok-afters.ensures.calls)
    (record { setting_is = refl; node_is = refl }) made.1 made.2 ended)

pub returns-clause-setting : goal.returns-clause-setting
returns-clause-setting g c =
    let old = c.args.self.now in
    let made = c.run_calls-tally.ensures.calls in
    OnOk-map c.end_node.result c.end_node.ensures.setting (λ same.
    same ∙ calls-setting old.caller.setting c.args.at c.path-path.result.now _ _ _ _ _ made.0 c.path-path.ensures.path (record { setting_is = refl; node_is = refl }) made.1)
