use Rattle.std.proofs.Common.{◌≡◌, ◌∙◌, Some, sym, ap}
use Rattle.std.specs.Prelude.{option_map}
use Rattle.ext_plan.specs.StepWords.{word_text}
use Rattle.ext_plan.specs.Plans.{step_key_view}
use Rattle.ext_plan.specs.StepCalls.{call_of, call_view, is_made, keys_in}
use Rattle.ext_plan.specs.Values.{value_view}
use Rattle.ext_plan_plain.specs.InnerSteps.{memory_of_step, state_view}
use Rattle.ext_plan_plain.specs.StepRuns.{call_by, made_by, value_first}
use Rattle.ext_plan_plain.proofs.KeyedSteps.{acts-call, puts-call}
use Rattle.ext_plan_plain.proofs.value_store.ValueStore.run_keyed.Goals as goal

pub returns-in-Some : goal.returns-in-Some
returns-in-Some c =
    let keys = keys_in c.args.keys.now in
    let step = c.args.step in
    let key = step_key_view step.key.now in
    let s = state_view c.args.self.now in
    let found = memory_of_step c.put_step.result in
    let value : value_first step.word step.text.now ≡ Some (value_view c.in-Some.value) = sym c.value_first.ensures ∙ ap (option_map value_view) c.in-Some.is in
    let same = c.call-call.ensures ∙ ap (λ k. record (call_of keys c.args.path.now (word_text step.word) key step.up) { key = k }) (c.key.ensures ∙ c.in-Ok.ensures.key) in
    c.put_step.ensures (is_made keys key)
    ∙ ap (made_by found (is_made keys key) s) (puts-call found step.word (call_view c.call-call.result) step.text.now (value_view c.in-Some.value) s value ∙ ap (λ call. call_by found step.word call step.text.now s) same)

pub returns : goal.returns
returns c =
    let keys = keys_in c.args.keys.now in
    let step = c.args.step in
    let key = step_key_view step.key.now in
    let s = state_view c.args.self.now in
    let found = memory_of_step c.act_step.result in
    let none = sym c.value_first.ensures ∙ ap (option_map value_view) c.in-None.is in
    let same = c.call-call.ensures ∙ ap (λ k. record (call_of keys c.args.path.now (word_text step.word) key step.up) { key = k }) (c.key.ensures ∙ c.in-Ok.ensures.key) in
    c.act_step.ensures (is_made keys key)
    ∙ ap (made_by found (is_made keys key) s) (acts-call found step.word (call_view c.call-call.result) step.text.now s none ∙ ap (λ call. call_by found step.word call step.text.now s) same)
