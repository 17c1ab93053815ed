use Rattle.std.proofs.Common.{rules, append_assoc, ◌≡◌, ◌∙◌, [], ◌∷◌, Err, ap, arith, false, length, map, nat_lt, refl, true}
use Rattle.std.proofs.lemmas.Grind.{common_steps}
use Rattle.std.proofs.lemmas.List.{length-map}
use Rattle.std.proofs.lemmas.Result.{IfOk-weaker}
use Rattle.ext_plan.specs.Plans.{keys_view, plan_view}
use Rattle.ext_plan.specs.StepCalls.{keys_in}
use Rattle.ext_lint.specs.InnerLists.{note_view, said_view}
use Rattle.ext_lint.specs.NoteJson.{notes_json}
use Rattle.ext_lint.specs.Notes.{crowded, notes, stored_by}
use Rattle.ext_lint.specs.NodeSteps.{node_step_view, node_steps}
use Rattle.ext_lint.specs.Said.{is_said, keys_said, keys_with}
use Rattle.ext_lint.proofs.Lines.{crowded_json}
use Rattle.ext_lint.proofs.linting.lint.Goals as goal

pub of-rules-requires-clause-known : goal.of-rules-requires-clause-known
of-rules-requires-clause-known c = λ key text.
    let plan = plan_view c.args.plan.now in
    let stored : map said_view c.in_ok-stored.stored.items ≡ stored_by plan (node_steps plan) = search rules in
    c.in_ok-set.ensures key text ∙ ap (λ s. is_said (map said_view s) key text) c.as_slice-6.ensures.value ∙ ap (λ s. is_said s key text) stored

pub returns-clause-found : goal.returns-clause-found
returns-clause-found c =
    let plan = plan_view c.args.plan.now in
    let keys : c.in-Ok.directory ≡ keys_said plan
    = c.in-Ok.ensures.keys ∙ ap (λ declared. keys_with declared [] (map node_step_view c.as_slice-3.result.now)) (c.of-keys.ensures ∙ ap keys_view c.as_slice.ensures.value)
    ∙ ap (keys_with plan.keys []) (ap (map node_step_view) c.as_slice-3.ensures.value ∙ c.in_ok-node_steps.ensures) in
    let count = ap length keys in
    let few : nat_lt 1024 (length (keys_said plan)) ≡ false = grind (arith, common_steps, count, c.in-Ok.ensures.few) in
    let all : map note_view c.note_locks.new.notes.items ≡ notes plan = rw few (search (rules, append_assoc)) in
    let long = ap length all in
    let same = length-map c.note_locks.new.notes.items note_view in
    grind (arith, common_steps, long, same, c.is_empty.ensures)

pub returns-in-Err-TooMany-clause-json : goal.returns-in-Err-TooMany-clause-json
returns-in-Err-TooMany-clause-json c =
    let plan = plan_view c.args.plan.now in
    let keys : keys_with (keys_in c.of-keys.result) [] (map node_step_view c.as_slice-3.result.now) ≡ keys_said plan
    = ap (λ declared. keys_with declared [] (map node_step_view c.as_slice-3.result.now)) (c.of-keys.ensures ∙ ap keys_view c.as_slice.ensures.value)
    ∙ ap (keys_with plan.keys []) (ap (map node_step_view) c.as_slice-3.ensures.value ∙ c.in_ok-node_steps.ensures) in
    let count = ap length keys in
    let full = c.in-Err-TooMany.ensures.full (ap Err c.in-Err-TooMany.field-0-is) in
    let many : nat_lt 1024 (length (keys_said plan)) ≡ true = grind (arith, common_steps, count, full) in
    let alone : notes plan ≡ crowded ∷ [] = rw many refl in
    IfOk-weaker c.crowded.result _ _ (λ told. crowded_json plan (stored_by plan (node_steps plan)) alone told.json.items) c.crowded.ensures.json

pub returns-clause-json : goal.returns-clause-json
returns-clause-json c =
    let plan = plan_view c.args.plan.now in
    let keys : c.in-Ok.directory ≡ keys_said plan
    = c.in-Ok.ensures.keys ∙ ap (λ declared. keys_with declared [] (map node_step_view c.as_slice-3.result.now)) (c.of-keys.ensures ∙ ap keys_view c.as_slice.ensures.value)
    ∙ ap (keys_with plan.keys []) (ap (map node_step_view) c.as_slice-3.ensures.value ∙ c.in_ok-node_steps.ensures) in
    let count = ap length keys in
    let few : nat_lt 1024 (length (keys_said plan)) ≡ false = grind (arith, common_steps, count, c.in-Ok.ensures.few) in
    let all : map note_view c.note_locks.new.notes.items ≡ notes plan = rw few (search (rules, append_assoc)) in
    let stored = c.stored-3.ensures ∙ ap (λ p. stored_by (plan_view p) (node_steps (plan_view p))) c.of-rules.ensures in
    let told : map note_view c.as_slice-12.result.now ≡ notes plan = ap (map note_view) c.as_slice-12.ensures.value ∙ all in
    c.in_ok-json_of.ensures ∙ ap (λ s. notes_json plan s (map note_view c.as_slice-12.result.now)) stored
    ∙ ap (notes_json plan (stored_by plan (node_steps plan))) told
