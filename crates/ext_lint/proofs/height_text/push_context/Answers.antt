use Rattle.std.proofs.Common.{rules, append_assoc, ◌≡◌, ◌++◌, ◌∙◌, ap, codes, string_bytes, slice_get}
use Rattle.std.proofs.lemmas.Result.{IfOk-weaker}
use Rattle.ext_plan.specs.Plans.{plan_view}
use Rattle.ext_races.specs.RaceLines.{id_of_node}
use Rattle.ext_lint.specs.NoteLines.{context_words, id_if_there, path_in_plan}
use Rattle.ext_lint.proofs.height_text.push_context.Goals as goal

pub returns : goal.returns
returns c =
    let plan = plan_view c.args.plan.now in
    let there = c.in_ok-push_if_there.ensures ∙ ap (λ n. string_bytes c.args.text.now ++ id_if_there plan n) c.context_above.ensures in
    let between = c.in_ok-push_str.ensures.bytes ∙ ap (λ t. t ++ codes " for ") there in
    let above = id_if_there plan (slice_get (path_in_plan plan c.args.test) c.args.up) in
    let one : ((string_bytes c.args.text.now ++ above) ++ codes " for ") ++ id_of_node plan c.args.test ≡ string_bytes c.args.text.now ++ context_words plan c.args.up c.args.test
    = search (rules, append_assoc) in
    IfOk-weaker c.push_id.result _ _ (λ _ h. h ∙ ap (λ t. t ++ id_of_node plan c.args.test) between ∙ one) c.push_id.ensures
