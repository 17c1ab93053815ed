use Rattle.std.proofs.Common.{◌∙◌, ◌<◌, ◌||◌, true, length, take, sym, ap}
use Rattle.std.specs.List.{list_any}
use Rattle.std.specs.Str.{bytes_eq}
use Rattle.std.specs.HashSet.{contains_text}
use Rattle.std.specs.String.{string_bytes}
use Rattle.std.proofs.lemmas.List.Folds.{list_any_more}
use Rattle.std.proofs.lemmas.Map.Text.{hash_set_updates_text}
use Rattle.ext_selection.proofs.Texts.{bytes_eq_comm, cond_or}
use Rattle.ext_selection.proofs.selection.set_of.Goals as goal

pub loop-name-preserved : goal.loop-name-preserved
loop-name-preserved c = λ id.
    let name = c.name-item.result in
    let within : c.loop-name.name-index < length c.args.names.now = c.loop-name-test.true in
    hash_set_updates_text (string_bytes c.in_ok-clone.field-0) c.loop-name.set c.insert.new.self true c.in_ok-insert.ensures.updates id
    ∙ cond_or (bytes_eq (string_bytes c.in_ok-clone.field-0) id) (contains_text c.loop-name.set id)
    ∙ ap (λ b. b || bytes_eq (string_bytes c.in_ok-clone.field-0) id) (c.loop-name.invariant id)
    ∙ ap (λ b. list_any (λ n. bytes_eq id (string_bytes n)) (take c.loop-name.name-index c.args.names.now) || b)
    (bytes_eq_comm (string_bytes c.in_ok-clone.field-0) id
    ∙ ap (λ s. bytes_eq id s) c.in_ok-clone.ensures.cases
    ∙ ap (λ n. bytes_eq id (string_bytes n)) c.name-item.is)
    ∙ sym (list_any_more (λ n. bytes_eq id (string_bytes n)) c.args.names.now c.loop-name.name-index name within)
