use Rattle.std.proofs.Common.{◌++◌, ◌∙◌, ap, length, map, refl, string_bytes}
use Rattle.std.proofs.lemmas.Option.{slice_get_past, slice_get_read}
use Rattle.ext_ids.specs.Grammar.{id_text}
use Rattle.ext_runner.proofs.IdTexts.{no-text, one-text, pushed}
use Rattle.ext_runner.proofs.selecting.add_id.Goals as goal

pub returns-in_ok-push-in-Some : goal.returns-in_ok-push-in-Some
returns-in_ok-push-in-Some c =
    let all = c.args.all.now in
    let found = c.in-Some.ensures.lookup in
    let text = c.in_ok-write_to-in-Some.ensures ∙ ap (λ before. before ++ id_text c.in-Some.id.now) c.new-text.ensures.bytes in
    one-text all c.args.index c.in-Some.id (map string_bytes c.args.ids.now.items) _ (slice_get_read all (length all) c.args.index c.in-Some.id.now refl found.3.0 found.1)
    (pushed c.args.ids.now.items c.push.new.self.items c.write_to.new.text (id_text c.in-Some.id.now) c.in_ok-push-in-Some.ensures.items text)

pub returns-in-None : goal.returns-in-None
returns-in-None c = no-text c.args.all.now c.args.index (map string_bytes c.args.ids.now.items) (slice_get_past c.args.all.now c.args.index c.in-None.ensures.lookup.3)
