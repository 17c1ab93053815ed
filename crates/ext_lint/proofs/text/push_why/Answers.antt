use Rattle.std.proofs.Common.{◌≡◌, ◌++◌, ◌∙◌, ap, arith, length, map, string_bytes, subst}
use Rattle.std.specs.Prelude.{OnOk}
use Rattle.std.proofs.lemmas.Grind.{common_steps}
use Rattle.std.proofs.lemmas.List.{length-map}
use Rattle.ext_plan_reading.specs.Nearest.{nearest}
use Rattle.ext_lint.specs.InnerLists.{said_view}
use Rattle.ext_lint.specs.NoteLines.{texts_of}
use Rattle.ext_lint.proofs.Lines.{why_no_key, why_no_text}
use Rattle.ext_lint.proofs.text.push_why.Goals as goal

pub returns-then-is_empty : goal.returns-then-is_empty
returns-then-is_empty c =
    let said = said_view c.args.said.now in
    let stored = map said_view c.args.stored.now in
    let names = map (λ s. s.name) stored in
    let texts = ap length c.in_ok-texts.ensures in
    let same = length-map c.in_ok-texts.texts.items (λ t. t.now) in
    let empty : length (texts_of c.args.said.now.key stored) ≡ 0 = grind (arith, common_steps, texts, same, c.if-is_empty.true, c.is_empty.ensures) in
    let near = c.nearest.ensures ∙ ap (λ ns. nearest ns said.name) (ap (map (λ n. n.now)) c.as_slice.ensures.value ∙ c.in_ok-names.ensures) in
    subst (λ words. OnOk c.push_no_key.result (string_bytes c.push_no_key.new.text ≡ string_bytes c.args.text.now ++ words)) (why_no_key said (texts_of c.args.said.now.key stored) names _ empty near) c.push_no_key.ensures

pub returns : goal.returns
returns c =
    let said = said_view c.args.said.now in
    let stored = map said_view c.args.stored.now in
    let names = map (λ s. s.name) stored in
    let texts = ap length c.in_ok-texts.ensures in
    let same = length-map c.in_ok-texts.texts.items (λ t. t.now) in
    let some : length (texts_of c.args.said.now.key stored) ≡ 0 → ⊥ = λ none. grind (arith, common_steps, texts, same, none, c.if-is_empty.false, c.is_empty.ensures) in
    let near = c.nearest-near.ensures ∙ ap (λ ns. nearest ns said.text) (ap (map (λ n. n.now)) c.as_slice-2.ensures.value ∙ c.in_ok-texts.ensures) in
    subst (λ words. OnOk c.push_no_text.result (string_bytes c.push_no_text.new.text ≡ string_bytes c.args.text.now ++ words)) (why_no_text said (texts_of c.args.said.now.key stored) names _ some near) c.push_no_text.ensures
