use Rattle.std.proofs.Common.{◌≡◌, ◌∙◌, ◌++◌, ◌∷◌, [], sym, ap, subst, arith, rules, string_bytes, IsUtf8, Some, None, encode_utf8}
use Rattle.std.proofs.lemmas.Str.{lead_after_ascii, encode_ascii}
use Rattle.std.proofs.lemmas.Str.Pattern.{split_parts}
use Rattle.ext_ids.specs.Grammar.{part_text, escape_of}
use Rattle.ext_ids.proofs.Escapes.{step_of, end_of, regrouped}
use Rattle.ext_ids.proofs.escape.decoded.Goals as goal

pub unwrap-requires : goal.unwrap-requires
unwrap-requires c =
    let parts = split_parts 37 c.loop-plain.rest.now (Some (c.in-Some.plain, c.in-Some.code)) c.in-Some.ensures.cases (omega arith) in
    let at = step_of c.in-Some.plain.now c.in-Some.code.now c.loop-plain.invariant.1.0 c.loop-plain.rest.now c.loop-plain.invariant.1.1 parts.0 parts.1 in
    let found : c.escape_of.result ≡ Some at.character = c.escape_of.ensures ∙ ap escape_of c.as_bytes.ensures.value ∙ at.value in
    rw found (search rules)

pub range_from-rest-requires : goal.range_from-rest-requires
range_from-rest-requires c =
    let parts = split_parts 37 c.loop-plain.rest.now (Some (c.in-Some.plain, c.in-Some.code)) c.in-Some.ensures.cases (omega arith) in
    let at = step_of c.in-Some.plain.now c.in-Some.code.now c.loop-plain.invariant.1.0 c.loop-plain.rest.now c.loop-plain.invariant.1.1 parts.0 parts.1 in
    let utf8 : IsUtf8 c.in-Some.code.now = subst IsUtf8 c.as_bytes.ensures.value c.as_bytes.ensures.utf8 in
    λ _. (at.two, λ l. lead_after_ascii c.in-Some.code.now 1 utf8 at.low (omega arith))

pub loop-plain-preserved : goal.loop-plain-preserved
loop-plain-preserved c =
    let parts = split_parts 37 c.loop-plain.rest.now (Some (c.in-Some.plain, c.in-Some.code)) c.in-Some.ensures.cases (omega arith) in
    let at = step_of c.in-Some.plain.now c.in-Some.code.now c.loop-plain.invariant.1.0 c.loop-plain.rest.now c.loop-plain.invariant.1.1 parts.0 parts.1 in
    let found : c.escape_of.result ≡ Some at.character = c.escape_of.ensures ∙ ap escape_of c.as_bytes.ensures.value ∙ at.value in
    let same : c.unwrap.result ≡ at.character = let h = c.unwrap.ensures in cc in
    let text : string_bytes c.push.new.self ≡ (string_bytes c.loop-plain.text ++ c.in-Some.plain.now) ++ at.character ∷ [] =
    c.in_ok-push.ensures.bytes ∙ ap (λ xs. xs ++ encode_utf8 c.unwrap.result) c.in_ok-push_str.ensures.bytes
    ∙ ap (λ xs. (string_bytes c.loop-plain.text ++ c.in-Some.plain.now) ++ xs) (ap encode_utf8 same ∙ encode_ascii at.character at.ascii) in (
      c.range_from-rest.utf8,
      (
        at.more,
        c.range_from-rest.ensures.value ∙ at.spells,
        c.loop-plain.invariant.1.2 ∙ ap part_text (ap (λ xs. string_bytes c.loop-plain.text ++ xs) at.joins ∙ regrouped (string_bytes c.loop-plain.text) c.in-Some.plain.now at.more at.character ∙ ap (λ xs. xs ++ at.more) (sym text)),
      ),
    )

pub returns : goal.returns
returns c =
    let none = split_parts 37 c.loop-plain.rest.now None c.in_default.ensures.cases (omega arith) in
    let same = end_of c.loop-plain.rest.now c.loop-plain.invariant.1.0 c.loop-plain.invariant.1.1 none in
    let b = c.in_ok-push_str-2.ensures.bytes in
    c.loop-plain.invariant.1.2 ∙ ap part_text (ap (λ xs. string_bytes c.loop-plain.text ++ xs) (sym same) ∙ sym b)
