use Rattle.std.proofs.Common.{◌≡◌, ◌++◌, ap, encode_utf8, rules, string_bytes, subst, sym}
use Rattle.std.specs.Str.{IsUtf8}
use Rattle.ext_report.specs.JsonTexts.{json_character, json_text}
use Rattle.std.specs.Str.Iter.{chars_rest}
use Rattle.std.proofs.lemmas.Str.{IsUtf8-past_char}
use Rattle.ext_report.proofs.CharacterTexts.{character-more, none-left}
use Rattle.ext_report.proofs.json_text.write_json.Goals as goal

pub loop-c-init : goal.loop-c-init
loop-c-init c =
    let whole : chars_rest c.into_iter-c-iterator.result ≡ c.args.json.now = search rules in
    record { utf8 = subst IsUtf8 (sym whole) c.utf8.json; written = ap (λ t. string_bytes c.args.text.now ++ json_text t) whole }

pub loop-c-preserved : goal.loop-c-preserved
loop-c-preserved c =
    let step : chars_rest c.loop-c.c-iterator ≡ encode_utf8 c.in-Some.c ++ chars_rest c.next.new.self = search rules in record {
      utf8 = IsUtf8-past_char _ _ c.in-Some.c c.loop-c.invariant.utf8 step;
      written = character-more json_character _ _ (chars_rest c.next.new.self) (chars_rest c.loop-c.c-iterator) _ c.in-Some.c c.loop-c.invariant.utf8 step c.in_ok-write_character.ensures c.loop-c.invariant.written;
    }

pub returns : goal.returns
returns c = none-left json_character _ _ _ _ (search rules) c.loop-c.invariant.written
