use Rattle.std.proofs.Common.{◌≡◌, ◌++◌, string_bytes}
use Rattle.std.specs.Str.{IsUtf8}
use Rattle.std.specs.Str.Iter.{chars_rest}
use Rattle.ext_report.specs.JsonTexts.{json_text}
use Rattle.ext_report.proofs.json_text.write_json.Given as goal

abbrev pub invariant-loop-c : goal.invariant-loop-c
invariant-loop-c l = record {
  utf8 : IsUtf8 (chars_rest l.c-iterator);
  written : string_bytes l.text ++ json_text (chars_rest l.c-iterator) ≡ string_bytes l.fn.text ++ json_text l.json;
}
