use Rattle.std.proofs.Common.{◌≡◌, ◌++◌, string_bytes}
use Rattle.std.specs.Str.{IsUtf8}
use Rattle.std.specs.Str.Iter.{chars_rest}
use Rattle.ext_page.specs.Ascii.{ascii}
use Rattle.ext_page.proofs.ascii.write_ascii.Given as goal

abbrev pub invariant-loop-c : goal.invariant-loop-c
invariant-loop-c l = record {
  utf8 : IsUtf8 (chars_rest l.c-iterator);
  written : string_bytes l.text ++ ascii (chars_rest l.c-iterator) ≡ string_bytes l.fn.text ++ ascii l.json;
}
