use Rattle.std.proofs.Common.{◌≡◌, ◌++◌, string_bytes}
use Rattle.std.specs.Str.{IsUtf8}
use Rattle.std.specs.Str.Iter.{chars_rest}
use Rattle.ext_report.specs.Xml.{xml_text}
use Rattle.ext_report.proofs.xml.write_xml.Given as goal

abbrev pub invariant-loop-c : goal.invariant-loop-c
invariant-loop-c l = record {
  utf8 : IsUtf8 (chars_rest l.c-iterator);
  written : string_bytes l.xml ++ xml_text (chars_rest l.c-iterator) ≡ string_bytes l.fn.xml ++ xml_text l.text;
}
