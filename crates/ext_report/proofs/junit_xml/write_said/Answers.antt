use Rattle.std.proofs.Common.{◌++◌, ◌∙◌, ap, codes, string_bytes}
use Rattle.ext_report.specs.JunitCases.{first_line}
use Rattle.ext_report.specs.Xml.{xml_text}
use Rattle.ext_report.proofs.Lines.{joined}
use Rattle.ext_report.proofs.junit_xml.write_said.Goals as goal

pub returns : goal.returns
returns c =
    let begin = codes "<flakyFailure type=\"failed\" message=\"" in
    let line = xml_text (first_line c.args.said.now) in
    let middle = codes "\"><stackTrace>" in
    let words = xml_text c.args.said.now in
    let first = c.in_ok-write_xml.ensures ∙ ap (λ t. string_bytes c.push_str.new.self ++ xml_text t) c.first_line.ensures in
    let two = joined _ _ _ begin line c.in_ok-push_str.ensures.bytes first in
    let three = joined _ _ _ (begin ++ line) middle two c.in_ok-push_str-2.ensures.bytes in
    let four = joined _ _ _ ((begin ++ line) ++ middle) words three c.in_ok-write_xml-2.ensures in
    joined _ _ _ (((begin ++ line) ++ middle) ++ words) (codes "</stackTrace></flakyFailure>") four c.in_ok-push_str-3.ensures.bytes
