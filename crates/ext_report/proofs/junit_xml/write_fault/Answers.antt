use Rattle.std.proofs.Common.{◌≡◌, ℕ, List, ◌++◌, ◌∙◌, ap, append_assoc, codes, rules, string_bytes, sym}
use Rattle.ext_lifecycle.specs.FaultTexts.{fault_text}
use Rattle.ext_report.specs.JunitCases.{first_line, further_line}
use Rattle.ext_report.specs.Xml.{xml_text}
use Rattle.ext_report.proofs.Lines.{joined}
use Rattle.ext_report.proofs.junit_xml.write_fault.Goals as goal

apart : (x a b d : List ℕ) → x ++ ((a ++ b) ++ d) ≡ ((x ++ a) ++ b) ++ d
apart x a b d = sym (append_assoc x (a ++ b) d) ∙ ap (λ t. t ++ d) (sym (append_assoc x a b))

pub returns : goal.returns
returns c =
    let text = c.args.text.now in
    let fault = fault_text c.args.fault.now in
    let begin = codes "<" ++ c.args.name.now ++ c.args.kind.now ++ codes " message=\"" in
    let line = xml_text (first_line fault) in
    let words = xml_text fault in
    let middle = codes "\">" in
    let further = further_line c.args.more in
    let end = codes "</" ++ c.args.name.now ++ codes ">" in
    let begun : string_bytes c.write.new.self ≡ string_bytes text ++ begin = search (rules, append_assoc) in
    let ended : string_bytes c.write-2.new.self ≡ string_bytes c.write_further_line.new.text ++ end = search rules in
    let first = c.in_ok-write_xml.ensures ∙ ap (λ t. string_bytes c.write.new.self ++ xml_text t) (c.first_line.ensures ∙ ap first_line c.fault_text-words.ensures) in
    let second = c.in_ok-write_xml-2.ensures ∙ ap (λ t. string_bytes c.push_str.new.self ++ xml_text t) c.fault_text-words.ensures in
    let two = joined _ _ _ begin line begun first in
    let three = joined _ _ _ (begin ++ line) middle two c.in_ok-push_str.ensures.bytes in
    let four = joined _ _ _ ((begin ++ line) ++ middle) words three second in
    let five = joined _ _ _ (((begin ++ line) ++ middle) ++ words) further four c.in_ok-write_further_line.ensures in
    let all = (((begin ++ line) ++ middle) ++ words) ++ further in
    joined _ _ _ all end five ended ∙ ap (λ t. string_bytes text ++ t) (apart all (codes "</") c.args.name.now (codes ">"))
