use Rattle.std.proofs.Common.{◌++◌, ◌∙◌, ap, codes, map, string_bytes}
use Rattle.ext_lifecycle.specs.FaultTexts.{result_view}
use Rattle.ext_tree.specs.Trees.{id_at}
use Rattle.ext_report.specs.Extras.{earlier_of, extra_of, texts_view}
use Rattle.ext_report.specs.JunitCases.{case_end, case_name}
use Rattle.ext_report.proofs.Lines.{joined}
use Rattle.ext_report.proofs.junit_xml.write_case.Goals as goal

pub returns : goal.returns
returns c =
    let node = c.args.node.now in
    let said = earlier_of (texts_view c.args.earlier.now) node.node in
    let begin = codes "    <testcase classname=\"" in
    let suite = c.args.suite.now in
    let middle = codes "\" name=\"" in
    let name = case_name (id_at c.args.tree.now node.node) in
    let end = case_end (extra_of c.args.extras.now node.node) said (result_view node) in
    let named = c.in_ok-write_case_name.ensures ∙ ap (λ id. string_bytes c.push_str-3.new.self ++ case_name id) c.id.ensures in
    let ended =
    c.in_ok-write_case_end.ensures ∙ ap (λ e. string_bytes c.write_case_name.new.xml ++ case_end e (map string_bytes c.earlier_of-said.result.now) (result_view node)) c.extra_of.ensures
    ∙ ap (λ texts. string_bytes c.write_case_name.new.xml ++ case_end (extra_of c.args.extras.now node.node) texts (result_view node)) c.earlier_of-said.ensures in
    let two = joined _ _ _ begin suite c.in_ok-push_str.ensures.bytes c.in_ok-push_str-2.ensures.bytes in
    let three = joined _ _ _ (begin ++ suite) middle two c.in_ok-push_str-3.ensures.bytes in
    let four = joined _ _ _ ((begin ++ suite) ++ middle) name three named in
    joined _ _ _ (((begin ++ suite) ++ middle) ++ name) end four ended
