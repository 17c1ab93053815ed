use Rattle.std.proofs.Common.{◌++◌, ◌∙◌, ap, codes, string_bytes}
use Rattle.std.specs.List.{flat_map}
use Rattle.ext_tree.specs.Trees.{id_at}
use Rattle.ext_report.specs.Extras.{texts_view}
use Rattle.ext_report.specs.InnerSuites.{cases_view, counts_of_cases}
use Rattle.ext_report.specs.JunitCases.{case_element, suite_name}
use Rattle.ext_report.specs.JunitXml.{count_attributes, suite_time}
use Rattle.ext_report.proofs.Lines.{joined}
use Rattle.ext_report.proofs.junit_xml.write_filled_suite.Goals as goal

pub returns : goal.returns
returns c =
    let ids = c.args.tree.now in
    let suite = c.args.suite in
    let extras = c.args.extras.now in
    let earlier = texts_view c.args.earlier.now in
    let view = cases_view c.args.cases.now in
    let begin = codes "  <testsuite name=\"" in
    let name = suite_name (id_at ids suite) in
    let time = suite_time extras suite in
    let counts = count_attributes (counts_of_cases view) in
    let cases = flat_map (case_element extras earlier ids name) view in
    let named = c.in_ok-push_str-2.ensures.bytes ∙ ap (λ n. string_bytes c.push_str.new.self ++ n) (c.as_str.ensures.value ∙ c.in_ok-name.ensures ∙ ap suite_name c.id.ensures) in
    let counted = c.in_ok-write_to.ensures ∙ ap (λ n. string_bytes c.write_suite_time.new.text ++ count_attributes n) c.of.ensures in
    let told =
    c.in_ok-write_cases.ensures ∙ ap (λ n. string_bytes c.write_to.new.text ++ flat_map (case_element extras earlier ids n) view) (c.as_str-2.ensures.value ∙ c.in_ok-name.ensures ∙ ap suite_name c.id.ensures) in
    let two = joined _ _ _ begin name c.in_ok-push_str.ensures.bytes named in
    let three = joined _ _ _ (begin ++ name) (codes "\"") two c.in_ok-push_str-3.ensures.bytes in
    let four = joined _ _ _ ((begin ++ name) ++ codes "\"") time three c.in_ok-write_suite_time.ensures in
    let five = joined _ _ _ (((begin ++ name) ++ codes "\"") ++ time) counts four counted in
    let six = joined _ _ _ ((((begin ++ name) ++ codes "\"") ++ time) ++ counts) cases five told in
    joined _ _ _ (((((begin ++ name) ++ codes "\"") ++ time) ++ counts) ++ cases) (codes "  </testsuite>\n") six c.in_ok-push_str-4.ensures.bytes
