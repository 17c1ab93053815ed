use Rattle.std.proofs.Common.{◌++◌, codes, map, string_bytes}
use Rattle.std.specs.Prelude.{option_map}
use Rattle.ext_lifecycle.specs.FaultTexts.{fault_text}
use Rattle.ext_report.specs.JunitCases.{case_time, ending_element}
use Rattle.ext_report.proofs.Lines.{joined}
use Rattle.ext_report.proofs.junit_xml.write_case_end.Goals as goal

pub returns : goal.returns
returns c =
    let node = c.args.node.now in
    let quote = codes "\"" in
    let time = case_time node.is_test c.args.extra.millis in
    let end = codes ">" in
    let ending = ending_element (map string_bytes c.args.said.now) c.args.extra.attempt node.status (option_map fault_text node.fault) node.more in
    let two = joined _ _ _ quote time c.in_ok-push_str.ensures.bytes c.in_ok-write_case_time.ensures in
    let three = joined _ _ _ (quote ++ time) end two c.in_ok-push_str-2.ensures.bytes in
    let four = joined _ _ _ ((quote ++ time) ++ end) ending three c.in_ok-write_ending.ensures in
    joined _ _ _ (((quote ++ time) ++ end) ++ ending) (codes "</testcase>\n") four c.in_ok-push_str-3.ensures.bytes
