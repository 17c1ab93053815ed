use Rattle.std.proofs.Common.{string_bytes}
use Rattle.ext_report.proofs.ClassNames.{case-named}
use Rattle.ext_report.proofs.names.write_case_name.Goals as goal

pub returns : goal.returns
returns c = case-named c.args.id.now c.len.result (c.segment.result.0.now, c.segment.result.1.now) (string_bytes c.args.xml.now) _ c.len.ensures.count c.segment.ensures c.in_ok-write_xml.ensures
