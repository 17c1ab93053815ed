use Rattle.std.proofs.Common.{None, Some, ◌∙◌, ap, arith, sym, take}
use Rattle.std.proofs.lemmas.List.{take_all}
use Rattle.std.proofs.lemmas.Str.Pattern.{split_once_first}
use Rattle.ext_report.proofs.junit_xml.first_line.Goals as goal

pub returns-in-None : goal.returns-in-None
returns-in-None c =
    let text = c.args.text.now in
    let none = split_once_first 10 text None c.in-None.ensures.cases (omega arith) in
    sym (ap (λ n. take n text) none ∙ take_all _ text (omega arith))

pub returns-in-Some : goal.returns-in-Some
returns-in-Some c =
    let parts = split_once_first 10 c.args.text.now (Some (c.in-Some.first, c.in-Some.field-0-1)) c.in-Some.ensures.cases (omega arith) in
    parts.1
