use Rattle.std.proofs.Common.{◌++◌, ◌∷◌, [], ◌∙◌, ap, codes}
use Rattle.std.specs.Prelude.{option_map}
use Rattle.ext_lifecycle.specs.FaultTexts.{fault_text}
use Rattle.json.specs.Token.{boolean, key, string}
use Rattle.ext_report.specs.JsonLines.{fault_token}
use Rattle.ext_report.specs.Report.{status_text}
use Rattle.ext_report.proofs.Lines.{joined}
use Rattle.ext_report.proofs.json_lines.write_ending.Goals as goal

pub returns-clause-tokens : goal.returns-clause-tokens
returns-clause-tokens c =
    let node = c.args.node.now in
    let id = key (codes "id") ∷ string c.args.id.now ∷ [] in
    let test = key (codes "test") ∷ boolean node.is_test ∷ [] in
    let status = key (codes "status") ∷ string (status_text node.status) ∷ [] in
    let fault = key (codes "fault") ∷ fault_token (option_map fault_text node.fault) ∷ [] in
    let two = joined _ _ _ id test c.in_ok-write_text.ensures.tokens c.in_ok-write_truth.ensures.tokens in
    let told = c.in_ok-write_text-2.ensures.tokens ∙ ap (λ s. c.write_truth.new.writer.tokens ++ (key (codes "status") ∷ string s ∷ [])) c.status_text.ensures in
    let three = joined _ _ _ (id ++ test) status two told in
    joined _ _ _ ((id ++ test) ++ status) fault three c.in_ok-write_fault.ensures.tokens
