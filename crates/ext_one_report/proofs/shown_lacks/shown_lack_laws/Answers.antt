use Rattle.ext_one_report.proofs.Near.{one_report}
use Rattle.ext_one_report.proofs.ShownLacks.{tells_lacks}
use Rattle.ext_one_report.proofs.shown_lacks.shown_lack_laws.Goals as goal

pub returns : goal.returns
returns c = record {
  lacks = tells_lacks;
  one_report = λ plan lanes results read has run spared. one_report plan lanes results read has run (tells_lacks plan lanes results read run spared);
}
