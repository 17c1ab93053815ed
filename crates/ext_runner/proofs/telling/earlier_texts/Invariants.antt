use Rattle.std.proofs.Common.{◌≡◌, map, take}
use Rattle.ext_report.specs.Extras.{texts_view}
use Rattle.ext_runner.specs.InnerTelling.{earlier_texts}
use Rattle.ext_runner.proofs.telling.earlier_texts.Given as goal

abbrev pub invariant-loop-log : goal.invariant-loop-log
invariant-loop-log l = texts_view l.earlier.items ≡ earlier_texts (take l.log-index l.logs)
