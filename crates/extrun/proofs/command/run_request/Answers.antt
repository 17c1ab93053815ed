use Rattle.std.proofs.Common.{subst, sym}
use Rattle.clap.specs.Matches.{found_of}
use Rattle.clap.specs.Walk.{rows_of}
use Rattle.extrun.specs.CommandWords.{AreRunFiles, AsksRunOf}
use Rattle.extrun.specs.RunWords.{AsksRun}
use Rattle.extrun.proofs.Requests.{asks-weaker}
use Rattle.extrun.proofs.command.run_request.Goals as goal

pub returns : goal.returns
returns c =
    let rows = rows_of (found_of c.args.words.now) in
    asks-weaker rows _ (AsksRunOf rows) (λ task files is. (subst (AsksRun rows) (sym is.0) c.run_of.ensures, subst (AreRunFiles rows) (sym is.1) c.in_ok-run_files.ensures)) c.plan_request.result c.plan_request.ensures
