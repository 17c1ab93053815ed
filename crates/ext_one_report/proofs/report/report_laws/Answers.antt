use Rattle.ext_one_report.proofs.Near.{near_report, one_report}
use Rattle.ext_races.proofs.Free.{free_keeps_apart, race_free_closes_agree, race_free_shares_values}
use Rattle.ext_one_report.proofs.report.report_laws.Goals as goal

pub returns : goal.returns
returns c = record { one_report = one_report; near = near_report; apart = free_keeps_apart; shares = race_free_shares_values; closes = race_free_closes_agree }
