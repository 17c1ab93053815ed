-- What is said to be proved of a plan without races: that it has one report, or else one but for who computed a value and
-- who found it (`OneReports`).
use Rattle.ext_plan.specs.Plans.{PlanText}
use Rattle.ext_races.specs.declared.proved.Proved.{Proved}
use Rattle.ext_races.specs.declared.proved.Proved.TheVariants as proved
use Rattle.ext_races.specs.OneReports.{HasNearReport, HasOneReport}

-- The plan meets what the one law asks; or else what the other does.
abbrev pub IsProved : PlanText → Proved → Type 0
IsProved plan proved.OneReport = HasOneReport plan
IsProved plan proved.NearReport = HasNearReport plan × ¬ HasOneReport plan
