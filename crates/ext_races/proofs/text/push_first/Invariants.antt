use Rattle.std.proofs.Common.{◌≡◌, ◌++◌, string_bytes, take}
use Rattle.std.specs.List.{flat_map}
use Rattle.ext_plan.specs.Plans.{plan_view}
use Rattle.ext_races.specs.RaceLines.{race_line}
use Rattle.ext_races.proofs.text.push_first.Given as goal

abbrev pub invariant-loop-race : goal.invariant-loop-race
invariant-loop-race l = string_bytes l.text ≡ string_bytes l.initial.text ++ flat_map (race_line (plan_view l.plan) l.names) (take l.race-index l.first)
