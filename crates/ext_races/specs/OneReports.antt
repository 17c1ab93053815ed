-- What a plan has to meet so that each of its runs on several lanes that lacks nothing is proved to report the same as
-- the plain run: exactly (`HasOneReport`), or but for who computed a value and who found it (`HasNearReport`). The law
-- is `report_laws` of ext_one_report (JUnit 5 User Guide, "Parallel Execution"; JUnit has no such rule).
use Rattle.std.specs.Prelude.{◌≡◌, ◌≤◌, ◌&&◌, false, true, length, Contains}
use Rattle.ext_model.specs.Sizes.{most_numbers}
use Rattle.ext_plan.specs.Plans.{PlanText}
use Rattle.ext_plan.specs.StepWords.{gives_value}
use Rattle.ext_races.specs.declared.race.Race.{Race}
use Rattle.ext_races.specs.Beside.{IsBeside}
use Rattle.ext_races.specs.Clashes.{agree, may_fail}
use Rattle.ext_races.specs.Races.{IsRace}
use Rattle.ext_races.specs.Touches.{TouchText, keys_named, numbers_drawn, touches_made}

-- ---- what nodes touch

-- No node may change a place that a node touches that may run beside it, unless both have a factory there that fails with
-- the same text, or the second only finds there what a node above both has computed, as the first does. Two nodes that
-- compute the same value in one place do not keep apart, though they are no race.
pub record KeepsApart (plan : PlanText) : Type 0 where
  pub apart : (first second : TouchText) → Contains (touches_made plan) first → Contains (touches_made plan) second
      → IsBeside plan first.node second.node → first.changes ≡ true
      → first.context ≡ second.context → first.key ≡ second.key → (agree first second ≡ true)
      × ((gives_value first.word && second.changes) ≡ false)

-- If nodes that may run beside one another touch one place that one of them may change, that one computes there, and the
-- other computes the same or finds it.
pub record SharesValues (plan : PlanText) : Type 0 where
  pub alike : (first second : TouchText) → Contains (touches_made plan) first → Contains (touches_made plan) second
      → IsBeside plan first.node second.node → first.changes ≡ true
      → first.context ≡ second.context → first.key ≡ second.key → agree first second ≡ true

-- If nodes that may run beside one another may leave values in one context whose closes fail, these have one text. So a
-- report doesn't show in which order such nodes stored them. Which of other nodes comes first is fixed by the plan.
pub record ClosesAgreeBeside (plan : PlanText) : Type 0 where
  pub one : (first second : TouchText) → Contains (touches_made plan) first → Contains (touches_made plan) second
      → IsBeside plan first.node second.node → may_fail first ≡ true → may_fail second ≡ true
      → first.context ≡ second.context → first.text ≡ second.text

-- ---- plans without races

-- If two touches of one place agree, both may change it and their nodes may run beside one another, they give no value:
-- both have a factory there that fails.
pub record NoneShare (plan : PlanText) : Type 0 where
  pub none : (first second : TouchText) → Contains (touches_made plan) first → Contains (touches_made plan) second
      → IsBeside plan first.node second.node → first.changes ≡ true → second.changes ≡ true
      → first.context ≡ second.context → first.key ≡ second.key → agree first second ≡ true
      → gives_value first.word ≡ false

-- In a plan without races whose nodes share no value, they keep apart.
abbrev pub FreeKeepsApart : Type 0
FreeKeepsApart = (plan : PlanText) → ((race : Race) → ¬ IsRace plan race) → NoneShare plan → KeepsApart plan

-- In a plan without races nodes share values.
abbrev pub RaceFreeSharesValues : Type 0
RaceFreeSharesValues = (plan : PlanText) → ((race : Race) → ¬ IsRace plan race) → SharesValues plan

-- In a plan without races the closes of nodes beside one another agree.
abbrev pub RaceFreeClosesAgree : Type 0
RaceFreeClosesAgree = (plan : PlanText) → ((race : Race) → ¬ IsRace plan race) → ClosesAgreeBeside plan

-- ---- what the laws ask

-- What the theorem asks of a plan: nodes that may run beside one another touch no place that one of them may change, but
-- to fail alike there or to find what was computed above both, and leave no values in one context whose closes fail with
-- different texts; and there are keys for all that its steps name, and numbers for all that they may draw.
pub record HasOneReport (plan : PlanText) : Type 0 where
  pub apart : KeepsApart plan
  pub closes : ClosesAgreeBeside plan
  pub keys : length (keys_named plan) ≤ plan.key_places
  pub numbers : numbers_drawn plan ≤ most_numbers plan.size

-- What the second theorem asks of a plan whose nodes may compute the same value beside one another, or find it: if they
-- touch one place that one of them may change, each does so there, or they fail alike. The rest is as above.
pub record HasNearReport (plan : PlanText) : Type 0 where
  pub alike : SharesValues plan
  pub closes : ClosesAgreeBeside plan
  pub keys : length (keys_named plan) ≤ plan.key_places
  pub numbers : numbers_drawn plan ≤ most_numbers plan.size
