-- What a race of a plan is, and which races are listed.
use Rattle.std.specs.Prelude.{ℕ, ◌≡◌, ◌≢◌, ◌<◌, ◌≤◌, true, List, length, nat_lt, All, AllPairs, Contains, if◌then◌else◌}
use Rattle.ext_plan.specs.Plans.{PlanText}
use Rattle.ext_races.specs.declared.race.Race.{Race}
use Rattle.ext_races.specs.declared.race.Side.{Side}
use Rattle.ext_races.specs.Touches.{TouchText, touches_made}
use Rattle.ext_races.specs.Clashes.{clashes}
use Rattle.ext_races.specs.Beside.{IsBeside}

abbrev pub side_of : TouchText → Side
side_of t = record { node = t.node; word = t.word; key = t.key }

-- The race of two touches in one context. That of the node with the lower number comes first.
abbrev pub race_of : TouchText → TouchText → Race
race_of t u =
    if nat_lt t.node u.node
    then record { first = side_of t; second = side_of u; context = t.context }
    else record { first = side_of u; second = side_of t; context = t.context }

-- Two touches clash, and their nodes may run beside one another.
pub record IsRace (plan : PlanText) (race : Race) : Type 0 where
  pub first : TouchText
  pub second : TouchText
  pub first_made : Contains (touches_made plan) first
  pub second_made : Contains (touches_made plan) second
  pub beside : IsBeside plan first.node second.node
  pub clash : clashes first second ≡ true
  pub is : race ≡ race_of first second

-- Every answer is a race, without repetition. At most `most` are listed, and fewer only if there are no more.
pub record AreRaces (plan : PlanText) (most : ℕ) (races : List Race) : Type 0 where
  pub found : All (IsRace plan) races
  pub different : AllPairs (λ a b. a ≢ b) races
  pub few : length races ≤ most
  pub all : length races < most → (race : Race) → IsRace plan race → Contains races race
