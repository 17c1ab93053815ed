-- What is found of a plan: its races; or that it has none, and what is proved of it; or the limit that it exceeds.
use Rattle.std.specs.Prelude.{ℕ, ◌≡◌, ◌<◌, ◌≤◌, List, length, map}
use Rattle.std.specs.Borrow.{Bor}
use Rattle.ext_model.specs.Sizes.{most_numbers}
use Rattle.ext_tree.specs.Keys.{KeyValue}
use Rattle.ext_plan.specs.Plans.{PlanText, step_key_view}
use Rattle.ext_plan.specs.StoreKeys.{key_of_step}
use Rattle.ext_plan.specs.declared.plan.StepKey.{StepKey}
use Rattle.ext_races.specs.declared.found.Found.{Found}
use Rattle.ext_races.specs.declared.found.Found.TheVariants as found
use Rattle.ext_races.specs.declared.proved.Proved.{Proved}
use Rattle.ext_races.specs.declared.race.Race.{Race}
use Rattle.ext_races.specs.Proving.{IsProved}
use Rattle.ext_races.specs.Races.{AreRaces, IsRace}
use Rattle.ext_races.specs.Touches.{keys_named, numbers_drawn}

-- The keys of these names.
abbrev pub keys_of_names : PlanText → List (Bor StepKey) → List KeyValue
keys_of_names plan names = map (λ k. key_of_step plan.keys (step_key_view k.now)) names

-- The plan exceeds no limit, and these are the names of its keys.
pub record IsWithin (plan : PlanText) (names : List (Bor StepKey)) : Type 0 where
  pub keys : length (keys_named plan) ≤ plan.key_places
  pub numbers : numbers_drawn plan ≤ most_numbers plan.size
  pub named : keys_of_names plan names ≡ keys_named plan

-- The plan has no race, and this is proved of it.
pub record IsFree (plan : PlanText) (is : Proved) : Type 0 where
  pub none : (race : Race) → ¬ IsRace plan race
  pub proved : IsProved plan is

-- These are races of the plan. There is one, if any is asked for.
pub record HasRaces (plan : PlanText) (most : ℕ) (races : List Race) : Type 0 where
  pub are : AreRaces plan most races
  pub some : 0 < most → 0 < length races

-- Too many keys are reported before too many numbers, and either before the races.
abbrev pub IsFound : PlanText → ℕ → Found → Type 0
IsFound plan most found.TooManyKeys = plan.key_places < length (keys_named plan)
IsFound plan most found.TooManyNumbers = (length (keys_named plan) ≤ plan.key_places)
    × (most_numbers plan.size < numbers_drawn plan)
IsFound plan most (found.Races races names) = IsWithin plan names.items × HasRaces plan most races.items
IsFound plan most (found.NoRaces proved) = IsFree plan proved
