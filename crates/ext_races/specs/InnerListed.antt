-- Which races are listed for groups of touches: each pair of a group that clashes, and whose nodes may run beside one
-- another, once, up to a limit.
use Rattle.std.specs.Prelude.{ℕ, ◌==◌, Bool, not, ◌&&◌, List, [], ◌∷◌, ◌++◌, length, fold, nat_lt, if◌then◌else◌}
use Rattle.std.specs.Bool.{beq}
use Rattle.std.specs.List.{list_any}
use Rattle.std.specs.Str.{bytes_eq}
use Rattle.ext_plan.specs.Plans.{PlanText}
use Rattle.ext_plan.specs.StepWords.{word_eq}
use Rattle.ext_races.specs.declared.race.Race.{Race}
use Rattle.ext_races.specs.declared.race.Side.{Side}
use Rattle.ext_races.specs.Beside.{nodes_beside}
use Rattle.ext_races.specs.Touches.{TouchText}
use Rattle.ext_races.specs.Clashes.{clashes}
use Rattle.ext_races.specs.Races.{race_of}

-- ---- equality

abbrev pub side_eq : Side → Side → Bool
side_eq a b = (a.node == b.node) && word_eq a.word b.word && (a.key == b.key)

abbrev pub race_eq : Race → Race → Bool
race_eq a b = side_eq a.first b.first && side_eq a.second b.second && (a.context == b.context)

abbrev pub touch_eq : TouchText → TouchText → Bool
touch_eq t u = (t.node == u.node) && (t.context == u.context) && (t.key == u.key) && word_eq t.word u.word
    && beq t.changes u.changes && word_eq t.acts u.acts && bytes_eq t.text u.text

-- ---- races

abbrev pub race : PlanText → TouchText → TouchText → Bool
race plan t u = clashes t u && nodes_beside plan t.node u.node

-- ---- listing

-- Lists one more race, unless it is listed already or the list is full.
abbrev pub with_race : ℕ → List Race → Race → List Race
with_race most listed race = if nat_lt (length listed) most && not (list_any (λ r. race_eq r race) listed)
    then listed ++ race ∷ [] else listed

module _ (plan : PlanText) (most : ℕ) where
  abbrev pub pair_listed : TouchText → List Race → TouchText → List Race
  pair_listed t listed u = if race plan t u then with_race most listed (race_of t u) else listed

  -- Lists the races of a touch with its whole group.
  abbrev pub touch_listed : List TouchText → List Race → TouchText → List Race
  touch_listed group listed t = fold (pair_listed t) listed group

  abbrev pub group_listed : List Race → List TouchText → List Race
  group_listed listed group = fold (touch_listed group) listed group

  abbrev pub groups_listed : List (List TouchText) → List Race
  groups_listed groups = fold group_listed [] groups
