-- What is written of a plan's races: a line for each of the first 20,
--
--     WORD KEY of ID and WORD KEY of ID in ID
--
-- with the step of the node that comes first in the plan, that of the other, and the context of the place. A step is
-- shown by its first word, the word by which the plan's steps first name its key, and the id of its node. Where both are
-- tests that never run at one moment the line goes on, since either may still go first. A line `and more` follows if
-- there are more. If there is no race, the only line says so, and what is proved of the plan's
-- report. A limit that the plan exceeds has a line of its own, which tells it in decimal. Texts are bytes; the format is
-- not from JUnit.
use Rattle.std.specs.Prelude.{ℕ, codes, List, [], ◌++◌, length, nat_lt, take, Option, Some, None, if◌then◌else◌}
use Rattle.std.specs.Borrow.{Bor}
use Rattle.std.specs.Fmt.{decimal}
use Rattle.std.specs.List.{flat_map, slice_get}
use Rattle.ext_ids.specs.Grammar.{id_text}
use Rattle.ext_model.specs.Sizes.{most_numbers}
use Rattle.ext_plan.specs.Plans.{NodeText, PlanText, step_key_view}
use Rattle.ext_plan.specs.StepCalls.{label_of}
use Rattle.ext_plan.specs.declared.plan.StepKey.{StepKey}
use Rattle.ext_plan.specs.StepWords.{word_text}
use Rattle.ext_races.specs.LockedApart.{locked_apart}
use Rattle.ext_races.specs.declared.race.Race.{Race}
use Rattle.ext_races.specs.declared.race.Side.{Side}
use Rattle.ext_races.specs.declared.proved.Proved.{Proved}
use Rattle.ext_races.specs.declared.proved.Proved.TheVariants as proved
use Rattle.ext_races.specs.declared.found.Found.{Found}
use Rattle.ext_races.specs.declared.found.Found.TheVariants as found

-- How many races have a line.
abbrev pub line_limit : ℕ
line_limit = 20

-- What is proved of a plan's report.
abbrev pub proved_text : Proved → List ℕ
proved_text proved.OneReport = codes "no races: one report\n"
proved_text proved.NearReport = codes "no races: one report but for computed and found\n"

-- The id of a node, if it is there.
abbrev pub id_if : Option NodeText → List ℕ
id_if None = []
id_if (Some node) = id_text node.id

module _ (plan : PlanText) where
  -- The id of the plan's node at this index.
  abbrev pub id_of_node : ℕ → List ℕ
  id_of_node node = id_if (slice_get plan.nodes node)

  -- The word by which a step names its key, if any.
  abbrev pub name_if : Option (Bor StepKey) → List ℕ
  name_if None = []
  name_if (Some name) = label_of plan.keys (step_key_view name.now)

  -- What a lock does, where it keeps two tests apart.
  unfoldable pub lock_text : ℕ → ℕ → List ℕ
  lock_text first second = if locked_apart plan first second then codes ": a lock keeps them apart, not in order" else []

  -- ---- lines

  module _ (names : List (Bor StepKey)) where
    -- `WORD KEY of ID`
    unfoldable pub side_text : Side → List ℕ
    side_text side = word_text side.word ++ codes " " ++ name_if (slice_get names side.key) ++ codes " of "
        ++ id_of_node side.node

    unfoldable pub race_line : Race → List ℕ
    race_line race = side_text race.first ++ codes " and " ++ side_text race.second ++ codes " in "
        ++ id_of_node race.context ++ lock_text race.first.node race.second.node ++ codes "\n"

    -- The lines of the first races, and whether there are more.
    abbrev pub race_lines : List Race → List ℕ
    race_lines races = flat_map race_line (take line_limit races)
        ++ (if nat_lt line_limit (length races) then codes "and more\n" else [])

  -- What is written, by what was found.
  abbrev pub found_text : Found → List ℕ
  found_text found.TooManyKeys = codes "the steps name more than " ++ decimal plan.key_places ++ codes " keys\n"
  found_text found.TooManyNumbers =
      codes "the steps may draw more than " ++ decimal (most_numbers plan.size) ++ codes " numbers\n"
  found_text (found.Races races names) = race_lines names.items races.items
  found_text (found.NoRaces proved) = proved_text proved
