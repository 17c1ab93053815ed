-- What is written of a plan's races for machines: one object of JSON, and a line feed behind it,
--
--     {"races":[RACE,RACE],"more":false,"proved":null,"limit":null}
--
-- with no space between tokens, and all members in this order. A race is
--
--     {"first":{"node":ID,"word":WORD,"key":KEY},"second":{"node":ID,"word":WORD,"key":KEY},"context":ID,"locked":false}
--
-- with what its line has (`RaceLines`): the first 20 are there, and `more` is true if there are more. `locked` is true
-- where the line tells of a lock. If there is no race, `proved` says what is proved of the plan's report: `one report`,
-- or `one report but for computed and found`.
--
-- If the plan exceeds a limit, `limit` names it and tells how many there are, as `{"of":"keys","most":64}`, and the
-- other members are null. `print` of the kit's JSON says how a text is written, and a text reads back as it was. The
-- format is not from JUnit.
use Rattle.std.specs.Prelude.{ℕ, false, codes, List, [], ◌∷◌, ◌++◌, length, nat_lt, take}
use Rattle.std.specs.Borrow.{Bor}
use Rattle.std.specs.Fmt.{decimal}
use Rattle.std.specs.List.{flat_map, slice_get}
use Rattle.json.specs.Token.{Token, begin_array, begin_object, boolean, end_array, end_object, key, null, number, string}
use Rattle.json.specs.Print.{print}
use Rattle.ext_model.specs.Sizes.{most_numbers}
use Rattle.ext_plan.specs.Plans.{PlanText}
use Rattle.ext_plan.specs.StepWords.{word_text}
use Rattle.ext_plan.specs.declared.plan.StepKey.{StepKey}
use Rattle.ext_races.specs.declared.found.Found.{Found}
use Rattle.ext_races.specs.declared.found.Found.TheVariants as found
use Rattle.ext_races.specs.declared.proved.Proved.{Proved}
use Rattle.ext_races.specs.declared.proved.Proved.TheVariants as proved
use Rattle.ext_races.specs.declared.race.Race.{Race}
use Rattle.ext_races.specs.declared.race.Side.{Side}
use Rattle.ext_races.specs.LockedApart.{locked_apart}
use Rattle.ext_races.specs.RaceLines.{id_of_node, line_limit, name_if}

-- A member whose value is a text.
abbrev pub text_member : List ℕ → List ℕ → List Token
text_member name text = key name ∷ string text ∷ []

-- How many there are at most of what a limit counts.
abbrev pub limit_object : List ℕ → ℕ → List Token
limit_object counted most =
    begin_object ∷ (text_member (codes "of") counted ++ key (codes "most") ∷ number (decimal most) ∷ end_object ∷ [])

abbrev pub proved_word : Proved → List ℕ
proved_word proved.OneReport = codes "one report"
proved_word proved.NearReport = codes "one report but for computed and found"

-- ---- the members `more` and `proved`

abbrev pub more_value : Found → Token
more_value found.TooManyKeys = null
more_value found.TooManyNumbers = null
more_value (found.Races races names) = boolean (nat_lt line_limit (length races.items))
more_value (found.NoRaces proved) = boolean false

abbrev pub proved_value : Found → Token
proved_value found.TooManyKeys = null
proved_value found.TooManyNumbers = null
proved_value (found.Races races names) = null
proved_value (found.NoRaces proved) = string (proved_word proved)

module _ (plan : PlanText) where
  -- A member whose value is the id of the plan's node at this index.
  abbrev pub id_member : List ℕ → ℕ → List Token
  id_member name node = text_member name (id_of_node plan node)

  -- The members that tell where a race is, and whether a lock keeps its tests apart.
  unfoldable pub place_members : Race → List Token
  place_members race = id_member (codes "context") race.context ++ key (codes "locked")
      ∷ boolean (locked_apart plan race.first.node race.second.node) ∷ []

  -- ---- objects

  module _ (names : List (Bor StepKey)) where
    unfoldable pub side_object : Side → List Token
    side_object side =
        begin_object ∷ (id_member (codes "node") side.node ++ text_member (codes "word") (word_text side.word)
        ++ text_member (codes "key") (name_if plan (slice_get names side.key)) ++ end_object ∷ [])

    unfoldable pub race_object : Race → List Token
    race_object race =
        begin_object ∷ key (codes "first") ∷ (side_object race.first ++ key (codes "second") ∷ (side_object race.second
        ++ place_members race ++ end_object ∷ []))

    -- The first races.
    abbrev pub races_array : List Race → List Token
    races_array races = begin_array ∷ (flat_map race_object (take line_limit races) ++ end_array ∷ [])

  -- ---- the members `races` and `limit`

  abbrev pub races_value : Found → List Token
  races_value found.TooManyKeys = null ∷ []
  races_value found.TooManyNumbers = null ∷ []
  races_value (found.Races races names) = races_array names.items races.items
  races_value (found.NoRaces proved) = begin_array ∷ end_array ∷ []

  abbrev pub limit_value : Found → List Token
  limit_value found.TooManyKeys = limit_object (codes "keys") plan.key_places
  limit_value found.TooManyNumbers = limit_object (codes "numbers") (most_numbers plan.size)
  limit_value (found.Races races names) = null ∷ []
  limit_value (found.NoRaces proved) = null ∷ []

  -- ---- the whole

  -- The members that tell of races.
  abbrev pub race_members : Found → List Token
  race_members answer = key (codes "races") ∷ (races_value answer ++ key (codes "more") ∷ more_value answer ∷ [])

  unfoldable pub found_object : Found → List Token
  found_object answer =
      begin_object ∷ (race_members answer ++ key (codes "proved") ∷ proved_value answer ∷ key (codes "limit")
      ∷ (limit_value answer ++ end_object ∷ []))

  abbrev pub found_json : Found → List ℕ
  found_json answer = print (found_object answer) ++ codes "\n"
