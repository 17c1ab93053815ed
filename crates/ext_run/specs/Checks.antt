-- What is written of a plan that is read but not run: how many nodes it has, how many of them are tests, how many
-- different keys its steps name, and for how many keys there are places. Numbers are decimal.
use Rattle.std.specs.Prelude.{◌≡◌, ℕ, Bool, true, false, not, nat_le, codes, List, ◌++◌, length, is_some, if◌then◌else◌, Option, Some, None, Result, Ok, Err}
use Rattle.ext_races.specs.declared.found.Found.{Found}
use Rattle.ext_races.specs.declared.found.Found.TheVariants as found
use Rattle.ext_races.specs.RaceJson.{found_json}
use Rattle.ext_races.specs.RaceLines.{found_text}
use Rattle.ext_report.specs.JsonTexts.{json_text}
use Rattle.ext_races.specs.Found.{IsFound}
use Rattle.ext_races.specs.Touches.{keys_named}
use Rattle.std.specs.Fmt.{decimal}
use Rattle.std.specs.List.{count_by}
use Rattle.ext_plan_reading.specs.Plans.{NodeText, PlanText}
use Rattle.ext_run.specs.declared.fault.RunFault.{RunFault}
use Rattle.ext_run.specs.declared.list_form.ListForm.{ListForm}
use Rattle.ext_run.specs.declared.list_form.ListForm.TheVariants as forms
use Rattle.ext_run.specs.Reports.{RefusedBy}

-- How many of the nodes are tests.
abbrev pub test_count : List NodeText → ℕ
test_count nodes = count_by (λ node. is_some node.test) nodes

-- No more keys are counted than a plan can have places for.
abbrev pub key_count_text : ℕ → List ℕ
key_count_text count = if nat_le count 1024 then decimal count else codes "more than 1024"

-- For instance `ok, 7 nodes, 3 tests, 2 of 64 keys` and a line feed.
unfoldable pub counts_line : PlanText → List ℕ
counts_line plan =
    codes "ok, " ++ decimal (length plan.nodes) ++ codes " nodes, " ++ decimal (test_count plan.nodes)
    ++ codes " tests, " ++ key_count_text (length (keys_named plan)) ++ codes " of " ++ decimal plan.key_places
    ++ codes " keys\n"

-- The line of the plan that was read. A refused plan has none.
abbrev pub IsCountsOf : Result PlanText RunFault → List ℕ → Type 0
IsCountsOf (Ok plan) line = line ≡ counts_line plan
IsCountsOf (Err fault) line = ⊥

-- It is refused as a plain run of the plan would be.
abbrev pub RefusedUnrun : RunFault → Result PlanText RunFault → Type 0
RefusedUnrun fault read = RefusedBy true 1 fault read

-- How many races are looked for: one more than are listed.
abbrev pub race_limit : ℕ
race_limit = 21

-- It was found that there is no race, and no limit was passed.
abbrev pub is_free : Found → Bool
is_free found.TooManyKeys = false
is_free found.TooManyNumbers = false
is_free (found.Races races names) = false
is_free (found.NoRaces proved) = true

-- What was found, in this form.
abbrev pub races_as : ListForm → PlanText → Found → List ℕ
races_as forms.Lines plan answer = found_text plan answer
races_as forms.Json plan answer = json_text (found_json plan answer)

-- What is written of a plan's races, or of what is proved of a plan without any; and whether there is one or a limit
-- was passed.
pub record TellsRaces (form : ListForm) (plan : PlanText) (text : List ℕ) (failed : Bool) : Type 0 where
  pub answer : Found
  pub races : IsFound plan race_limit answer
  pub text_is : text ≡ races_as form plan answer
  pub failed_is : failed ≡ not (is_free answer)

-- The same of what was read. A refused plan has no races.
abbrev pub IsRacesOf : ListForm → Result PlanText RunFault → List ℕ → Bool → Type 0
IsRacesOf form (Ok plan) text failed = TellsRaces form plan text failed
IsRacesOf form (Err fault) text failed = ⊥

-- ---- why keys have no place

-- The line where so many keys are named, and there are so many places.
unfoldable pub raise_line : ℕ → ℕ → List ℕ
raise_line keys places =
    codes "the plan: its steps name " ++ decimal keys ++ codes " different keys, and there are places for "
    ++ decimal places ++ codes ". Write keys = " ++ decimal keys ++ codes " at the top of the plan"

-- The same of more keys than a plan can have places for.
abbrev pub too_many_line : List ℕ
too_many_line = codes "the plan: its steps name more than 1024 different keys, for which no plan has places"

-- There is a line exactly where more keys are named than there are places.
unfoldable pub line_of_keys : ℕ → ℕ → Option (List ℕ)
line_of_keys keys places = if nat_le keys places then None
    else Some (if nat_le keys 1024 then raise_line keys places else too_many_line)

-- The line of a plan.
abbrev pub keys_explained : PlanText → Option (List ℕ)
keys_explained plan = line_of_keys (length (keys_named plan)) plan.key_places
