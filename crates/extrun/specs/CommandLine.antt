-- The command line as its parser reads it: the program's commands, and the words, options and flags that each takes.
-- `subcommand_of` of clap's specs says what the parser makes of words: the command that they name, and the texts under
-- the name of each option.
use Rattle.std.specs.Prelude.{◌≡◌, ◌≢◌, ◌⊎◌, codes, List, [], ◌∷◌, map, Some, pos, true, false}
use Rattle.clap.specs.Words.{App, Rule, Shape, Text, new_app, new_rule, subcommand_of, takes}
use Rattle.std.specs.Borrow.{Bor}
use Rattle.clap.specs.declared.builder.action.ArgAction.TheVariants.{Append, Set, SetTrue}
use Rattle.clap.specs.declared.builder.value_parser.ValueParser.{ValueParser}
use Rattle.clap.specs.declared.builder.value_parser.ValueParser.TheVariants as values
use Rattle.extrun.specs.CommandWords.{AsksFor}
use Rattle.extrun.specs.declared.command.Request.{Request}
use Rattle.extrun.specs.declared.command.Request.TheVariants as requests

-- ---- what a command takes

-- A positional word.
abbrev pub word : Text → Rule
word name = record (new_rule name) { action = Some Set }

-- `--name`
abbrev pub flag : Text → Rule
flag name = record (new_rule name) { long = Some name; action = Some SetTrue }

-- `--name VALUE`, with a default.
abbrev pub option : Text → ValueParser → Text → Rule
option name value default = record (new_rule name) {
  long = Some name;
  action = Some Set;
  parser = Some value;
  value_names = 1;
  defaults = default ∷ [];
}

-- `--name FILE`
abbrev pub file_option : Text → Rule
file_option name = record (new_rule name) { long = Some name; action = Some Set; value_names = 1 }

-- `--name VALUE`, with none.
abbrev pub free_option : Text → ValueParser → Rule
free_option name value = record (option name value []) { defaults = [] }

-- A value that is one of these texts.
abbrev pub IsOneOf : ValueParser → List Text → Type 0
IsOneOf value names = (given : Bor (List (Bor Text))) × (value ≡ values.Names given)
    × (map (λ name. name.now) given.now ≡ names)

-- ---- the commands

abbrev pub plan_file : Rule
plan_file = word (codes "FILE")

-- The texts of `id`.
abbrev pub id_texts : Rule
id_texts = record (word (codes "TEXT")) { action = Some Append; required = true }

abbrev pub lanes : Rule
lanes = option (codes "lanes") (values.Signed (pos 1) (pos 16)) (codes "4")

-- `--tree` of a run, which excludes `--report`.
abbrev pub tree : Rule
tree = record (flag (codes "tree")) { is_free = false }

-- A command with this name, and what it takes.
abbrev pub command : Text → List Rule → Shape
command name rules = record (new_app name).top { rules = rules }

-- `run`, with these values for the store, for the form of the report and for its colours.
abbrev pub run_of : ValueParser → ValueParser → ValueParser → Shape
run_of store form color = command (codes "run")
    (plan_file ∷ lanes ∷ option (codes "store") store (codes "cells") ∷ free_option (codes "report") form
    ∷ tree ∷ file_option (codes "junit") ∷ file_option (codes "json") ∷ file_option (codes "html")
    ∷ option (codes "color") color (codes "auto")
    ∷ flag (codes "progress") ∷ flag (codes "durations") ∷ flag (codes "failures") ∷ flag (codes "large")
    ∷ flag (codes "explain") ∷ flag (codes "brief") ∷ [])

-- The shape of `run`: its stores are `plain` and `cells`, its forms `text`, `json` and `junit`, its colours `auto`,
-- `always` and `never`.
pub record IsRun (shape : Shape) : Type 0 where
  pub store : ValueParser
  pub form : ValueParser
  pub color : ValueParser
  pub stores : IsOneOf store (codes "plain" ∷ codes "cells" ∷ [])
  pub forms : IsOneOf form (codes "text" ∷ codes "json" ∷ codes "junit" ∷ [])
  pub colors : IsOneOf color (codes "auto" ∷ codes "always" ∷ codes "never" ∷ [])
  pub shape_is : shape ≡ run_of store form color

-- `check`, with these values for the form of races.
abbrev pub check_of : ValueParser → Shape
check_of form = command (codes "check")
    (plan_file ∷ flag (codes "tree") ∷ flag (codes "races") ∷ free_option (codes "report") form ∷ flag (codes "lint")
    ∷ flag (codes "all") ∷ flag (codes "large") ∷ flag (codes "explain") ∷ flag (codes "brief") ∷ [])

-- The shape of `check`: the forms of races are `text` and `json`.
pub record IsCheck (shape : Shape) : Type 0 where
  pub form : ValueParser
  pub forms : IsOneOf form (codes "text" ∷ codes "json" ∷ [])
  pub shape_is : shape ≡ check_of form

abbrev pub id : Shape
id = command (codes "id")
    (id_texts ∷ flag (codes "make") ∷ flag (codes "explain") ∷ flag (codes "brief") ∷ [])

-- The program itself, which has a version.
abbrev pub program : Shape
program = record (new_app (codes "extrun")).top { has_version = true; is_leaf = false }

-- The program with its commands.
pub record IsCommandLine (line : App) : Type 0 where
  pub run : Shape
  pub check : Shape
  pub is_run : IsRun run
  pub is_check : IsCheck check
  pub line_is : line ≡ record { top = program; subs = run ∷ check ∷ id ∷ [] }

-- ---- what words ask for

-- Nothing is left to do: the help or the version was printed, or could not be, or a mistake was reported.
abbrev pub AsksNothing : Request → Type 0
AsksNothing (requests.Plan _ _ _) = ⊥
AsksNothing (requests.Id _ _) = ⊥
AsksNothing (requests.MakeId _) = ⊥
AsksNothing requests.Help = Unit {0}
AsksNothing requests.Refused = Unit {0}
AsksNothing requests.Unwritten = Unit {0}
AsksNothing requests.Memory = ⊥

-- What these words ask for, of which the first is the program's own name. The parser makes a command of them, and the
-- request is what that command asks for. Otherwise nothing is left to do, only for words that the parser does not take;
-- `takes` decides that for each command except `run`.
pub record AsksBy (words : List Text) (request : Request) : Type 0 where
  pub line : App
  pub line_is : IsCommandLine line
  pub asks : AsksFor (subcommand_of line words) request ⊎ (AsksNothing request × (takes line words ≢ true))
