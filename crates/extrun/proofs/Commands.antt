-- The command `run` with one argument more, and that the parser knows the matches of the program's command line.
use Rattle.std.proofs.Common.{◌≡◌, true, false, List, [], ◌∷◌, ◌++◌, ap, refl, ◌∙◌}
use Rattle.std.specs.Prelude.{◌||◌}
use Rattle.clap.specs.Words.{AddsArg, App, Rule, Shape, Text, app_of, is_simple, new_app, rule_of, shape_of}
use Rattle.clap.specs.declared.builder.arg.Arg.{Arg}
use Rattle.clap.specs.declared.builder.command.Command.{Command}
use Rattle.clap.specs.declared.builder.command.Command.TheViews.{out-Command}
use Rattle.clap.specs.declared.builder.value_parser.ValueParser.{ValueParser}
use Rattle.clap.proofs.OnLiterals.{clap_on_literals}
use Rattle.extrun.specs.CommandLine.{IsCommandLine, check_of, command, id, program, run_of}

-- a command of this name, which takes these and has no global argument
pub record Takes (made : Command) (name : Text) (rules : List Rule) : Type 0 where
  pub shape : shape_of made ≡ command name rules
  pub local : (out-Command made).has_globals ≡ false

-- a new command that says something of itself takes nothing yet
pub takes_nothing : (old new : Command) (name : Text) → app_of old ≡ new_app name → (out-Command old).has_globals ≡ false → shape_of new ≡ shape_of old
    → (out-Command new).has_globals ≡ (out-Command old).has_globals → Takes new name []
takes_nothing old new name app local shape globals = record { shape = shape ∙ ap (λ a. a.top) app; local = globals ∙ local }

abbrev more : Shape → Rule → Shape
more shape rule = record shape { rules = shape.rules ++ rule ∷ [] }

pub takes_more : (old new : Command) (arg : Arg) (rule : Rule) (name : Text) (rules : List Rule) → Takes old name rules → AddsArg old arg new → rule_of arg ≡ rule
    → arg.global ≡ false → Takes new name (rules ++ rule ∷ [])
takes_more old new arg rule name rules before adds is local =
    record {
      shape = ap (λ app. app.top) (adds.shape local) ∙ ap (λ shape. more shape (rule_of arg)) before.shape ∙ ap (λ r. more (command name rules) r) is;
      local = adds.globals ∙ ap (λ globals. globals || arg.global) before.local ∙ local;
    }

abbrev line_with : Shape → Shape → App
line_with run check = record { top = program; subs = run ∷ check ∷ id ∷ [] }

is_simple_line : (store form color races : ValueParser) → is_simple (line_with (run_of store form color) (check_of races)) ≡ true
unfolding clap_on_literals
is_simple_line store form color races = refl

pub line_is_simple : (line : App) → IsCommandLine line → is_simple line ≡ true
line_is_simple line is =
    let run = is.is_run in
    let check = is.is_check in
    ap is_simple (is.line_is ∙ ap (λ shape. line_with shape is.check) run.shape_is ∙ ap (line_with (run_of run.store run.form run.color)) check.shape_is)
    ∙ is_simple_line run.store run.form run.color check.form
