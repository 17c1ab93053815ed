-- What the words of a run ask for, by the rows that clap found: the texts under the name of each option.
use Rattle.std.specs.Prelude.{◌≡◌, ◌↔◌, ◌<◌, ◌&&◌, ◌||◌, not, ℕ, Bool, true, false, codes, List, Option, Some, None, IsTrue, if◌then◌else◌, is_some}
use Rattle.std.specs.Str.Parse.{IsNumeral, digits_value, without_leading_plus}
use Rattle.clap.specs.Walk.{Row, first_of, one_of}
use Rattle.ext_model.specs.declared.size.Size.TheVariants as sizes
use Rattle.ext_report.specs.declared.form.ReportForm.{ReportForm}
use Rattle.ext_report.specs.declared.form.ReportForm.TheVariants as forms
use Rattle.ext_run.specs.declared.options.Options.{Options}
use Rattle.extrun.specs.Flags.{IsFlag, IsSize}
use Rattle.extrun.specs.declared.color.ColorChoice.{ColorChoice}
use Rattle.extrun.specs.declared.color.ColorChoice.TheVariants as colors
use Rattle.extrun.specs.declared.command.Asides.{Asides}
use Rattle.extrun.specs.declared.command.Task.{Task}
use Rattle.extrun.specs.declared.command.Task.TheVariants as tasks

-- The number that the text after `--lanes` spells, or 4 if there is none.
pub record IsLaneCount (text : Option (List ℕ)) (lanes : ℕ) : Type 0 where
  pub none : text ≡ None → lanes ≡ 4
  pub value : (t : List ℕ) → text ≡ Some t → IsNumeral 10 (without_leading_plus t)
      → digits_value 10 (without_leading_plus t) < 256 → lanes ≡ digits_value 10 (without_leading_plus t)

abbrev pub form_of : Bool → Bool → Bool → ReportForm
form_of tree json junit = if tree then forms.Tree else if json then forms.Json else if junit then forms.Junit
    else forms.Text

-- The form of the report: a tree if `--tree` is set, otherwise JSON or JUnit's XML if the text after `--report` is
-- `json` or `junit`, otherwise text.
pub record IsForm (rows : List Row) (form : ReportForm) : Type 0 where
  pub tree : Bool
  pub json : Bool
  pub junit : Bool
  pub drawn : IsFlag (one_of (codes "tree") rows) tree
  pub by_lines : IsTrue json ↔ (first_of (codes "report") rows ≡ Some (codes "json"))
  pub by_suites : IsTrue junit ↔ (first_of (codes "report") rows ≡ Some (codes "junit"))
  pub form_is : form ≡ form_of tree json junit

-- A run on some number of lanes, or a plain run if the text after `--store` is `plain`; the form of its report; and how
-- large the plan may be.
pub record AreOptions (rows : List Row) (options : Options) : Type 0 where
  pub lanes : IsLaneCount (one_of (codes "lanes") rows) options.lanes
  pub plain : IsTrue options.plain ↔ (first_of (codes "store") rows ≡ Some (codes "plain"))
  pub form : IsForm rows options.form
  pub size : IsSize rows options.size

-- A form of the report is asked for, by `--tree` or `--report`.
pub record AsksForm (rows : List Row) (asked : Bool) : Type 0 where
  pub tree : Bool
  pub drawn : IsFlag (one_of (codes "tree") rows) tree
  pub asked_is : asked ≡ tree || is_some (first_of (codes "report") rows)

abbrev pub color_choice : Bool → Bool → ColorChoice
color_choice always never = if always then colors.Always else if never then colors.Never else colors.Auto

-- When a report for people has colours: always or never, if that is the text after `--color`.
pub record IsColor (text : Option (List ℕ)) (choice : ColorChoice) : Type 0 where
  pub always : Bool
  pub never : Bool
  pub is_always : IsTrue always ↔ (text ≡ Some (codes "always"))
  pub is_never : IsTrue never ↔ (text ≡ Some (codes "never"))
  pub choice_is : choice ≡ color_choice always never

-- Whether the progress of a run is shown, the times of its slowest nodes, and its faults once more. No word says that
-- this is for a terminal.
pub record AsksAsides (rows : List Row) (asides : Asides) : Type 0 where
  pub progress : IsFlag (one_of (codes "progress") rows) asides.progress
  pub durations : IsFlag (one_of (codes "durations") rows) asides.durations
  pub failures : IsFlag (one_of (codes "failures") rows) asides.failures
  pub for_terminal : asides.for_terminal ≡ false

-- A run by these options, the form of whose report is asked for or not, and what is said beside it.
pub record AsksRunBy (rows : List Row) (run : Options) (asked : Bool) (choice : ColorChoice) (asides : Asides) : Type 0 where
  pub options : AreOptions rows run
  pub form_asked : AsksForm rows asked
  pub color : IsColor (first_of (codes "color") rows) choice
  pub beside : AsksAsides rows asides

abbrev pub AsksRun : List Row → Task → Type 0
AsksRun rows (tasks.Run options asked color asides) = AsksRunBy rows options asked color asides
AsksRun rows (tasks.Check size) = ⊥
AsksRun rows (tasks.CheckAll size) = ⊥
AsksRun rows (tasks.Draw size) = ⊥
AsksRun rows (tasks.CheckRaces size form) = ⊥
AsksRun rows (tasks.Lint size form) = ⊥

-- Without a command: a run on four lanes, over the store for several threads, of a plan of usual size.
abbrev pub wordless_run : Task
wordless_run =
    tasks.Run (record { lanes = 4; plain = false; form = forms.Text; size = sizes.Usual }) false colors.Auto
    (record { progress = false; durations = false; failures = false; for_terminal = false })

-- ---- at a terminal

-- What becomes of a run. Other tasks stay.
abbrev pub of_run : (Options → Bool → ColorChoice → Asides → Task) → Task → Task
of_run change (tasks.Run options asked color asides) = change options asked color asides
of_run change (tasks.Check size) = tasks.Check size
of_run change (tasks.CheckAll size) = tasks.CheckAll size
of_run change (tasks.Draw size) = tasks.Draw size
of_run change (tasks.CheckRaces size form) = tasks.CheckRaces size form
of_run change (tasks.Lint size form) = tasks.Lint size form

abbrev pub is_always : ColorChoice → Bool
is_always colors.Auto = false
is_always colors.Always = true
is_always colors.Never = false

-- Whether a report for people has colours. Where nothing is asked for it has some if they are wanted: if the environment
-- has neither a `NO_COLOR` that is not empty nor a `TERM` of `dumb`. The kit has no contract for it, so that is any Bool.
abbrev pub is_colored : Bool → ColorChoice → Bool
is_colored wanted colors.Auto = wanted
is_colored wanted colors.Always = true
is_colored wanted colors.Never = false

-- The form of the report: if none is asked for it is for people, at a terminal or where colours are asked for.
abbrev pub form_at : Bool → Bool → Bool → ColorChoice → ReportForm → ReportForm
form_at is_terminal wanted asked color form =
    if not asked && (is_terminal || is_always color) then forms.Terminal (is_colored wanted color) else form

-- The task with that form.
abbrev pub shown_at : Bool → Bool → Task → Task
shown_at is_terminal wanted = of_run (λ options asked color asides.
    tasks.Run (record options { form = form_at is_terminal wanted asked color options.form }) asked color asides)

-- The task whose words on standard error are for a terminal, if that is one.
abbrev pub escaped_at : Bool → Task → Task
escaped_at is_terminal = of_run (λ options asked color asides.
    tasks.Run options asked color (record asides { for_terminal = asides.for_terminal || is_terminal }))
