-- What the words of a command line ask for, by the rows that clap found: the texts under the name of each option. Texts
-- are lists of bytes.
use Rattle.std.specs.Prelude.{◌≡◌, ◌≢◌, ◌&&◌, ◌||◌, not, ℕ, Bool, true, false, codes, List, [], ◌∷◌, map, Option, Some, None, if◌then◌else◌, is_some, option_map, string_bytes, unwrap_or}
use Rattle.clap.specs.Walk.{Row, Text, all_of, first_of, one_of}
use Rattle.ext_model.specs.declared.size.Size.{Size}
use Rattle.ext_run.specs.declared.list_form.ListForm.{ListForm}
use Rattle.ext_run.specs.declared.list_form.ListForm.TheVariants as forms
use Rattle.extrun.specs.Flags.{IsFlag, IsSize}
use Rattle.extrun.specs.RunWords.{AsksRun, wordless_run}
use Rattle.extrun.specs.declared.command.FileNames.{FileNames}
use Rattle.extrun.specs.declared.command.Request.{Request}
use Rattle.extrun.specs.declared.command.Request.TheVariants as requests
use Rattle.extrun.specs.declared.command.Task.{Task}
use Rattle.extrun.specs.declared.command.Task.TheVariants as tasks

-- To check a plan of this size with all faults, unless another flag is set.
abbrev pub checks_all : Bool → Size → Option Task
checks_all other size = if other then None else Some (tasks.CheckAll size)

-- What `check` does by three of its flags: list the races of a plan of this size in this form, draw it, or check it,
-- with all faults or the first. Each flag excludes the others.
abbrev pub check_as : Bool → Bool → Bool → ListForm → Size → Option Task
check_as races tree all form size =
    if races && tree then None
    else if all then checks_all (races || tree) size
    else if races then Some (tasks.CheckRaces size form)
    else if tree then Some (tasks.Draw size)
    else Some (tasks.Check size)

-- The same by a fourth flag, which excludes the others: to note what is most likely a mistake.
abbrev pub check_with : Bool → Bool → Bool → Bool → ListForm → Size → Option Task
check_with lint races tree all form size =
    if not lint then check_as races tree all form size
    else if races || tree || all then None
    else Some (tasks.Lint size form)

-- The same where a form may be asked for, which is only that of races and notes. Without one they are lines.
abbrev pub check_in : Option ListForm → Bool → Bool → Bool → Bool → Size → Option Task
check_in form lint races tree all size =
    if is_some form && not races && not lint then None else check_with lint races tree all (unwrap_or form forms.Lines) size

-- The form of races or notes that the text after `--report` asks for, if there is one.
pub record IsListForm (text : Option Text) (form : Option ListForm) : Type 0 where
  pub none : text ≡ None → form ≡ None
  pub object : text ≡ Some (codes "json") → form ≡ Some forms.Json
  pub lines : (t : Text) → text ≡ Some t → t ≢ codes "json" → form ≡ Some forms.Lines

-- The files of a run: that of its plan, and those behind `--junit`, `--json` and `--html`.
pub record AreRunFiles (rows : List Row) (files : FileNames) : Type 0 where
  pub plan : option_map string_bytes files.plan ≡ first_of (codes "FILE") rows
  pub junit : option_map string_bytes files.junit ≡ first_of (codes "junit") rows
  pub json : option_map string_bytes files.json ≡ first_of (codes "json") rows
  pub html : option_map string_bytes files.html ≡ first_of (codes "html") rows

-- The file of a plan, and no other.
pub record IsPlanAlone (rows : List Row) (files : FileNames) : Type 0 where
  pub plan : option_map string_bytes files.plan ≡ first_of (codes "FILE") rows
  pub junit : files.junit ≡ None
  pub json : files.json ≡ None
  pub html : files.html ≡ None

-- A run by the words, and its files.
abbrev pub AsksRunOf : List Row → Task → FileNames → Type 0
AsksRunOf rows task files = AsksRun rows task × AreRunFiles rows files

-- To do such a task with such files. It is explained why it is not done, unless `--brief` is set.
abbrev pub AsksOfPlan : List Row → (Task → FileNames → Type 0) → Request → Type 0
AsksOfPlan rows asks (requests.Plan task files brief) = asks task files × IsFlag (one_of (codes "brief") rows) brief
AsksOfPlan rows asks (requests.Id text brief) = ⊥
AsksOfPlan rows asks (requests.MakeId parts) = ⊥
AsksOfPlan rows asks requests.Help = ⊥
AsksOfPlan rows asks requests.Refused = ⊥
AsksOfPlan rows asks requests.Unwritten = ⊥
AsksOfPlan rows asks requests.Memory = ⊥

-- To do this task with the plan alone. Where there is none, the flags are a mistake, which is reported.
abbrev pub AsksTask : List Row → Option Task → Request → Type 0
AsksTask rows (Some task) request = AsksOfPlan rows (λ asked files. (asked ≡ task) × IsPlanAlone rows files) request
AsksTask rows None request = request ≡ requests.Refused

-- To list the plan's races if `--races` is set, or note its mistakes if `--lint` is set, in the form that `--report`
-- asks for, to draw it if `--tree` is set, and otherwise to check it, with all faults if `--all` is set.
pub record AsksCheck (rows : List Row) (request : Request) : Type 0 where
  pub races : Bool
  pub tree : Bool
  pub all : Bool
  pub lint : Bool
  pub form : Option ListForm
  pub size : Size
  pub told : IsFlag (one_of (codes "races") rows) races
  pub drawn : IsFlag (one_of (codes "tree") rows) tree
  pub whole : IsFlag (one_of (codes "all") rows) all
  pub noted : IsFlag (one_of (codes "lint") rows) lint
  pub written : IsListForm (first_of (codes "report") rows) form
  pub asked : IsSize rows size
  pub asks : AsksTask rows (check_in form lint races tree all size) request

-- ---- ids

-- The texts behind the word `id`.
abbrev pub texts_of : List Row → List Text
texts_of rows = unwrap_or (all_of (codes "TEXT") rows) []

-- To read this id, with its fault explained by the same word.
abbrev pub IsReadingOf : Text → Bool → Request → Type 0
IsReadingOf text brief (requests.Plan _ _ _) = ⊥
IsReadingOf text brief (requests.Id own short) = (string_bytes own ≡ text) × (short ≡ brief)
IsReadingOf text brief (requests.MakeId _) = ⊥
IsReadingOf text brief requests.Help = ⊥
IsReadingOf text brief requests.Refused = ⊥
IsReadingOf text brief requests.Unwritten = ⊥
IsReadingOf text brief requests.Memory = ⊥

-- To make the id of these parts.
abbrev pub IsMakingOf : List Text → Request → Type 0
IsMakingOf texts (requests.Plan _ _ _) = ⊥
IsMakingOf texts (requests.Id _ _) = ⊥
IsMakingOf texts (requests.MakeId parts) = map string_bytes parts.items ≡ texts
IsMakingOf texts requests.Help = ⊥
IsMakingOf texts requests.Refused = ⊥
IsMakingOf texts requests.Unwritten = ⊥
IsMakingOf texts requests.Memory = ⊥

-- What these texts ask for, by `--make` and `--brief`. Without `--make` one is read, and several are a mistake, which is
-- reported.
abbrev pub AsksOfTexts : Bool → Bool → List Text → Request → Type 0
AsksOfTexts true brief texts request = IsMakingOf texts request
AsksOfTexts false brief [] request = request ≡ requests.Refused
AsksOfTexts false brief (text ∷ []) request = IsReadingOf text brief request
AsksOfTexts false brief (text ∷ second ∷ others) request = request ≡ requests.Refused

-- To make an id of all texts if `--make` is set, and otherwise to read the one text.
pub record AsksId (rows : List Row) (request : Request) : Type 0 where
  pub make : Bool
  pub brief : Bool
  pub making : IsFlag (one_of (codes "make") rows) make
  pub short : IsFlag (one_of (codes "brief") rows) brief
  pub asks : AsksOfTexts make brief (texts_of rows) request

-- ---- the commands

-- What a command with this name asks for by its other words.
pub record AsksNamed (name : List ℕ) (rows : List Row) (request : Request) : Type 0 where
  pub id : name ≡ codes "id" → AsksId rows request
  pub check : name ≡ codes "check" → AsksCheck rows request
  pub run : name ≢ codes "id" → name ≢ codes "check" → AsksOfPlan rows (AsksRunOf rows) request

-- What it asks for. Both `--explain` and `--brief` are a mistake, which is reported; `--explain` alone changes nothing.
pub record AsksCommand (name : List ℕ) (rows : List Row) (request : Request) : Type 0 where
  pub explain : Bool
  pub brief : Bool
  pub explained : IsFlag (one_of (codes "explain") rows) explain
  pub short : IsFlag (one_of (codes "brief") rows) brief
  pub both : explain && brief ≡ true → request ≡ requests.Refused
  pub asks : explain && brief ≡ false → AsksNamed name rows request

abbrev pub AsksFor : Option (List ℕ × List Row) → Request → Type 0
AsksFor None request = request ≡ requests.Plan wordless_run (record { plan = None; junit = None; json = None; html = None }) false
AsksFor (Some command) request = AsksCommand command.0 command.1 request
