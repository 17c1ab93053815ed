-- What is written of the notes of a plan that is read but not run.
use Rattle.std.specs.Prelude.{◌≡◌, ℕ, Bool, List, Result, Ok, Err}
use Rattle.ext_lint.specs.NoteJson.{lint_json}
use Rattle.ext_lint.specs.NoteLines.{has_notes, lint_text}
use Rattle.ext_plan_reading.specs.Plans.{PlanText}
use Rattle.ext_report.specs.JsonTexts.{json_text}
use Rattle.ext_run.specs.declared.fault.RunFault.{RunFault}
use Rattle.ext_run.specs.declared.list_form.ListForm.{ListForm}
use Rattle.ext_run.specs.declared.list_form.ListForm.TheVariants as forms

-- The plan's notes in this form.
abbrev pub notes_as : ListForm → PlanText → List ℕ
notes_as forms.Lines plan = lint_text plan
notes_as forms.Json plan = json_text (lint_json plan)

-- The text is that of the plan's notes, and `failed` is whether there is one.
pub record TellsNotes (form : ListForm) (plan : PlanText) (text : List ℕ) (failed : Bool) : Type 0 where
  pub text_is : text ≡ notes_as form plan
  pub failed_is : failed ≡ has_notes plan

-- The same of what was read. A refused plan has no notes.
abbrev pub IsNotesOf : ListForm → Result PlanText RunFault → List ℕ → Bool → Type 0
IsNotesOf form (Ok plan) text failed = TellsNotes form plan text failed
IsNotesOf form (Err fault) text failed = ⊥
