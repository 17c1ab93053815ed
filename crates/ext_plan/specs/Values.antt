-- A value of a run, and how it is closed (JUnit 5 User Guide, "Keeping State in Extensions"; Javadoc
-- `ExtensionContext.Store.CloseableResource`). That a value says itself whether it is closeable, and which closes fail,
-- is not from JUnit.
use Rattle.std.specs.Prelude.{ℕ, codes, Bool, List, length, take, Option, Some, None, if◌then◌else◌}
use Rattle.std.specs.Str.{bytes_eq}
use Rattle.ext_plan.specs.declared.plan_value.PlanValue.{PlanValue}
use Rattle.ext_plan.specs.StepTexts.{close_text}

-- A value: its text, and whether it is closed with its context.
pub record ValueText : Type 0 where
  pub text : List ℕ
  pub closeable : Bool

abbrev pub value_view : PlanValue → ValueText
value_view v = record { text = v.text.now; closeable = v.closeable }

abbrev pub begins_with : List ℕ → List ℕ → Bool
begins_with front text = bytes_eq front (take (length front) text)

-- The fault of the value's close. The close of a text that begins with `bad` fails.
abbrev pub close_fault : ValueText → Option (List ℕ)
close_fault value = if begins_with (codes "bad") value.text then Some (close_text value.text) else None
