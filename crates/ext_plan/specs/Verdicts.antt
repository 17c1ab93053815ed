-- How a step ends, by what its look-up showed, or by why its call of the store was refused. `name` is the step's first
-- word and `label` the word by which it names its key. A look-up is `get` of JUnit's `ExtensionContext.Store`; the
-- verdicts are not from JUnit.
use Rattle.std.specs.Prelude.{ℕ, List, Option, Some, None, if◌then◌else◌}
use Rattle.std.specs.Str.{bytes_eq}
use Rattle.ext_lifecycle.specs.Endings.{successful, failed}
use Rattle.ext_model.specs.declared.look.Fault.TheVariants as faults
use Rattle.ext_lifecycle.specs.FaultTexts.{VerdictText, fault_text}
use Rattle.ext_plan.specs.declared.reason.Reason.{Reason}
use Rattle.ext_plan.specs.declared.seen.Seen.{Seen}
use Rattle.ext_plan.specs.declared.seen.Seen.TheVariants as seens
use Rattle.ext_plan.specs.StepTexts.{words, refused_text, missing_text, other_text, got_text, other_fault_text, met_fault_text}

-- What a look-up shows a step: the text of a value or of a kept fault, a kept fault that is a lack of memory, nothing,
-- or why it was refused.
pub data SeenText : Type 0 where
  seen_value : List ℕ → SeenText
  seen_fault : List ℕ → SeenText
  seen_no_memory : SeenText
  seen_nothing : SeenText
  seen_refused : Reason → SeenText

abbrev pub seen_view : Seen → SeenText
seen_view (seens.Value text) = seen_value text.now
seen_view (seens.Fault text) = seen_fault text.now
seen_view seens.NoMemory = seen_no_memory
seen_view seens.Nothing = seen_nothing
seen_view (seens.Refused why) = seen_refused why

abbrev pub refused : List ℕ → List ℕ → Reason → VerdictText
refused name label why = failed (refused_text name label (words why))

abbrev pub unless_refused : List ℕ → List ℕ → Option Reason → VerdictText
unless_refused name label None = successful
unless_refused name label (Some why) = refused name label why

-- The verdict of a step that met a lack of memory kept as a fault.
abbrev pub out_of_memory : VerdictText
out_of_memory = failed (fault_text faults.Memory)

-- The verdict of a step that wants a value with this text.
abbrev pub want_verdict : List ℕ → List ℕ → List ℕ → SeenText → VerdictText
want_verdict name label text (seen_value other) = if bytes_eq other text then successful
    else failed (other_text label text other)
want_verdict name label text (seen_fault other) = failed (other_fault_text label text other)
want_verdict name label text seen_no_memory = out_of_memory
want_verdict name label text seen_nothing = failed (missing_text label text)
want_verdict name label text (seen_refused why) = refused name label why

-- The verdict of a step that must find nothing.
abbrev pub none_verdict : List ℕ → List ℕ → SeenText → VerdictText
none_verdict name label (seen_value other) = failed (got_text name label other)
none_verdict name label (seen_fault other) = failed (met_fault_text name label other)
none_verdict name label seen_no_memory = out_of_memory
none_verdict name label seen_nothing = successful
none_verdict name label (seen_refused why) = refused name label why

-- The verdict of a step whose factory must fail with this text. Unless it finds something, it succeeds; a kept fault
-- with the same text will do, too.
abbrev pub fail_verdict : List ℕ → List ℕ → List ℕ → SeenText → VerdictText
fail_verdict name label text (seen_value other) = failed (got_text name label other)
fail_verdict name label text (seen_fault other) = if bytes_eq other text then successful
    else failed (met_fault_text name label other)
fail_verdict name label text seen_no_memory = out_of_memory
fail_verdict name label text seen_nothing = successful
fail_verdict name label text (seen_refused why) = refused name label why
