-- The texts of steps and closes that fail: a step's first word, the word by which it names its key, and why. Steps are
-- calls of `put`, `get`, `remove` and `getOrComputeIfAbsent` of JUnit's `ExtensionContext.Store`; the texts are not
-- from JUnit. Texts are lists of bytes.
use Rattle.std.specs.Prelude.{ℕ, codes, List, ◌++◌}
use Rattle.ext_plan.specs.declared.reason.Reason.{Reason}
use Rattle.ext_plan.specs.declared.reason.Reason.TheVariants as reasons

-- Why a call of the store was refused.
abbrev pub words : Reason → List ℕ
words reasons.Busy = codes "busy"
words reasons.Closed = codes "closed"
words reasons.Exhausted = codes "exhausted"
words reasons.NumbersFull = codes "numbers full"
words reasons.DirectoryFull = codes "directory full"
words reasons.Unplaced = codes "unplaced"
words reasons.NotShown = codes "not shown"

-- `NAME KEY: REASON`, for a step whose call of the store was refused. NAME is the step's first word.
unfoldable pub refused_text : List ℕ → List ℕ → List ℕ → List ℕ
refused_text name label why = name ++ codes " " ++ label ++ codes ": " ++ why

-- `want KEY TEXT: none`, for a `want` that found nothing.
unfoldable pub missing_text : List ℕ → List ℕ → List ℕ
missing_text label text = codes "want " ++ label ++ codes " " ++ text ++ codes ": none"

-- `want KEY TEXT: got OTHER`, for a `want` that found another value.
unfoldable pub other_text : List ℕ → List ℕ → List ℕ → List ℕ
other_text label text other = codes "want " ++ label ++ codes " " ++ text ++ codes ": got " ++ other

-- `NAME KEY: got OTHER`, for a `none` or `computefail` that found a value.
unfoldable pub got_text : List ℕ → List ℕ → List ℕ → List ℕ
got_text name label other = name ++ codes " " ++ label ++ codes ": got " ++ other

-- `want KEY TEXT: fault OTHER`, for a `want` that met a kept fault.
unfoldable pub other_fault_text : List ℕ → List ℕ → List ℕ → List ℕ
other_fault_text label text other = codes "want " ++ label ++ codes " " ++ text ++ codes ": fault " ++ other

-- `NAME KEY: fault OTHER`, for any other step that met a kept fault.
unfoldable pub met_fault_text : List ℕ → List ℕ → List ℕ → List ℕ
met_fault_text name label other = name ++ codes " " ++ label ++ codes ": fault " ++ other

-- `close TEXT`, for a value whose close failed.
unfoldable pub close_text : List ℕ → List ℕ
close_text text = codes "close " ++ text
