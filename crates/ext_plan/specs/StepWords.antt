-- The words of steps: which of them may change a place, and which look along a path of places.
use Rattle.std.specs.Prelude.{ℕ, Bool, true, false, List, codes}
use denote.Enum.Bare.{sameb}
use Rattle.ext_plan.specs.contracts.word.Word.{the_type}
use Rattle.ext_plan.specs.declared.word.Word.{Word}
use Rattle.ext_plan.specs.declared.word.Word.TheVariants as words

abbrev pub word_text : Word → List ℕ
word_text words.Put = codes "put"
word_text words.PutCloseable = codes "put!"
word_text words.Want = codes "want"
word_text words.None = codes "none"
word_text words.Remove = codes "remove"
word_text words.Compute = codes "compute"
word_text words.ComputeCloseable = codes "compute!"
word_text words.ComputeFail = codes "computefail"

-- A step with this word may change the place on which it acts.
abbrev pub changes : Word → Bool
changes words.Put = true
changes words.PutCloseable = true
changes words.Want = false
changes words.None = false
changes words.Remove = true
changes words.Compute = true
changes words.ComputeCloseable = true
changes words.ComputeFail = true

-- A step with this word looks at the place on which it acts, and at the places of its key in all contexts above.
abbrev pub looks_along : Word → Bool
looks_along words.Put = false
looks_along words.PutCloseable = false
looks_along words.Want = true
looks_along words.None = true
looks_along words.Remove = false
looks_along words.Compute = true
looks_along words.ComputeCloseable = true
looks_along words.ComputeFail = true

-- A step with this word has a factory.
abbrev pub computes : Word → Bool
computes words.Put = false
computes words.PutCloseable = false
computes words.Want = false
computes words.None = false
computes words.Remove = false
computes words.Compute = true
computes words.ComputeCloseable = true
computes words.ComputeFail = true

-- A step with this word has a factory that gives a value. If the step succeeds, a value stands on its path.
abbrev pub gives_value : Word → Bool
gives_value words.Put = false
gives_value words.PutCloseable = false
gives_value words.Want = false
gives_value words.None = false
gives_value words.Remove = false
gives_value words.Compute = true
gives_value words.ComputeCloseable = true
gives_value words.ComputeFail = false

-- A step with this word may leave a closeable value.
abbrev pub leaves_closeable : Word → Bool
leaves_closeable words.Put = false
leaves_closeable words.PutCloseable = true
leaves_closeable words.Want = false
leaves_closeable words.None = false
leaves_closeable words.Remove = false
leaves_closeable words.Compute = false
leaves_closeable words.ComputeCloseable = true
leaves_closeable words.ComputeFail = false

-- Whether a step with this word races depends on its text: its factory's, or its closeable value's.
abbrev pub has_text : Word → Bool
has_text words.Put = false
has_text words.PutCloseable = true
has_text words.Want = false
has_text words.None = false
has_text words.Remove = false
has_text words.Compute = true
has_text words.ComputeCloseable = true
has_text words.ComputeFail = true

-- What `==` of the code says of two words.
abbrev pub word_eq : Word → Word → Bool
word_eq = sameb the_type
