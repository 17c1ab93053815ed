-- What a step does with the store: its word, its key, its text, and how many contexts up it acts; which steps store a
-- value, and which draw a number.
use Rattle.std.specs.Prelude.{ℕ, Bool, true, false, List, Option, Some, None, if◌then◌else◌}
use Rattle.ext_plan.specs.declared.step_parts.KeyedStep.{KeyedStep}
use Rattle.ext_plan.specs.declared.word.Word.{Word}
use Rattle.ext_plan.specs.declared.word.Word.TheVariants as words
use Rattle.ext_plan.specs.Plans.{StepKeyText, StepText, step_key_view, keyed, fail, abort}
use Rattle.ext_plan.specs.StepWords.{gives_value}

pub record ActText : Type 0 where
  pub word : Word
  pub key : StepKeyText
  pub text : List ℕ
  pub up : ℕ

abbrev pub act_view : KeyedStep → ActText
act_view a = record { word = a.word; key = step_key_view a.key.now; text = a.text.now; up = a.up }

abbrev pub act_of : StepText → Option ActText
act_of (keyed word key text up) = Some (record { word = word; key = key; text = text; up = up })
act_of (fail text) = None
act_of (abort text) = None

-- A step with this word puts a value.
abbrev pub puts : Word → Bool
puts words.Put = true
puts words.PutCloseable = true
puts words.Want = false
puts words.None = false
puts words.Remove = false
puts words.Compute = false
puts words.ComputeCloseable = false
puts words.ComputeFail = false

-- It puts a value, if `put`, and else it computes one.
abbrev pub stores : Bool → Word → Bool
stores put word = if put then puts word else gives_value word

-- The word of a compute of what a step with this word stores.
abbrev pub as_compute : Word → Word
as_compute words.Put = words.Compute
as_compute words.PutCloseable = words.ComputeCloseable
as_compute words.Want = words.Want
as_compute words.None = words.None
as_compute words.Remove = words.Remove
as_compute words.Compute = words.Compute
as_compute words.ComputeCloseable = words.ComputeCloseable
as_compute words.ComputeFail = words.ComputeFail

-- A step with this word may draw a number: it puts, or its factory gives a value or a fault that is kept.
abbrev pub word_draws : Bool → Word → Bool
word_draws keep_faults words.Put = true
word_draws keep_faults words.PutCloseable = true
word_draws keep_faults words.Want = false
word_draws keep_faults words.None = false
word_draws keep_faults words.Remove = false
word_draws keep_faults words.Compute = true
word_draws keep_faults words.ComputeCloseable = true
word_draws keep_faults words.ComputeFail = keep_faults

abbrev pub draws : Bool → StepText → Bool
draws keep_faults (keyed word key text up) = word_draws keep_faults word
draws keep_faults (fail text) = false
draws keep_faults (abort text) = false
