-- The steps of a test or a callback are texts of words, with exactly one space between two. The first word is the
-- step's name. TEXT is a word, and so is KEY: a label of the plan, or otherwise the name of a key in the global
-- namespace:
--
--     none KEY      put KEY TEXT      want KEY TEXT       computefail KEY TEXT      fail TEXT
--     remove KEY    put! KEY TEXT     compute KEY TEXT    compute! KEY TEXT         abort TEXT
--
-- Two more words, `up N` with N from 1 to 15, may follow all but `fail` and `abort`: the step then acts on the N-th
-- ancestor of the context in which it runs. The number of words tells the steps apart, so a label or a text may be any
-- word, even `up`.
use Rattle.std.specs.Prelude.{ℕ, suc, ◌==◌, nat_le, nat_lt, codes, List, [], ◌∷◌, ◌++◌, length, position, Option, Some, None, option_map, option_and_then, Result, Ok, if◌then◌else◌}
use Rattle.std.specs.List.{slice_split, list_any}
use Rattle.std.specs.Str.{bytes_eq}
use Rattle.ext_plan.specs.declared.word.Word.{Word}
use Rattle.ext_plan.specs.declared.word.Word.TheVariants as words
use Rattle.ext_plan.specs.Plans.{StepKeyText, label, named, StepText, keyed, fail, abort}
use Rattle.ext_plan.specs.Steps.{height, step_limit}
use Rattle.ext_plan_reading.specs.declared.fault.PlanFault.{PlanFault}
use Rattle.ext_plan_reading.specs.declared.fault.PlanFault.TheVariants as faults
use Rattle.ext_plan_reading.specs.Faults.{some_or, check, ◌>>=◌}
use Rattle.ext_plan_reading.specs.KeyReading.{label_number}

-- The numbers 1 to 15 as they are written.
abbrev pub heights : List (List ℕ)
heights =
    codes "1" ∷ codes "2" ∷ codes "3" ∷ codes "4" ∷ codes "5" ∷ codes "6" ∷ codes "7" ∷ codes "8" ∷ codes "9"
    ∷ codes "10" ∷ codes "11" ∷ codes "12" ∷ codes "13" ∷ codes "14" ∷ codes "15" ∷ []

-- The N of two words `up N`.
abbrev pub height_of : List ℕ → List ℕ → Option ℕ
height_of word number = if bytes_eq word (codes "up")
    then option_map suc (position (λ height. bytes_eq height number) heights) else None

-- The key of a word: that of the label with this number, or the one with the word as its name.
abbrev pub key_or_named : List ℕ → Option ℕ → StepKeyText
key_or_named word (Some number) = label number
key_or_named word None = named word

-- The key that a word names.
abbrev pub key_of_word : List (List ℕ) → List ℕ → StepKeyText
key_of_word labels word = key_or_named word (label_number labels word)

-- The word of this name, if its steps have a key and no text.
abbrev pub key_word : List ℕ → Option Word
key_word name =
    if bytes_eq name (codes "none") then Some words.None
    else if bytes_eq name (codes "remove") then Some words.Remove
    else None

-- The word of this name, if its steps have a key and a text.
abbrev pub text_word : List ℕ → Option Word
text_word name =
    if bytes_eq name (codes "put") then Some words.Put
    else if bytes_eq name (codes "put!") then Some words.PutCloseable
    else if bytes_eq name (codes "want") then Some words.Want
    else if bytes_eq name (codes "compute") then Some words.Compute
    else if bytes_eq name (codes "compute!") then Some words.ComputeCloseable
    else if bytes_eq name (codes "computefail") then Some words.ComputeFail
    else None

-- The step of this first word, if there is one; `word` names its key.
abbrev pub worded_step : List (List ℕ) → Option Word → List ℕ → List ℕ → ℕ → Option StepText
worded_step labels first word text up = option_map (λ first. keyed first (key_of_word labels word) text up) first

-- A step of two words.
abbrev pub short_step : List (List ℕ) → List ℕ → List ℕ → Option StepText
short_step labels name word =
    if bytes_eq name (codes "fail") then Some (fail word)
    else if bytes_eq name (codes "abort") then Some (abort word)
    else worded_step labels (key_word name) word [] 0

-- A step of any number of words.
abbrev pub step_of_words : List (List ℕ) → List (List ℕ) → Option StepText
step_of_words labels (name ∷ word ∷ []) = short_step labels name word
step_of_words labels (name ∷ key ∷ text ∷ []) = worded_step labels (text_word name) key text 0
step_of_words labels (name ∷ key ∷ word ∷ number ∷ []) =
    option_and_then (worded_step labels (key_word name) key []) (height_of word number)
step_of_words labels (name ∷ key ∷ text ∷ word ∷ number ∷ []) =
    option_and_then (worded_step labels (text_word name) key text) (height_of word number)
step_of_words labels _ = None

-- The step that a text writes, with these labels. No word of it is empty.
unfoldable pub step_of : List (List ℕ) → List ℕ → Option StepText
step_of labels text =
    let words = slice_split (λ b. b == 32) text in
    if list_any (λ word. length word == 0) words then None else step_of_words labels words

-- The step of a text. It runs on paths of at least `depth` contexts, and may not go up past the root.
unfoldable pub step_at : List (List ℕ) → ℕ → ℕ → List ℕ → Result StepText PlanFault
step_at labels depth node text = do
  step ← some_or (faults.BadStep node) (step_of labels text)
  _ ← check (faults.BadStep node) (nat_lt (height step) depth)
  Ok step

-- These steps, followed by those that the texts write.
unfoldable pub steps_after : List (List ℕ) → ℕ → ℕ → List StepText → List (List ℕ) → Result (List StepText) PlanFault
steps_after labels depth node before [] = Ok before
steps_after labels depth node before (text ∷ more) = do
  step ← step_at labels depth node text
  steps_after labels depth node (before ++ step ∷ []) more

-- The steps that the texts of a test or a callback write, unless there are too many.
unfoldable pub steps_at : List (List ℕ) → ℕ → ℕ → List (List ℕ) → Result (List StepText) PlanFault
steps_at labels depth node texts = do
  _ ← check (faults.BadStep node) (nat_le (length texts) step_limit)
  steps_after labels depth node [] texts
