-- What holds of the steps of a test that was read.
use Rattle.std.proofs.Common.{◌≡◌, ℕ, ◌+◌, ◌<◌, ◌≤◌, Bool, true, false, List, [], ◌∷◌, ◌++◌, length, Option, Some, None, option_and_then, Ok, All, refl, ap, subst, arith, length-append}
use Rattle.std.specs.Prelude.{if◌then◌else◌, ◌==◌, nat_le, nat_lt, IfSome, codes}
use Rattle.std.specs.List.{slice_split, list_any}
use Rattle.std.specs.Str.{bytes_eq}
use Rattle.std.proofs.lemmas.Bool.{leb-true, ltb-true}
use Rattle.std.proofs.lemmas.List.Elements.{All-push, All-nil}
use Rattle.std.proofs.lemmas.List.Quantifiers.{position-Some}
use Rattle.ext_plan.specs.declared.word.Word.{Word}
use Rattle.ext_plan.specs.Plans.{StepText, fail, abort}
use Rattle.ext_plan.specs.ReadPlans.{IsLabelBelow, NamesLabelBelow, StayOnPath}
use Rattle.ext_plan.specs.Steps.{height, step_limit}
use Rattle.ext_plan_reading.specs.declared.fault.PlanFault.TheVariants as faults
use Rattle.ext_plan_reading.specs.Faults.{some_or, check}
use Rattle.ext_plan_reading.specs.KeyReading.{label_number}
use Rattle.ext_plan_reading.specs.StepReading.{height_of, key_or_named, key_word, text_word, worded_step, step_of_words, step_of, step_at, steps_after, steps_at}
use Rattle.ext_plan_reading.proofs.Gave.{ok_value, both_gave, was_some, passed}

-- ---- the key that a step names

-- a label's number is below the number of labels
key_below : (labels : List (List ℕ)) (word : List ℕ) (found : Option ℕ) → label_number labels word ≡ found → IsLabelBelow (length labels) (key_or_named word found)
key_below labels word None e = tt
key_below labels word (Some number) e = (position-Some (bytes_eq word) labels number [] e).0

-- a label that the step names, if it is a step, is one of so many
abbrev Below : ℕ → Option StepText → Type 0
Below count step = IfSome step (NamesLabelBelow count)

worded_below : (labels : List (List ℕ)) (first : Option Word) (word text : List ℕ) (up : ℕ) → Below (length labels) (worded_step labels first word text up)
worded_below labels None word text up = tt
worded_below labels (Some first) word text up = key_below labels word _ refl

short_below : (labels : List (List ℕ)) (a b : Bool) (first : Option Word) (word : List ℕ) → Below (length labels) (if a then Some (fail word) else if b then Some (abort word) else worded_step labels first word [] 0)
short_below labels true b first word = tt
short_below labels false true first word = tt
short_below labels false false first word = worded_below labels first word [] 0

up_below : (labels : List (List ℕ)) (first : Option Word) (word text : List ℕ) (up : Option ℕ) → Below (length labels) (option_and_then (worded_step labels first word text) up)
up_below labels first word text None = tt
up_below labels first word text (Some n) = worded_below labels first word text n

words_below : (labels words : List (List ℕ)) → Below (length labels) (step_of_words labels words)
words_below labels [] = tt
words_below labels (name ∷ []) = tt
words_below labels (name ∷ word ∷ []) = short_below labels (bytes_eq name (codes "fail")) (bytes_eq name (codes "abort")) (key_word name) word
words_below labels (name ∷ key ∷ text ∷ []) = worded_below labels (text_word name) key text 0
words_below labels (name ∷ key ∷ word ∷ number ∷ []) = up_below labels (key_word name) key [] (height_of word number)
words_below labels (name ∷ key ∷ text ∷ word ∷ number ∷ []) = up_below labels (text_word name) key text (height_of word number)
words_below labels (a ∷ b ∷ c ∷ d ∷ e ∷ f ∷ more) = tt

full_below : (labels : List (List ℕ)) (empty : Bool) (words : List (List ℕ)) → Below (length labels) (if empty then None else step_of_words labels words)
full_below labels true words = tt
full_below labels false words = words_below labels words

text_below : (labels : List (List ℕ)) (text : List ℕ) → Below (length labels) (step_of labels text)
unfolding step_of
text_below labels text =
    let words = slice_split (λ b. b == 32) text in
    full_below labels (list_any (λ word. length word == 0) words) words

-- ---- steps

-- a step that names one of so many labels, and stays on a path of so many contexts
record IsFitting (labels depth : ℕ) (step : StepText) : Type 0 where
  pub names : NamesLabelBelow labels step
  pub stays : height step < depth

step_fits : (labels : List (List ℕ)) (depth node : ℕ) (text : List ℕ) (step : StepText) → step_at labels depth node text ≡ Ok step → IsFitting (length labels) depth step
unfolding step_at
step_fits labels depth node text step h =
    let read = both_gave (some_or (faults.BadStep node) (step_of labels text)) _ _ h in
    let low = both_gave (check (faults.BadStep node) (nat_lt (height read.0) depth)) _ _ read.2 in
    let names = subst (Below (length labels)) (was_some _ _ _ read.1) (text_below labels text) in
    let stays = ltb-true _ _ (passed _ (nat_lt (height read.0) depth) low.0 low.1) in
    rw (← ok_value read.0 step _ refl low.2) (record { names = names; stays = stays })

steps_fit : (labels : List (List ℕ)) (depth node : ℕ) (before : List StepText) (texts : List (List ℕ)) (steps : List StepText)
    → All (IsFitting (length labels) depth) before → steps_after labels depth node before texts ≡ Ok steps → All (IsFitting (length labels) depth) steps
unfolding steps_after
steps_fit labels depth node before [] steps all h = rw (← ok_value before steps _ refl h) all
steps_fit labels depth node before (text ∷ more) steps all h =
    let step = both_gave (step_at labels depth node text) _ _ h in
    let fits = step_fits labels depth node text step.0 step.1 in
    steps_fit labels depth node (before ++ step.0 ∷ []) more steps (All-push (IsFitting (length labels) depth) before step.0 all fits) step.2

steps_counted : (labels : List (List ℕ)) (depth node : ℕ) (before : List StepText) (texts : List (List ℕ)) (steps : List StepText)
    → steps_after labels depth node before texts ≡ Ok steps → length steps ≡ length before + length texts
unfolding steps_after
steps_counted labels depth node before [] steps h = let same = ap length (ok_value before steps _ refl h) in omega (arith, same)
steps_counted labels depth node before (text ∷ more) steps h =
    let step = both_gave (step_at labels depth node text) _ _ h in
    let rest = steps_counted labels depth node (before ++ step.0 ∷ []) more steps step.2 in
    omega (arith, rest, length-append before (step.0 ∷ []))

-- steps that name labels and stay on a path, and of which there are not too many
pub record AreFitting (labels depth : ℕ) (steps : List StepText) : Type 0 where
  pub names : All (NamesLabelBelow labels) steps
  pub stays : StayOnPath depth steps
  pub short : length steps ≤ step_limit

-- the steps of a test or a callback
pub steps_read : (labels : List (List ℕ)) (depth node : ℕ) (texts : List (List ℕ)) (steps : List StepText) → steps_at labels depth node texts ≡ Ok steps
    → AreFitting (length labels) depth steps
unfolding steps_at
steps_read labels depth node texts steps h =
    let few = both_gave (check (faults.BadStep node) (nat_le (length texts) step_limit)) _ _ h in
    let count = steps_counted labels depth node [] texts steps few.2 in
    let fit = steps_fit labels depth node [] texts steps (All-nil (IsFitting (length labels) depth)) few.2 in
    record {
      names = λ k d less. (fit k d less).names;
      stays = λ k d less. (fit k d less).stays;
      short = omega (arith, count, leb-true _ _ (passed _ (nat_le (length texts) step_limit) few.0 few.1));
    }
