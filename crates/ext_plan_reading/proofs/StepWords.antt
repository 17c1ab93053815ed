-- What the first six words of a text tell: whether it is a step or a lock. No step are too few words, too many, an empty one, or a number that is no height.
use Rattle.std.proofs.Common.{◌≡◌, ◌<◌, ◌≤◌, ℕ, suc, Bool, true, false, List, [], ◌∷◌, length, map, take, Option, option_map, position, None, refl, sym, ap, ◌∙◌, arith, Bor}
use Rattle.std.specs.Prelude.{if◌then◌else◌, ◌==◌, codes}
use Rattle.std.specs.List.{list_any, slice_split}
use Rattle.std.specs.Str.{bytes_eq}
use Rattle.ext_plan.specs.Plans.{StepText}
use Rattle.ext_plan_reading.specs.LockReading.{lock_of, lock_of_words}
use Rattle.ext_plan_reading.specs.StepReading.{heights, height_of, step_of_words, step_of}
use Rattle.ext_plan_reading.specs.declared.steps.TheConstants.{HEIGHTS}
use Rattle.ext_plan_reading.proofs.Lists.{list_any-map, position-map}

pub too_few : {A : Type 0} (labels : List (List ℕ)) (f : A → List ℕ) (words : List A) → length words < 2 → step_of_words labels (map f words) ≡ None
too_few labels f [] h = refl
too_few labels f (a ∷ []) h = refl
too_few labels f (a ∷ b ∷ more) h = absurd (omega (arith, h))

pub too_many : {A : Type 0} (labels : List (List ℕ)) (f : A → List ℕ) (words : List A) → 6 ≤ length words → step_of_words labels (map f words) ≡ None
too_many labels f [] h = absurd (omega (arith, h))
too_many labels f (a ∷ []) h = absurd (omega (arith, h))
too_many labels f (a ∷ b ∷ []) h = absurd (omega (arith, h))
too_many labels f (a ∷ b ∷ c ∷ []) h = absurd (omega (arith, h))
too_many labels f (a ∷ b ∷ c ∷ d ∷ []) h = absurd (omega (arith, h))
too_many labels f (a ∷ b ∷ c ∷ d ∷ e ∷ []) h = absurd (omega (arith, h))
too_many labels f (a ∷ b ∷ c ∷ d ∷ e ∷ g ∷ more) h = refl

-- ---- heights

height_at : (is : Bool) (index : Option ℕ) → index ≡ None → (if is then option_map suc index else None) ≡ None
height_at true index e = ap (option_map suc) e
height_at false index e = refl

same_heights : (number : List ℕ) → position (λ height. bytes_eq height number) heights ≡ position (λ height. bytes_eq height.now number) HEIGHTS
same_heights number = position-map (λ height. height.now) (λ height. bytes_eq height number) HEIGHTS

-- another number is no height
pub no_height : (word number : List ℕ) → None ≡ position (λ height. bytes_eq height.now number) HEIGHTS → None ≡ height_of word number
no_height word number e = sym (height_at (bytes_eq word (codes "up")) _ (same_heights number ∙ sym e))

-- ---- whole texts

empty_at : (words : List (List ℕ)) (labels : List (List ℕ)) (b : Bool) → list_any (λ word. length word == 0) words ≡ b → (if list_any (λ word. length word == 0) words then None else step_of_words labels words) ≡ (if b then None else step_of_words labels words)
empty_at words labels b e = ap (λ empty. if empty then None else step_of_words labels words) e

any_empty : (words : List (Bor (List ℕ))) (b : Bool) → b ≡ list_any (λ word. length word.now == 0) words → list_any (λ word. length word == 0) (map (λ w. w.now) words) ≡ b
any_empty words b e = list_any-map (λ w. w.now) (λ word. length word == 0) words ∙ sym e

same_either : {A : Type 0} (b : Bool) (x : A) → (if b then x else x) ≡ x
same_either true x = refl
same_either false x = refl

-- the first six words tell whether there is a step, since none has so many
first_six : (labels : List (List ℕ)) (words : List (List ℕ))
    → (if list_any (λ word. length word == 0) (take 6 words) then None else step_of_words labels (take 6 words)) ≡ (if list_any (λ word. length word == 0) words then None else step_of_words labels words)
first_six labels [] = refl
first_six labels (a ∷ []) = refl
first_six labels (a ∷ b ∷ []) = refl
first_six labels (a ∷ b ∷ c ∷ []) = refl
first_six labels (a ∷ b ∷ c ∷ d ∷ []) = refl
first_six labels (a ∷ b ∷ c ∷ d ∷ e ∷ []) = refl
first_six labels (a ∷ b ∷ c ∷ d ∷ e ∷ g ∷ more) =
    same_either {A = Option StepText} (list_any (λ word. length word == 0) (a ∷ b ∷ c ∷ d ∷ e ∷ g ∷ [])) None ∙ sym (same_either {A = Option StepText} (list_any (λ word. length word == 0) (a ∷ b ∷ c ∷ d ∷ e ∷ g ∷ more)) None)

-- a text with an empty word is no step
pub no_step : (labels : List (List ℕ)) (text : List ℕ) (words : List (Bor (List ℕ))) → map (λ w. w.now) words ≡ take 6 (slice_split (λ b. b == 32) text)
    → true ≡ list_any (λ word. length word.now == 0) words → step_of labels text ≡ None
unfolding step_of
no_step labels text words split e = sym (first_six labels (slice_split (λ b. b == 32) text)) ∙ rw (← split) (empty_at (map (λ w. w.now) words) labels true (any_empty words true e))

-- any other is the step that its words are, if they are one
pub step_of-words : (labels : List (List ℕ)) (text : List ℕ) (words : List (Bor (List ℕ))) → map (λ w. w.now) words ≡ take 6 (slice_split (λ b. b == 32) text)
    → false ≡ list_any (λ word. length word.now == 0) words → step_of labels text ≡ step_of_words labels (map (λ w. w.now) words)
unfolding step_of
step_of-words labels text words split e = sym (first_six labels (slice_split (λ b. b == 32) text)) ∙ rw (← split) (empty_at (map (λ w. w.now) words) labels false (any_empty words false e))

-- ---- locks

lock_six : (words : List (List ℕ)) → lock_of_words (take 6 words) ≡ lock_of_words words
lock_six [] = refl
lock_six (a ∷ []) = refl
lock_six (a ∷ b ∷ []) = refl
lock_six (a ∷ b ∷ c ∷ more) = refl

-- a text is the lock that its first words are, if they are one
pub lock_of-words : (text : List ℕ) (words : List (List ℕ)) → words ≡ take 6 (slice_split (λ b. b == 32) text) → lock_of text ≡ lock_of_words words
unfolding lock_of
lock_of-words text words split = sym (lock_six (slice_split (λ b. b == 32) text)) ∙ ap lock_of_words (sym split)
