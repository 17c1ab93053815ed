-- The labels of a plan's keys: words by which steps name the keys.
use Rattle.std.specs.Prelude.{ℕ, ◌==◌, Bool, not, ◌&&◌, List, length, map}
use Rattle.std.specs.List.{list_any}
use Rattle.std.specs.Str.{bytes_eq}
use Rattle.ext_plan.specs.Plans.{KeyText}

abbrev pub labels_of : List KeyText → List (List ℕ)
labels_of keys = map (λ k. k.label) keys

-- The text is one of the labels.
abbrev pub is_label : List (List ℕ) → List ℕ → Bool
is_label labels text = list_any (bytes_eq text) labels

abbrev pub has_space : List ℕ → Bool
has_space text = list_any (λ b. b == 32) text

-- A text of at least one character, without a space.
abbrev pub is_word : List ℕ → Bool
is_word text = not (length text == 0) && not (has_space text)
