-- For each key, by its number, how much of a path is below all contexts in which steps computed the key.
use Rattle.std.specs.Prelude.{ℕ, ◌≡◌, ◌<◌, ◌≤◌, ◌&&◌, Bool, true, List, length, nat_lt, min, take, slice_index_or, slice_set, if◌then◌else◌}
use Rattle.std.specs.List.{list_any}
use Rattle.ext_tree.specs.Keys.{KeyValue}
use Rattle.ext_plan.specs.Plans.{KeyText, StepText}
use Rattle.ext_plan.specs.StoreKeys.{is_there, number_of_key}
use Rattle.ext_plan.specs.StepWords.{gives_value}
use Rattle.ext_races.specs.Acts.{ActText, act_of}
use Rattle.ext_races.specs.Touches.{below_computes, computes_key}

abbrev pub below_at : List ℕ → ℕ → ℕ
below_at below key = slice_index_or below key 0

-- The whole path of each key, and more, as paths have at most 16 contexts: no step computed it.
abbrev pub AreWhole : List ℕ → Type 0
AreWhole below = (key : ℕ) → key < length below → below_at below key ≡ 17

abbrev pub is_computed : List ℕ → ℕ → Bool
is_computed below key = nat_lt (below_at below key) 17

-- After an act on the key with this number.
abbrev pub noted : List ℕ → ℕ → ActText → List ℕ
noted below key act = if gives_value act.word && nat_lt (min act.up 16) (below_at below key)
    then slice_set below key (min act.up 16) else below

-- So it is after these steps. It is also noted whether one of them computes the key.
pub record Tells (declared : List KeyText) (directory : List KeyValue) (before : List StepText) (below : List ℕ)
    : Type 0 where
  pub count : length below ≡ length directory
  pub each : (key : KeyValue) (path : List ℕ) → is_there directory key ≡ true → length path ≤ 16
      → take (below_at below (number_of_key directory key)) path ≡ below_computes declared key path before
  pub own : (key : KeyValue) → is_there directory key ≡ true → is_computed below (number_of_key directory key)
      ≡ list_any (λ step. computes_key declared key (act_of step)) before
