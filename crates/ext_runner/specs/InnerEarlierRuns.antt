-- Which tests failed in an earlier run, or which containers, by its report: each line is an object in JSON (`JsonLines` of
-- ext_report). An own rule.
use Rattle.std.specs.Prelude.{ℕ, ◌&&◌, codes, Bool, false, List, [], ◌∷◌, Option, Some, None, option_and_then, if◌then◌else◌}
use Rattle.std.specs.List.{flat_map}
use Rattle.std.specs.Bool.{beq}
use Rattle.std.specs.Str.{bytes_eq}
use Rattle.serde_json.specs.Data.{Data}
use Rattle.serde_json.specs.Find.{as_bool, as_str, get}
use Rattle.serde_json.specs.Read.{read}

-- The text of this key.
abbrev pub text_at : List ℕ → Data → Option (List ℕ)
text_at key value = option_and_then as_str (get key value)

-- Whether a node is a test, or else a container, and failed.
abbrev pub is_failed : Bool → Option Bool → Option (List ℕ) → Bool
is_failed are_tests None status = false
is_failed are_tests (Some is_test) None = false
is_failed are_tests (Some is_test) (Some status) = beq is_test are_tests && bytes_eq status (codes "failed")

-- The id of the node of this object, if it is such a one and failed.
abbrev pub failed_id : Bool → Data → Option (List ℕ)
failed_id are_tests value =
    if is_failed are_tests (option_and_then as_bool (get (codes "test") value)) (text_at (codes "status") value)
    then text_at (codes "id") value else None

abbrev pub one_or_none : Option (List ℕ) → List (List ℕ)
one_or_none None = []
one_or_none (Some id) = id ∷ []

abbrev pub failed_in : Bool → Option Data → List (List ℕ)
failed_in are_tests None = []
failed_in are_tests (Some value) = one_or_none (failed_id are_tests value)

-- The ids of the tests that failed, or else those of the containers, in the order of the lines.
abbrev pub failed_ids : Bool → List (List ℕ) → List (List ℕ)
failed_ids are_tests lines = flat_map (λ line. failed_in are_tests (read line)) lines
