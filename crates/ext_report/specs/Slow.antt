-- The tests that took longest, most first: of the tests whose time is known (`Extras`) a line each,
--
--     took 1.234 s ID
--
-- ID is the test's id as it is written. Of tests that took as long the first in the list of results comes first. A line
-- ends with one line feed. It is not from JUnit.
use Rattle.std.specs.Prelude.{◌≡◌, ℕ, Bool, nat_lt, codes, List, [], ◌∷◌, ◌++◌, Option, Some, None, IsPermutation, take, if◌then◌else◌}
use Rattle.std.specs.List.{flat_map}
use Rattle.std.specs.List.Sorted.{IsSortedBy, IsStableBy}
use Rattle.ext_ids.specs.Grammar.{id_text}
use Rattle.ext_tree.specs.Trees.{Id, id_at}
use Rattle.ext_lifecycle.specs.FaultTexts.{NodeOutcome}
use Rattle.ext_report.specs.declared.extra.Extra.{Extra}
use Rattle.ext_report.specs.declared.slow.Timed.{Timed}
use Rattle.ext_report.specs.Extras.{extra_of, seconds}

-- The test of a node that took so long, if that is known.
abbrev pub timed_at : ℕ → Option ℕ → List Timed
timed_at node None = []
timed_at node (Some millis) = record { node = node; millis = millis } ∷ []

abbrev pub timed_test : List Extra → NodeOutcome → List Timed
timed_test extras r = if r.is_test then timed_at r.node (extra_of extras r.node).millis else []

-- The tests whose time is known, in the order of the list.
abbrev pub timed_tests : List Extra → List NodeOutcome → List Timed
timed_tests extras rs = flat_map (timed_test extras) rs

-- The first took longer than the second.
abbrev pub took_longer : Timed → Timed → Bool
took_longer first second = nat_lt second.millis first.millis

-- The same tests, and none comes after one that it took longer than. Those that took as long keep their order.
pub record AreSlowestFirst (timed slow : List Timed) : Type 0 where
  pub same : IsPermutation timed slow
  pub sorted : IsSortedBy took_longer slow
  pub stable : IsStableBy took_longer timed slow

abbrev pub slow_line : List Id → Timed → List ℕ
slow_line ids timed = codes "took " ++ seconds timed.millis ++ codes " s " ++ id_text (id_at ids timed.node) ++ codes "\n"

-- The text has the lines of the first of them, so many at most.
abbrev pub AreTold : ℕ → List Id → List Timed → List ℕ → Type 0
AreTold most ids timed text =
    (slow : List Timed) × AreSlowestFirst timed slow × (text ≡ flat_map (slow_line ids) (take most slow))
