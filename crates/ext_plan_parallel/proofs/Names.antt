-- The names of a plan's locks, which can be opened: they are few and different.
use Rattle.std.proofs.Common.{◌≡◌, ◌≢◌, ℕ, List, get_or, arith, ◌∙◌}
use Rattle.std.specs.Prelude.{AllPairs}
use Rattle.std.proofs.lemmas.Option.{slice_get-get_or}
use Rattle.ext_locks.specs.Names.{IsFirstTwice}
use Rattle.ext_tree.proofs.Numbers.{one_place}

-- no name stands twice among different names
pub not_twice : (names : List (List ℕ)) (at : ℕ) (d : List ℕ) → AllPairs (λ a b. a ≢ b) names → IsFirstTwice names at → ⊥
not_twice names at d different twice =
    let there = slice_get-get_or names at d twice.within in
    let same : twice.earlier ≡ at = one_place names different (get_or names at d) twice.earlier at (twice.same ∙ there) there in
    let before = twice.before in
    absurd (omega (arith, same, before))
