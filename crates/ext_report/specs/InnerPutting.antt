-- One item more in its group.
use Rattle.std.specs.Prelude.{◌≡◌, ℕ, ◌<◌, ◌==◌, List, [], ◌∷◌, ◌++◌, length, if◌then◌else◌}
use Rattle.std.specs.Borrow.{Bor}
use Rattle.std.specs.Global.{Vec}
use Rattle.ext_report.specs.Groups.{group_at, shown}

-- The item comes last in the group with its number, if there is one.
pub record IsPut {X : Type 0} (before after : List (Vec (Bor X))) (number : ℕ) (item : X) : Type 0 where
  pub count : length after ≡ length before
  pub each : (k : ℕ) → k < length before
      → shown (group_at after k) ≡ shown (group_at before k) ++ (if number == k then item ∷ [] else [])

-- No group has an item.
abbrev pub AreEmpty : {X : Type 0} → List (Vec (Bor X)) → Type 0
AreEmpty groups = (k : ℕ) → group_at groups k ≡ []
