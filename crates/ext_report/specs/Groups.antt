-- Items in groups by their numbers: each group has the items of its number, in their order.
use Rattle.std.specs.Prelude.{◌≡◌, ℕ, ◌<◌, ◌==◌, List, [], ◌∷◌, map, slice_index_or, if◌then◌else◌}
use Rattle.std.specs.Borrow.{Bor}
use Rattle.std.specs.Global.{Vec}

-- What references show.
abbrev pub shown : {X : Type 0} → List (Bor X) → List X
shown refs = map (λ ref. ref.now) refs

-- The items with this number.
abbrev pub numbered : {X : Type 0} → ℕ → List ℕ → List X → List X
numbered number [] items = []
numbered number (n ∷ numbers) [] = []
numbered number (n ∷ numbers) (x ∷ items) = if n == number then x ∷ numbered number numbers items
    else numbered number numbers items

-- The references in the group with this number.
abbrev pub group_at : {X : Type 0} → List (Vec (Bor X)) → ℕ → List (Bor X)
group_at groups number = slice_index_or (map (λ group. group.items) groups) number []

-- The first groups, so many, have the items of their numbers.
pub record AreGrouped {X : Type 0} (count : ℕ) (numbers : List ℕ) (items : List X) (groups : List (Vec (Bor X)))
    : Type 0 where
  pub each : (number : ℕ) → number < count → shown (group_at groups number) ≡ numbered number numbers items
