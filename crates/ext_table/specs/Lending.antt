-- What the attempts of a test do to the lane that they are lent (an own rule): each may call the store by it.
use Rattle.std.specs.Prelude.{◌≡◌, ◌⊎◌, ℕ, zero, suc}

-- `Moves` says what one attempt may do to its lane.
module _ {L : Type 0} (Moves : L → L → Type 0) where
  -- An attempt leaves the lane as it was, or moves it so.
  abbrev pub IsMovedOnce : L → L → Type 0
  IsMovedOnce before after = (after ≡ before) ⊎ Moves before after

  -- So many attempts were lent the lane, one after another.
  unfoldable pub IsLent : ℕ → L → L → Type 0
  IsLent zero before after = after ≡ before
  IsLent (suc n) before after = (latest : L) × IsLent n before latest × IsMovedOnce latest after
