-- How often a lane was lent, one attempt after another.
use Rattle.std.proofs.Common.{◌≡◌, ℕ, suc, refl}
use Rattle.ext_table.specs.Lending.{IsLent, IsMovedOnce}

module _ {L : Type 0} (Moves : L → L → Type 0) where
  pub not_lent : (before : L) → IsLent Moves 0 before before
  unfolding IsLent
  not_lent before = refl

  pub lent_more : (n : ℕ) (before latest after : L) → IsLent Moves n before latest → IsMovedOnce Moves latest after → IsLent Moves (suc n) before after
  unfolding IsLent
  lent_more n before latest after earlier once = (latest, earlier, once)
