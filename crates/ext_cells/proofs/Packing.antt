-- A word has one state, one number and one version, and where an act is not refused there is a version left for it.
use Rattle.std.proofs.Common.{◌≡◌, ℕ, ◌+◌, ◌-◌, ◌^◌, ◌≤◌, ◌<◌, Bool, true, false, arith, refl, None}
use Rattle.std.specs.Prelude.{nat_lt}
use Rattle.std.proofs.lemmas.Bool.Decides.{nat_tests}
use Rattle.ext_model.specs.declared.event.Act.{Act}
use Rattle.ext_model.specs.declared.event.Act.TheVariants.{Keep, Put, Remove, Claim, Fill, Fail, Abandon, Seal}
use Rattle.ext_cells.specs.declared.cell_state.CellState.{CellState}
use Rattle.ext_cells.specs.declared.cell_state.CellState.TheVariants.{Empty, Computing, Present, Sealed, Failed}
use Rattle.ext_cells.specs.WordChanges.{exhausted_if, is_worn_by, refusal_in, Suits}

pub not_less : (a b : ℕ) → nat_lt a b ≡ false → b ≤ a
not_less a b e = grind (arith, nat_tests)

fresh : (b : Bool) → exhausted_if b ≡ None → b ≡ false
fresh true e = absurd (cc e)
fresh false e = refl

module _ (state : CellState) (version : ℕ) where
  -- in a state in which only the versions can refuse, or by the act's own condition, a version is left
  pub version_left : (act : Act ℕ) → refusal_in state version act ≡ None → Suits act state version → version + 1 < 2 ^ 40
  version_left (Keep number) free suits = absurd suits
  version_left (Put at number) free suits = let l = not_less (2 ^ 40 - 3) version (worn state free) in omega (arith, l)
    where
      worn : (s : CellState) → refusal_in s version (Put at number) ≡ None → is_worn_by (Put at number) version ≡ false
      worn Empty e = fresh _ e
      worn Computing e = absurd (cc e)
      worn Present e = fresh _ e
      worn Sealed e = absurd (cc e)
      worn Failed e = fresh _ e
  version_left (Remove at) free suits = let l = not_less (2 ^ 40 - 3) version (worn state free) in omega (arith, l)
    where
      worn : (s : CellState) → refusal_in s version (Remove at) ≡ None → is_worn_by (Remove at) version ≡ false
      worn Empty e = fresh _ e
      worn Computing e = absurd (cc e)
      worn Present e = fresh _ e
      worn Sealed e = absurd (cc e)
      worn Failed e = fresh _ e
  version_left (Claim at) free suits = let l = not_less (2 ^ 40 - 4) version (worn state free) in omega (arith, l)
    where
      worn : (s : CellState) → refusal_in s version (Claim at) ≡ None → is_worn_by (Claim at) version ≡ false
      worn Empty e = fresh _ e
      worn Computing e = absurd (cc e)
      worn Present e = fresh _ e
      worn Sealed e = absurd (cc e)
      worn Failed e = fresh _ e
  version_left (Fill at number) free suits = let l = suits.2 in omega (arith, l)
  version_left (Fail at number) free suits = let l = suits.2 in omega (arith, l)
  version_left (Abandon at) free suits = let l = suits.1 in omega (arith, l)
  version_left (Seal at) free suits = let l = suits.1 in omega (arith, l)
