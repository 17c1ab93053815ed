-- What the opening of a store says of its limits, where it is refused and where it is not.
use Rattle.std.proofs.Common.{◌≡◌, ◌≤◌, ◌*◌, ℕ, refl, arith}
use Rattle.std.proofs.Math.Nat.{mul-le-mul}
use Rattle.std.specs.Prelude.{◌↔◌, Result, Ok, Err}
use Rattle.ext_model.specs.Sizes.{most_lanes, most_numbers}
use Rattle.ext_model.specs.declared.size.Size.{Size}
use Rattle.ext_model.specs.declared.size.Size.TheVariants.{Usual, Large}
use Rattle.ext_cells.specs.Lanes.{AreLimits}
use Rattle.ext_store.specs.declared.limits.StoreFault.{StoreFault}
use Rattle.ext_store.specs.declared.limits.StoreFault.TheVariants.{BadLimit, Memory}
use Rattle.ext_store.specs.Stores.{AreStoreLimits}
use Rattle.ext_store.specs.Opening.{IsNotOpened, places_for}

module _ {A : Type 0} (size : Size) (keys lanes tries numbers : ℕ) where
  abbrev BadOf : Result A StoreFault → Type 0
  BadOf r = (r ≡ Err BadLimit) ↔ (¬ AreStoreLimits size keys lanes tries numbers)

  pub refused_bad : (why : StoreFault) → IsNotOpened size keys lanes tries numbers why → BadOf (Err why)
  refused_bad BadLimit is = (λ _. is, λ _. refl)
  refused_bad Memory is = (λ e. absurd (cc e), λ not. absurd (not is))

  pub opened_bad : (parts : A) → AreStoreLimits size keys lanes tries numbers → BadOf (Ok parts)
  opened_bad parts within = (λ e. absurd (cc e), λ not. absurd (not within))

-- numbers and lanes of either size are of the large one
large_has_most : (size : Size) → most_numbers size ≤ 1048575
large_has_most Usual = omega arith
large_has_most Large = omega arith

large_has_most_lanes : (size : Size) → most_lanes size ≤ 32
large_has_most_lanes Usual = omega arith
large_has_most_lanes Large = omega arith

-- the cells of a store fit, whatever its limits
pub cells_fit : (size : Size) (contexts keys lanes tries numbers : ℕ) → contexts ≤ 65536 → AreStoreLimits size keys lanes tries numbers → AreLimits Large (contexts * places_for keys) lanes tries numbers
cells_fit size contexts keys lanes tries numbers few within =
    let most = within.keys_fit.1 in
    let all = mul-le-mul {n₁ = contexts} {m₁ = places_for keys} {n₂ = 65536} {m₂ = 1024} few (omega (arith, most)) in
    let counted = within.others_fit.numbers_fit in
    let largest = large_has_most size in
    let lane = within.others_fit.lanes_fit in
    let last = large_has_most_lanes size in
    record {
      cells_fit = omega (arith, all);
      lanes_fit = (lane.0, omega (arith, lane.1, last));
      tries_fit = within.others_fit.tries_fit;
      numbers_fit = (counted.0, omega (arith, counted.1, largest));
    }
