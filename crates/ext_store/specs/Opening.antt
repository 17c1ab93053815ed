-- What an opened store is made of, and why one is not opened. Public contracts cite only `fault_count`
-- and `places_for`.
use Rattle.std.specs.Prelude.{ℕ, ◌≡◌, ◌+◌, ◌*◌, ◌/◌, Bool, if◌then◌else◌, List, length, map}
use Rattle.ext_cells.specs.Lanes.{CellsView, fresh_lanes}
use Rattle.ext_model.specs.declared.size.Size.{Size}
use Rattle.ext_store.specs.declared.limits.StoreFault.{StoreFault}
use Rattle.ext_store.specs.declared.limits.StoreFault.TheVariants.{BadLimit, Memory}
use Rattle.ext_store.specs.Stores.{StoreLane, CloserView, AreStoreLimits, closers_below, fresh_store_lane}

-- How many slots there are for faults: one for each number if the store keeps faults, otherwise none.
abbrev pub fault_count : Bool → ℕ → ℕ
fault_count keeps numbers = if keeps then numbers else 0

-- How many places for keys there are: for so many keys, in whole blocks of 32.
abbrev pub places_for : ℕ → ℕ
places_for keys = (keys + 31) / 32 * 32

-- Cells, slots of values and of faults, lanes and closers of one store with these limits and `contexts` contexts.
pub record AreParts {V : Type 0} (contexts key_count lane_count exchanges number_count : ℕ) (keeps : Bool)
    (cells : CellsView) (names fault_names key_names : List ℕ) (store_lanes : List (StoreLane V))
    (store_closers : List CloserView) : Type 0 where
  pub limits : cells.id.limits
      ≡ record {
        cells = contexts * places_for key_count;
        lanes = lane_count;
        numbers = number_count;
        keep_faults = keeps;
      }
  pub tries : cells.tries ≡ exchanges
  pub slots : length names ≡ number_count
  pub fault_slots : length fault_names ≡ fault_count keeps number_count
  pub key_places : length key_names ≡ places_for key_count
  pub lanes : store_lanes ≡ map (fresh_store_lane names fault_names key_names) (fresh_lanes cells.id 0 lane_count)
  pub closers : store_closers ≡ closers_below cells.id contexts

-- The same, with the limits in their ranges.
pub record AreOpened {V : Type 0} (size : Size) (contexts keys lanes tries numbers : ℕ) (keeps : Bool)
    (cells : CellsView) (slots fault_names key_places : List ℕ) (store_lanes : List (StoreLane V))
    (closers : List CloserView) : Type 0 where
  pub within : AreStoreLimits size keys lanes tries numbers
  pub parts : AreParts contexts keys lanes tries numbers keeps cells slots fault_names key_places store_lanes closers

-- A limit is out of its range, or memory is refused.
abbrev pub IsNotOpened : Size → ℕ → ℕ → ℕ → ℕ → StoreFault → Type 0
IsNotOpened size keys lanes tries numbers BadLimit = ¬ AreStoreLimits size keys lanes tries numbers
IsNotOpened size keys lanes tries numbers Memory = AreStoreLimits size keys lanes tries numbers
