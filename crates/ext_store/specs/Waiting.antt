-- What waiting forms promise beyond their plain forms: what they never answer, and what `compute_wait` may do before it
-- answers. JUnit waits for a running factory, too. That a compute claims its cell and gives the claim up before it
-- waits is not from JUnit.
use Rattle.std.specs.Prelude.{ℕ, List}
use Rattle.ext_cells.specs.Lanes.{Lane}
use Rattle.ext_store.specs.declared.fault.KeepFault.{KeepFault}
use Rattle.ext_store.specs.declared.fault.KeepFault.TheVariants as fault
use Rattle.ext_store.specs.declared.computed.Compute.{Compute}
use Rattle.ext_store.specs.declared.computed.Compute.TheVariants.{Computed, Found, Failed, FaultKept, FaultUnkept, FaultStands, Unkept, Refused}
use Rattle.ext_store.specs.Stores.{StoreView}
use Rattle.ext_store.specs.Computing.{ClaimsAlong, ClaimsMissing, Computes, ComputesAlong}
pub use Rattle.ext_store_core.specs.Waiting.{IsDecidedLook, IsDecided, IsDecidedUnused, Waits}

-- ---- what a waiting form never answers

-- The reason why the value is not kept is not that other lanes were in the way.
abbrev pub IsDecidedFault : KeepFault → Type 0
IsDecidedFault fault.Memory = Unit {0}
IsDecidedFault fault.NumbersFull = Unit {0}
IsDecidedFault fault.Contended = ⊥
IsDecidedFault fault.Unplaced = Unit {0}

abbrev pub IsDecidedCompute : {V F : Type 0} → Compute V F → Type 0
IsDecidedCompute (Computed number) = Unit {0}
IsDecidedCompute (Found at number unused) = Unit {0}
IsDecidedCompute (Failed why) = Unit {0}
IsDecidedCompute (FaultKept number) = Unit {0}
IsDecidedCompute (FaultUnkept why cause) = IsDecidedFault cause
IsDecidedCompute (FaultStands at number unused) = Unit {0}
IsDecidedCompute (Unkept value cause) = IsDecidedFault cause
IsDecidedCompute (Refused why unused) = IsDecided why

-- Before its last attempt the lane may have claimed the context's cell and given it up several times, each time for a
-- running factory or because other lanes were in the way. The last attempt is a compute, with its events and points.
unfoldable pub ComputesAfterWaits : {V : Type 0} → StoreView → ℕ → ℕ → Lane → Lane → Compute V (Unit {0}) → Type 0
ComputesAfterWaits store context key before after result =
    Waits (ClaimsMissing store context key) before.view
    (λ between. Computes store context key (record { cells = before.cells; view = between }) after result)

-- The same along a path.
unfoldable pub ComputesAlongAfterWaits : {V : Type 0} → StoreView → List ℕ → ℕ → Lane → Lane → Compute V (Unit {0})
    → Type 0
ComputesAlongAfterWaits store path key before after result =
    Waits (ClaimsAlong store path key) before.view
    (λ between. ComputesAlong store path key (record { cells = before.cells; view = between }) after result)
