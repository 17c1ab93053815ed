-- What `compute` promises of its result. As in JUnit, a value is computed only if the context and its ancestors have
-- none, and is stored in the context (Javadoc `ExtensionContext.Store`, `getOrComputeIfAbsent`). Not from JUnit: the
-- lane first claims the context's cell and looks along the ancestors again, and a compute may be refused. `Claiming` of
-- ext_store_core has the words for that.
-- `before` and `after` are the lane before and after the call. `first` are the call's events before the part in
-- question. `Computes` and `Uses` speak of a result without its factory, so that they can be cited where the factory's
-- type is not known.
use Rattle.std.specs.Prelude.{ℕ, ◌≡◌, ◌+◌, ◌≤◌, Option, IsFalse, IsTrue, List, [], ◌∷◌, ◌++◌, Some, Result, Ok, Err}
use Rattle.ext_model.specs.declared.event.Act.{Act}
use Rattle.ext_model.specs.declared.event.Act.TheVariants.{Keep, Claim, Fill, Fail, Abandon}
use Rattle.ext_model.specs.declared.look.Look.TheVariants as look
use Rattle.ext_model.specs.declared.look.Fault.{Fault}
use Rattle.ext_model.specs.Events as events
use Rattle.ext_history.specs.Histories.{IsPoint, first_front, seen_by}
use Rattle.ext_model.specs.History.{History, Limits, reply_after, state_after}
use Rattle.ext_model.specs.CallActs.{LaneView, IsPointAfter, Calls, IsCrowded}
use Rattle.ext_tree.specs.Trees.{IsPathOf}
use Rattle.ext_values.specs.Known.{Learns}
use Rattle.ext_cells.specs.Lanes.{Lane}
use Rattle.ext_store_core.specs.declared.claim.Unused.{Unused}
use Rattle.ext_store_core.specs.declared.claim.Unused.TheVariants as unused
use Rattle.ext_store.specs.declared.fault.KeepFault.{KeepFault}
use Rattle.ext_store.specs.declared.fault.KeepFault.TheVariants as fault
use Rattle.ext_store.specs.declared.computed.Compute.{Compute}
use Rattle.ext_store.specs.declared.computed.Compute.TheVariants.{Computed, Found, Failed, FaultKept, FaultUnkept, FaultStands, Unkept, Refused}
use Rattle.ext_store.specs.Stores.{StoreView, StoreLane, cell_in, context_cells}
use Rattle.ext_store.specs.LaneCalls.{KnowsUnkept}
use Rattle.ext_model.specs.declared.look.Look.{Look}
use Rattle.ext_store_core.specs.declared.fault.Refusal.{Refusal}
use Rattle.ext_store_core.specs.Claiming as claiming
pub use Rattle.ext_store_core.specs.Claiming.{HappensAfter, LooksFirst}

-- ---- the claim of a missing value, in the words of ext_store_core

-- The look-up from the context is absent at a point of the call; after that the lane claims the context's cell; then,
-- before its next event, the look-up along the ancestors gives this.
abbrev pub ClaimsAndLooks : Limits → StoreView → ℕ → List ℕ → ℕ → LaneView → LaneView → Look → Type 0
ClaimsAndLooks limits store context ancestors key before after look =
    claiming.ClaimsAndLooks limits (context_cells store) context ancestors key before after look

-- The events of a claim that is given up.
abbrev pub given_up_events : StoreView → ℕ → ℕ → List (Act ℕ)
given_up_events store context key = claiming.given_up_events (context_cells store) context key

-- The look-up from the context meets this at a point of a call without events. Or the look-up from the parent meets it
-- while the lane's claim stands, and the lane gives the claim up.
abbrev pub Meets : Limits → StoreView → ℕ → List ℕ → ℕ → LaneView → LaneView → Look → Type 0
Meets limits store context ancestors key before after met =
    claiming.Meets limits (context_cells store) context ancestors key before after met

-- What each refusal means.
abbrev pub IsRefused : Limits → StoreView → ℕ → List ℕ → ℕ → LaneView → LaneView → Refusal → Type 0
IsRefused limits store context ancestors key before after why =
    claiming.IsRefused limits (context_cells store) context ancestors key before after why

-- The lane holds a claim under which nothing stands on the context's path, or this is why it does not.
abbrev pub ClaimsMissing : StoreView → ℕ → ℕ → LaneView → LaneView → Result ℕ Unused → Type 0
ClaimsMissing store context key before after result =
    claiming.ClaimsMissing (context_cells store) context key before after result

-- The same along a path: the context that it begins with, and its ancestors.
abbrev pub ClaimsAlong : StoreView → List ℕ → ℕ → LaneView → LaneView → Result ℕ Unused → Type 0
ClaimsAlong store path key before after result =
    claiming.ClaimsAlong (context_cells store) path key before after result

-- ---- after the factory gave a value

-- The lane draws the number and stores it in the claimed cell.
pub record Fills (limits : Limits) (first : List (Act ℕ)) (cell : ℕ) (before after : LaneView) (number : ℕ)
    : Type 0 where
  pub calls : Calls limits before after (first ++ Keep number ∷ Fill cell number ∷ [])
  pub drawn : HappensAfter limits first before after (Keep number) (Some number)

-- The lane draws no number and gives its claim up.
abbrev pub GivesUp : Limits → List (Act ℕ) → ℕ → LaneView → LaneView → Type 0
GivesUp limits first cell before after = Calls limits before after (first ++ Abandon cell ∷ [])

-- Other lanes were in the way of drawing a number: they drew at least `tries` after the call's first front, and at a
-- point of the call one was left.
pub record IsOutdrawn (limits : Limits) (tries : ℕ) (before after : LaneView) : Type 0 where
  pub drawn : (state_after (first_front before after)).drawn + tries ≤ (state_after (seen_by after)).drawn
  pub left : (p : History) × IsPoint before after p
      × ((answer : Option ℕ) × (reply_after limits p before.number (Keep 0) ≡ events.Happens answer))

-- Why the value is not kept. If its slot did not take it, a number was drawn for it.
unfoldable pub IsUnkept : Limits → ℕ → List (Act ℕ) → ℕ → LaneView → LaneView → KeepFault → Type 0
IsUnkept limits tries first cell before after fault.Memory = GivesUp limits first cell before after
IsUnkept limits tries first cell before after fault.NumbersFull =
    GivesUp limits first cell before after
    × ((p : History) × IsPointAfter before after first p
    × (reply_after limits p before.number (Keep 0) ≡ events.Refuses events.NumbersFull))
IsUnkept limits tries first cell before after fault.Contended = GivesUp limits first cell before after
    × IsCrowded tries before after × IsOutdrawn limits tries before after
IsUnkept limits tries first cell before after fault.Unplaced =
    (number : ℕ) × Calls limits before after (first ++ Keep number ∷ Abandon cell ∷ [])
    × HappensAfter limits first before after (Keep number) (Some number)

-- ---- after the factory failed, in a store that keeps faults

-- The lane draws a number for the fault and keeps it in the claimed cell.
pub record Fails (limits : Limits) (first : List (Act ℕ)) (cell : ℕ) (before after : LaneView) (number : ℕ)
    : Type 0 where
  pub calls : Calls limits before after (first ++ Keep number ∷ Fail cell number ∷ [])
  pub drawn : HappensAfter limits first before after (Keep number) (Some number)

-- How the claim ends after its factory failed with this fault. A store that keeps no faults gives the claim up. A store
-- that keeps them keeps this one under a number, or hands it back and says why not.
abbrev pub EndsFailed : {V : Type 0} → StoreView → Fault → ℕ → StoreLane V → StoreLane V → Compute V (Unit {0}) → Type 0
EndsFailed store why cell before after (Failed said) =
    IsFalse store.id.cells.limits.keep_faults × (said ≡ why) × (after.known ≡ before.known)
    × (after.faults ≡ before.faults)
    × GivesUp store.id.cells.limits [] cell before.cells.view after.cells.view
EndsFailed store why cell before after (FaultKept number) =
    IsTrue store.id.cells.limits.keep_faults × (after.known ≡ before.known)
    × Learns before.faults after.faults number why
    × Fails store.id.cells.limits [] cell before.cells.view after.cells.view number
EndsFailed store why cell before after (FaultUnkept said cause) =
    IsTrue store.id.cells.limits.keep_faults × (said ≡ why) × (after.known ≡ before.known)
    × KnowsUnkept before.cells.view after.cells.view before.faults after.faults cause
    × IsUnkept store.id.cells.limits store.tries [] cell before.cells.view after.cells.view cause
EndsFailed store why cell before after (Computed number) = ⊥
EndsFailed store why cell before after (Found at number unused) = ⊥
EndsFailed store why cell before after (FaultStands at number unused) = ⊥
EndsFailed store why cell before after (Unkept value cause) = ⊥
EndsFailed store why cell before after (Refused refusal unused) = ⊥

-- ---- compute

-- The answer of a compute, without the factory that it hands back.
abbrev pub without_factory : {V F : Type 0} → Compute V F → Compute V (Unit {0})
without_factory (Computed number) = Computed number
without_factory (Found at number unused) = Found at number tt
without_factory (Failed why) = Failed why
without_factory (FaultKept number) = FaultKept number
without_factory (FaultUnkept why cause) = FaultUnkept why cause
without_factory (FaultStands at number unused) = FaultStands at number tt
without_factory (Unkept value cause) = Unkept value cause
without_factory (Refused why unused) = Refused why tt

-- The answer that hands the factory back.
abbrev pub with_factory : {V F : Type 0} → F → Unused → Compute V F
with_factory factory (unused.Found at number) = Found at number factory
with_factory factory (unused.FaultStands at number) = FaultStands at number factory
with_factory factory (unused.Refused why) = Refused why factory

-- A factory that was not called comes back unchanged.
abbrev pub HandsBack : {V F : Type 0} → F → Compute V F → Type 0
HandsBack factory (Computed number) = Unit {0}
HandsBack factory (Found at number unused) = unused ≡ factory
HandsBack factory (Failed why) = Unit {0}
HandsBack factory (FaultKept number) = Unit {0}
HandsBack factory (FaultUnkept why cause) = Unit {0}
HandsBack factory (FaultStands at number unused) = unused ≡ factory
HandsBack factory (Unkept value cause) = Unit {0}
HandsBack factory (Refused why unused) = unused ≡ factory

-- The events of the call and the points of its answer, for each result.
unfoldable pub ComputesFrom : {V : Type 0} → Limits → StoreView → ℕ → List ℕ → ℕ → LaneView → LaneView
    → Compute V (Unit {0}) → Type 0
ComputesFrom limits store context ancestors key before after (Computed number) =
    ClaimsAndLooks limits store context ancestors key before after look.Absent
    × Fills limits (Claim (cell_in store key context) ∷ []) (cell_in store key context) before after number
ComputesFrom limits store context ancestors key before after (Found at number unused) =
    Meets limits store context ancestors key before after (look.Found at number)
ComputesFrom limits store context ancestors key before after (Failed why) =
    IsFalse limits.keep_faults × ClaimsAndLooks limits store context ancestors key before after look.Absent
    × Calls limits before after (given_up_events store context key)
ComputesFrom limits store context ancestors key before after (FaultKept number) =
    IsTrue limits.keep_faults × ClaimsAndLooks limits store context ancestors key before after look.Absent
    × Fails limits (Claim (cell_in store key context) ∷ []) (cell_in store key context) before after number
ComputesFrom limits store context ancestors key before after (FaultUnkept why cause) =
    IsTrue limits.keep_faults × ClaimsAndLooks limits store context ancestors key before after look.Absent
    × IsUnkept limits store.tries (Claim (cell_in store key context) ∷ []) (cell_in store key context) before after
    cause
ComputesFrom limits store context ancestors key before after (FaultStands at number unused) =
    Meets limits store context ancestors key before after (look.Fault at number)
ComputesFrom limits store context ancestors key before after (Unkept value cause) =
    ClaimsAndLooks limits store context ancestors key before after look.Absent
    × IsUnkept limits store.tries (Claim (cell_in store key context) ∷ []) (cell_in store key context) before after
    cause
ComputesFrom limits store context ancestors key before after (Refused why unused) =
    IsRefused limits store context ancestors key before after why

-- The same for the path of the context, in the limits of the lane's cells.
unfoldable pub Computes : {V : Type 0} → StoreView → ℕ → ℕ → Lane → Lane → Compute V (Unit {0}) → Type 0
Computes store context key before after result =
    (ancestors : List ℕ) × IsPathOf store.tree context (context ∷ ancestors)
    × ComputesFrom before.cells.limits store context ancestors key before.view after.view result

-- The same along a path: the context that it begins with, and its ancestors.
unfoldable pub ComputesAlong : {V : Type 0} → StoreView → List ℕ → ℕ → Lane → Lane → Compute V (Unit {0}) → Type 0
ComputesAlong store [] key before after result = ⊥
ComputesAlong store (context ∷ ancestors) key before after result =
    ComputesFrom before.cells.limits store context ancestors key before.view after.view result

-- What the factory answered, if it was called, and what the lane knows of values and faults afterwards. `Gives` says
-- what the factory may answer for the key.
abbrev pub Uses : {V : Type 0} → (Result V Fault → Type 0) → StoreLane V → StoreLane V → Compute V (Unit {0}) → Type 0
Uses Gives before after (Computed number) = (value : _) × Gives (Ok value)
    × Learns before.known after.known number value × (after.faults ≡ before.faults)
Uses Gives before after (Found at number unused) = (after.known ≡ before.known) × (after.faults ≡ before.faults)
Uses Gives before after (Failed why) = Gives (Err why) × (after.known ≡ before.known) × (after.faults ≡ before.faults)
Uses Gives before after (FaultKept number) = (why : Fault) × Gives (Err why) × (after.known ≡ before.known)
    × Learns before.faults after.faults number why
Uses Gives before after (FaultUnkept why cause) = Gives (Err why) × (after.known ≡ before.known)
    × KnowsUnkept before.cells.view after.cells.view before.faults after.faults cause
Uses Gives before after (FaultStands at number unused) = (after.known ≡ before.known) × (after.faults ≡ before.faults)
Uses Gives before after (Unkept value cause) = Gives (Ok value)
    × KnowsUnkept before.cells.view after.cells.view before.known after.known cause × (after.faults ≡ before.faults)
Uses Gives before after (Refused why unused) = (after.known ≡ before.known) × (after.faults ≡ before.faults)

-- What a store that keeps no faults may answer.
abbrev pub IsFaultless : {V F : Type 0} → Compute V F → Type 0
IsFaultless (Computed number) = Unit {0}
IsFaultless (Found at number unused) = Unit {0}
IsFaultless (Failed why) = Unit {0}
IsFaultless (FaultKept number) = ⊥
IsFaultless (FaultUnkept why cause) = ⊥
IsFaultless (FaultStands at number unused) = ⊥
IsFaultless (Unkept value cause) = Unit {0}
IsFaultless (Refused why unused) = Unit {0}

-- Why no factory is called, in a store that keeps no faults.
abbrev pub IsFaultlessUnused : Unused → Type 0
IsFaultlessUnused (unused.Found at number) = Unit {0}
IsFaultlessUnused (unused.FaultStands at number) = ⊥
IsFaultlessUnused (unused.Refused why) = Unit {0}

-- The fact holds of the number, if the value was computed and stored under one.
abbrev pub IfComputed : {V F : Type 0} → Compute V F → (ℕ → Type 0) → Type 0
IfComputed (Computed number) Fact = Fact number
IfComputed (Found at number unused) Fact = Unit {0}
IfComputed (Failed why) Fact = Unit {0}
IfComputed (FaultKept number) Fact = Unit {0}
IfComputed (FaultUnkept why cause) Fact = Unit {0}
IfComputed (FaultStands at number unused) Fact = Unit {0}
IfComputed (Unkept value cause) Fact = Unit {0}
IfComputed (Refused why unused) Fact = Unit {0}
