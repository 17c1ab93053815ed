-- Laws of all legal histories, each proved by `history_laws`. Promises about several threads rest on them.
use Rattle.std.specs.Prelude.{ℕ, ◌≡◌, ◌<◌, ◌↔◌, nat_eq, Bool, true, false, [], ◌∷◌, ◌++◌, Contains, Option, Some, IfSome, IsFalse}
use Rattle.std.specs.List.{IsDistinct}
use Rattle.ext_model.specs.declared.event.Act.{Act}
use Rattle.ext_model.specs.declared.event.Act.TheVariants.{Keep, Remove, Claim, Fill, Fail}
use Rattle.ext_model.specs.declared.event.Event.{Event}
use Rattle.ext_model.specs.declared.slot.Slot.{Slot}
use Rattle.ext_model.specs.declared.slot.Slot.TheVariants as slot
use Rattle.ext_model.specs.Events.{is_on}
use Rattle.ext_model.specs.History.{History, Limits, state_after, by, own, stored, stored_number, faults, IsQuiet, IsAllowed, IsLegal}
use Rattle.ext_model.specs.Allowed.{MayHappen}
use Rattle.ext_model.specs.CallActs.{MayStore}

-- ---- which histories are legal

-- A prefix of a legal history is legal.
abbrev pub PrefixesAreLegal : Type 0
PrefixesAreLegal = (limits : Limits) (h rest : History) → IsLegal limits (h ++ rest) → IsLegal limits h

-- A legal history stays legal if an allowed event follows.
abbrev pub AllowedEventsFollow : Type 0
AllowedEventsFollow = (limits : Limits) (h : History) (e : Event ℕ) → IsLegal limits h → IsAllowed limits h e
    → IsLegal limits (h ++ e ∷ [])

-- The empty history is legal.
abbrev pub EmptyIsLegal : Type 0
EmptyIsLegal = (limits : Limits) → IsLegal limits []

-- Induction: a test that holds of the empty history and is kept by each allowed event holds of each legal history. The
-- lemma `legal_induct` says it of any fact.
abbrev pub LegalInduction : Type 0
LegalInduction =
    (limits : Limits) (test : History → Bool) → test [] ≡ true
    → ((h : History) (e : Event ℕ) → IsLegal limits h → test h ≡ true → IsAllowed limits h e
    → test (h ++ e ∷ []) ≡ true)
    → (h : History) → IsLegal limits h → test h ≡ true

-- `IsAllowed`, by the reply of one thread, and the table of acts allow the same events.
abbrev pub AllowedByCases : Type 0
AllowedByCases = (limits : Limits) (h : History) (lane : ℕ) (act : Act ℕ) → IsAllowed limits h (by lane act)
    ↔ MayHappen limits h lane act

-- Events are quiet at a cell exactly if none of them is on it.
abbrev pub QuietIsNoEvent : Type 0
QuietIsNoEvent = (cell : ℕ) (events : History) → IsQuiet cell events
    ↔ ((e : Event ℕ) → Contains events e → is_on nat_eq cell e.act ≡ false)

-- ---- lanes

-- Each event is by one of the store's lanes.
abbrev pub EventsAreByLanes : Type 0
EventsAreByLanes = (limits : Limits) (h : History) (e : Event ℕ) → IsLegal limits h → Contains h e
    → e.lane < limits.lanes

-- If no lane of the store has made an event, the history is empty.
abbrev pub NoLaneNoEvent : Type 0
NoLaneNoEvent = (limits : Limits) (h : History) → IsLegal limits h
    → ((lane : ℕ) → lane < limits.lanes → own lane h ≡ []) → h ≡ []

-- ---- cells

-- Between two fills of a cell it was removed.
abbrev pub RemoveBetweenFills : Type 0
RemoveBetweenFills =
    (limits : Limits) (before between later : History) (lane cell number lane' number' : ℕ)
    → IsLegal limits (before ++ by lane (Fill cell number) ∷ (between ++ by lane' (Fill cell number') ∷ later))
    → (remover : ℕ) × Contains between (by remover (Remove cell))

-- Between a kept fault in a cell and the next claim it was removed: while a fault is kept, no factory runs.
abbrev pub RemoveAfterFail : Type 0
RemoveAfterFail =
    (limits : Limits) (before between later : History) (lane cell number lane' : ℕ)
    → IsLegal limits (before ++ by lane (Fail cell number) ∷ (between ++ by lane' (Claim cell) ∷ later))
    → (remover : ℕ) × Contains between (by remover (Remove cell))

-- No event follows on a sealed cell.
abbrev pub NothingFollowsSeal : Type 0
NothingFollowsSeal =
    (limits : Limits) (h rest : History) (cell : ℕ) (kept : Option ℕ)
    → IsLegal limits (h ++ rest) → (state_after h).slots cell ≡ Some (slot.Sealed kept) → IsQuiet cell rest

-- No event follows on a claimed cell before one of the claim's lane.
abbrev pub ClaimsStand : Type 0
ClaimsStand =
    (limits : Limits) (h rest : History) (lane cell : ℕ)
    → IsLegal limits (h ++ rest) → (state_after h).slots cell ≡ Some (slot.Claim lane) → IsQuiet cell (own lane rest)
    → IsQuiet cell rest

-- Only cells of the store are used.
abbrev pub UsedCellsAreWithin : Type 0
UsedCellsAreWithin = (limits : Limits) (h : History) (cell : ℕ) (slot : Slot) → IsLegal limits h
    → (state_after h).slots cell ≡ Some slot → cell < limits.cells

-- ---- numbers

-- No number is drawn by two lanes.
abbrev pub NumbersAreDrawnOnce : Type 0
NumbersAreDrawnOnce =
    (limits : Limits) (h : History) (lane other number : ℕ)
    → IsLegal limits h → Contains h (by lane (Keep number)) → Contains h (by other (Keep number)) → lane ≡ other

-- No number is stored twice.
abbrev pub NumbersAreStoredOnce : Type 0
NumbersAreStoredOnce = (limits : Limits) (h : History) → IsLegal limits h → IsDistinct nat_eq (stored h)

-- A lane stores only numbers that it drew.
abbrev pub LanesStoreOwnNumbers : Type 0
LanesStoreOwnNumbers =
    (limits : Limits) (h : History) (e : Event ℕ) → IsLegal limits h → Contains h e
    → IfSome (stored_number e.act) (λ number. Contains h (by e.lane (Keep number)))

-- A lane sees from its own events alone whether it may store a number.
abbrev pub OwnPastSuffices : Type 0
OwnPastSuffices = (limits : Limits) (h : History) (lane number : ℕ) → IsLegal limits h
    → MayStore lane number (own lane h) → MayStore lane number h

-- ---- faults

-- A fault that stands in a cell was kept as a fault.
abbrev pub FaultsWereKept : Type 0
FaultsWereKept = (limits : Limits) (h : History) (cell number : ℕ) → IsLegal limits h
    → (state_after h).slots cell ≡ Some (slot.Fault number) → Contains (faults h) number

-- A value that stands in a cell was never kept as a fault.
abbrev pub ValuesAreNoFaults : Type 0
ValuesAreNoFaults = (limits : Limits) (h : History) (cell number : ℕ) → IsLegal limits h
    → (state_after h).slots cell ≡ Some (slot.Entry number) → ¬ (Contains (faults h) number)

-- The value that a seal keeps was never kept as a fault.
abbrev pub SealsKeepNoFaults : Type 0
SealsKeepNoFaults = (limits : Limits) (h : History) (cell number : ℕ) → IsLegal limits h
    → (state_after h).slots cell ≡ Some (slot.Sealed (Some number)) → ¬ (Contains (faults h) number)

-- A store that keeps no faults never has one.
abbrev pub NoFaults : Type 0
NoFaults = (limits : Limits) (h : History) → IsFalse limits.keep_faults → IsLegal limits h → faults h ≡ []

-- The legal histories of a store that keeps no faults are those of a store that keeps them, without a kept fault.
-- Keeping faults adds the act `Fail` and changes nothing else.
abbrev pub KeepingAddsFails : Type 0
KeepingAddsFails =
    (limits : Limits) (h : History)
    → IsLegal (record limits { keep_faults = false }) h
    ↔ (IsLegal (record limits { keep_faults = true }) h × (faults h ≡ []))
