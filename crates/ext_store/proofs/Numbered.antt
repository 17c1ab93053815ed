-- What a call by a key says, from what its key's number was given and what the call by that number says.
use Rattle.std.proofs.Common.{◌≡◌, ◌≤◌, inl, inr, ℕ, List, sym, subst, ◌∙◌}
use Rattle.std.specs.Prelude.{Option, Some, Result}
use Rattle.ext_model.specs.declared.look.Fault.{Fault}
use Rattle.ext_tree.specs.Keys.{KeyValue, KnownPlace, IsKeyNumber, KeepsKeys, PlacesOnly}
use Rattle.ext_tree.specs.declared.key_fault.KeyFault.{KeyFault}
use Rattle.ext_tree.specs.declared.key_fault.KeyFault.TheVariants as fault
use Rattle.ext_tree.proofs.KeyPlacing.{number_stays}
use Rattle.ext_values.specs.Known.{Learns}
use Rattle.ext_cells.specs.Lanes.{Lane}
use Rattle.ext_store_core.specs.declared.fault.Refusal.{Refusal}
use Rattle.ext_store.specs.declared.computed.Compute.{Compute}
use Rattle.ext_store.specs.declared.computed.Compute.TheVariants.{Computed, Found, Failed, FaultKept, FaultUnkept, FaultStands, Unkept, Refused}
use Rattle.ext_store.specs.Stores.{StoreId, StoreLane, IsKeptBy, StillKeeps}
use Rattle.ext_store.specs.LaneCalls.{Frame, steps_of, IsKeyRefused, KnowsUnkept, OfKey, key_refusal}
use Rattle.ext_store.specs.Computing.{IfComputed, Uses}
use Rattle.ext_store.proofs.NewDraws.{GoesOnTo, knows_since}
use Rattle.ext_store.specs.Waiting.{IsDecided}
use Rattle.ext_store.proofs.Keeping.{no_steps}

-- a frame says that known keys stay known
pub frame_keys : {V : Type 0} (id : StoreId) (stored : List ℕ) (a b : StoreLane V) → Frame id stored a b → KeepsKeys a.keys b.keys
unfolding Frame
frame_keys id stored a b frame = frame.keys

-- where two keys are there, they are one
pub one_key : (a b : KeyValue) → (let x : Option KeyValue = Some a in let y : Option KeyValue = Some b in x ≡ y) → a ≡ b
one_key a b e = cc e

-- a call by a number puts no key at a place
pub placed_still : (key : KeyValue) (a b c : List KnownPlace) → PlacesOnly key a b → c ≡ b → PlacesOnly key a c
placed_still key a b c places same = subst (λ l. PlacesOnly key a l) (sym same) places

-- a lane before the call, when its key was numbered, and after the call by that number
module _ {V : Type 0} (a b c : StoreLane V) (still : b.cells ≡ a.cells) where
  pub of_number : (id : StoreId) (stored : List ℕ) (key : KeyValue) (number : ℕ) (Refuses : Refusal → Type 0) (Holds : Lane → ℕ → Type 0) → IsKeyNumber b.keys key number → Frame id stored b c → Holds b.cells number → OfKey a c key Refuses (Holds a.cells)
  of_number id stored key number Refuses Holds is frame holds = inl (number, number_stays b.keys c.keys key number (frame_keys id stored b c frame) is, subst (λ l. Holds l number) still holds)

  pub steps_later : (most : ℕ) → steps_of b.cells c.cells ≤ most → steps_of a.cells c.cells ≤ most
  steps_later most few = subst (λ l. steps_of l c.cells ≤ most) still few

  pub apart_later : {F : Type 0} (r : Compute V F) → StillKeeps a b → IfComputed r (λ number. (m : ℕ) → IsKeptBy b m → m ≡ number → ⊥) → IfComputed r (λ number. (m : ℕ) → IsKeptBy a m → m ≡ number → ⊥)
  apart_later (Computed number) keeps apart = λ m k. apart m (keeps m k)
  apart_later (Found at number unused) keeps apart = tt
  apart_later (Failed why) keeps apart = tt
  apart_later (FaultKept number) keeps apart = tt
  apart_later (FaultUnkept why cause) keeps apart = tt
  apart_later (FaultStands at number unused) keeps apart = tt
  apart_later (Unkept value cause) keeps apart = tt
  apart_later (Refused why unused) keeps apart = tt

-- and what a compute learnt, where what came before taught the lane nothing of values and of faults
module _ {V : Type 0} (Gives : Result V Fault → Type 0) (a b c : StoreLane V) (on : GoesOnTo a.cells.view b.cells.view) (same : b.known ≡ a.known) (also : b.faults ≡ a.faults) where
  pub uses_later : (r : Compute V (Unit {0})) → Uses Gives b c r → Uses Gives a c r
  uses_later (Computed number) u = (u.0, u.1, subst (λ l. Learns l c.known number u.0) same u.2, u.3 ∙ also)
  uses_later (Found at number unused) u = (u.0 ∙ same, u.1 ∙ also)
  uses_later (Failed why) u = (u.0, u.1 ∙ same, u.2 ∙ also)
  uses_later (FaultKept number) u = (u.0, u.1, u.2 ∙ same, subst (λ l. Learns l c.faults number u.0) also u.3)
  uses_later (FaultUnkept why cause) u = (u.0, u.1 ∙ same, subst (λ l. KnowsUnkept a.cells.view c.cells.view l c.faults cause) also (knows_since a.cells.view b.cells.view c.cells.view b.faults c.faults cause on u.2))
  uses_later (FaultStands at number unused) u = (u.0 ∙ same, u.1 ∙ also)
  uses_later (Unkept value cause) u = (u.0, subst (λ l. KnowsUnkept a.cells.view c.cells.view l c.known cause) same (knows_since a.cells.view b.cells.view c.cells.view b.known c.known cause on u.1), u.2 ∙ also)
  uses_later (Refused why unused) u = (u.0 ∙ same, u.1 ∙ also)

-- where the key got no number
module _ {V : Type 0} (a b : StoreLane V) (key : KeyValue) (why : Refusal) (refused : IsKeyRefused a b key why) where
  pub of_refusal : (Refuses : Refusal → Type 0) (Holds : ℕ → Type 0) → Refuses why → OfKey a b key Refuses Holds
  of_refusal Refuses Holds is = inr (why, refused, is)

  pub refused_steps : (most : ℕ) → steps_of a.cells b.cells ≤ most
  refused_steps most = subst (λ l. steps_of a.cells l ≤ most) (sym refused.still) (no_steps a.cells most)

  pub refused_decided : IsDecided why
  refused_decided = subst IsDecided (sym refused.why_is) (of_fault refused.fault)
    where
      of_fault : (f : KeyFault) → IsDecided (key_refusal f)
      of_fault fault.DirectoryFull = tt
      of_fault fault.Unplaced = tt
      of_fault fault.Memory = tt
