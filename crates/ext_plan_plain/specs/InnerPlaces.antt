-- What the store of a plain run shows of its places, and what its private functions keep. No public contract cites it.
use Rattle.std.specs.Prelude.{◌≡◌, ◌≢◌, ◌<◌, ◌≤◌, ◌⊎◌, ℕ, Bool, true, false, not, ◌&&◌, nat_lt, Option, None, Some, Result}
use Rattle.std.specs.Ordering.{nat_cmp}
use Rattle.std.specs.BTreeSet.{BTreeSet, contains_by}
use Rattle.ext_model.specs.declared.event.Act.{Act}
use Rattle.ext_model.specs.declared.plain_fault.PlainFault.{PlainFault}
use Rattle.ext_model.specs.declared.slot.Slot.{Slot}
use Rattle.ext_model.specs.declared.slot.Slot.TheVariants as slot
use Rattle.ext_model.specs.State.{State}
use Rattle.ext_model.specs.Plain.{Place, Plain, next_state, plain_reply, place_cmp, result_of, state_of, under}
use Rattle.ext_plan_plain.specs.declared.place_store.PlaceStore.{PlaceStore}
use Rattle.ext_plan_plain.specs.InnerUsed.{is_used}

-- The context has ended.
abbrev pub ends_in : BTreeSet ℕ → ℕ → Bool
ends_in ended context = contains_by (nat_cmp context) ended

-- Nobody used the place, and its context has ended.
abbrev pub is_spared : PlaceStore → Place → Bool
is_spared s place = ends_in s.ended place.0 && (nat_lt place.1 s.places && not (is_used s.used place))

-- What stands at a place, which is sealed without a number where it was spared.
abbrev pub or_sealed : Bool → Option Slot → Option Slot
or_sealed true None = Some (slot.Sealed None)
or_sealed true (Some stands) = Some stands
or_sealed false stands = stands

-- A state in which some empty places are sealed.
abbrev pub sparing : (Place → Bool) → State Place → State Place
sparing spared s = record { slots = λ place. or_sealed (spared place) (s.slots place); drawn = s.drawn }

-- What the store shows: what stands where, with the spared places sealed.
abbrev pub shown : PlaceStore → State Place
shown s = sparing (is_spared s) (state_of s.store)

-- How many numbers it draws at most.
abbrev pub numbers_in : PlaceStore → ℕ
numbers_in s = s.store.numbers

pub record HasLimitsOf (old new : PlaceStore) : Type 0 where
  pub places : new.places ≡ old.places
  pub numbers : numbers_in new ≡ numbers_in old

-- The result is the store's reply to the act.
abbrev pub IsAnswer : {A : Type 0} → (Option ℕ → A) → ℕ → Act Place → PlaceStore → Result A PlainFault → Type 0
IsAnswer value lane act old result = result_of value (plain_reply (numbers_in old) (shown old) lane act) ≡ Some result

-- The new store is the old one after the act.
abbrev pub IsMove : ℕ → Act Place → PlaceStore → PlaceStore → Type 0
IsMove lane act old new = shown new ≡ next_state (numbers_in old) (shown old) lane act

-- At most the used places are others.
pub record KeepsUsed (old new : PlaceStore) : Type 0 where
  pub store : new.store ≡ old.store
  pub ended : new.ended ≡ old.ended
  pub places : new.places ≡ old.places

-- An unused place of the context that was empty is sealed.
pub record IsSealedEmpty (at : ℕ) (old new : PlaceStore) (place : Place) : Type 0 where
  pub context : place.0 ≡ at
  pub key : place.1 < old.places
  pub empty : (shown old).slots place ≡ None
  pub sealed : (shown new).slots place ≡ Some (slot.Sealed None)

-- The unused places of the context are sealed without a number.
pub record SparesUnused (at : ℕ) (s : PlaceStore) : Type 0 where
  pub unused : (key : ℕ) → key < s.places → is_used s.used (at, key) ≡ false → under (shown s) key at ≡ Some (slot.Sealed None)

-- The context has ended: its unused places are sealed without a number, and the others are as they were.
pub record HasEnded (at : ℕ) (old new : PlaceStore) : Type 0 where
  pub drawn : (shown new).drawn ≡ (shown old).drawn
  pub each : (place : Place) → ((shown new).slots place ≡ (shown old).slots place) ⊎ IsSealedEmpty at old new place
  pub spares : SparesUnused at new

-- The first used key of the context from this one on.
pub record IsNextUsed (s : PlaceStore) (at first key : ℕ) : Type 0 where
  pub from : first ≤ key
  pub within : key < s.places
  pub used : is_used s.used (at, key) ≡ true
  pub between : (other : ℕ) → first ≤ other → other < key → is_used s.used (at, other) ≡ false
