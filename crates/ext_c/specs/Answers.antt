-- What each call promises of its seat, by its code and by what it writes out: what the store's calls promise of the
-- lane that sits there. `before` and `after` are the seat, or the lane, before and after the call. `was` is what stood
-- where the call writes, and still stands there unless the call is said to change it. The store's words are those of
-- `LaneCalls` and `Computing` in ext_store.
use Rattle.std.specs.Prelude.{ℕ, ◌≡◌, ◌<◌, ◌≤◌, ◌^◌, ◌⊎◌, IsFalse, IsTrue, true, false, List, [], length, Option, None, Some, Result, Ok, Err}
use Rattle.std.specs.Arc.{arc_value}
use Rattle.ext_history.specs.Histories.{seen_by}
use Rattle.ext_model.specs.History.{IsLegal}
use Rattle.ext_model.specs.declared.look.Fault.{Fault}
use Rattle.ext_model.specs.declared.look.Look.{Look}
use Rattle.ext_model.specs.declared.look.Look.TheVariants as look
use Rattle.ext_model.specs.declared.event.Act.TheVariants as act_is
use Rattle.ext_tree.specs.Keys.{KeyValue, IsKeyNumber, PlacesOnly}
use Rattle.ext_values.specs.Known.{Learns, known_at}
use Rattle.ext_cells.specs.Lanes.{Lane}
use Rattle.ext_cells.specs.CellCalls.{EndsClaim}
use Rattle.ext_model.specs.CallActs.{LaneView}
use Rattle.ext_store_core.specs.declared.fault.Refusal.{Refusal}
use Rattle.ext_store_core.specs.declared.fault.Refusal.TheVariants as refusal
use Rattle.ext_store_core.specs.declared.claim.Unused.{Unused}
use Rattle.ext_store_core.specs.declared.claim.Unused.TheVariants as unused
use Rattle.ext_store.specs.Computing.{ClaimsAlong, ClaimsMissing}
use Rattle.ext_store.specs.declared.fault.KeepFault.{KeepFault}
use Rattle.ext_store.specs.Stores.{StoreView, StoreLane}
use Rattle.ext_store.specs.LaneCalls.{Gets, GetsAlong, IsTrail, IsKeyRefused, KeepsAs, KeepsNothing, Puts, Removes}
use Rattle.ext_store.specs.Computing.{Fails, Fills, IsUnkept}
use Rattle.ext_store.specs.Waiting.{IsDecidedFault}
use Rattle.ext_c.specs.declared.code.Code.{Code}
use Rattle.ext_c.specs.declared.code.Code.TheVariants as code
use Rattle.ext_c.specs.declared.handle.Handle.{Handle}
use Rattle.ext_c.specs.declared.value.ExtValue.{ExtValue}
use Rattle.ext_c.specs.declared.seat.Seat.{Seat}
use Rattle.ext_c.specs.Codes.{keep_code, refusal_code}
use Rattle.ext_c.specs.Faults.{IsFaultOf}
use Rattle.ext_c.specs.Texts.{AreTexts, IsNamed, NamesNoKey, texts_in}

abbrev pub store_of : Seat → StoreView
store_of seat = arc_value seat.store

-- What the seat's lane has seen is a legal history of its store.
abbrev pub SeesLegal : Seat → Type 0
SeesLegal seat = IsLegal (store_of seat).id.cells.limits (seen_by seat.lane.cells.view)

-- ---- handles

-- The call writes out the value of this number, which the lane knows from now on.
pub record TellsValue (context number : ℕ) (before after : StoreLane Handle) (told : ExtValue) : Type 0 where
  pub at : told.context ≡ context
  pub named : told.number ≡ number
  pub value : told.fault ≡ false
  pub learnt : Learns before.known after.known number (record { raw = told.handle; closeable = told.closeable })

-- The lane knows no fault of this number that has a handle.
abbrev pub KnowsNoFault : ℕ → StoreLane Handle → Type 0
KnowsNoFault number lane = (why : Fault) (own : ℕ) → known_at lane.faults number ≡ Some why → own < 2 ^ 64
    → IsFaultOf own why → ⊥

-- The call writes out the kept fault of this number, which the lane knows from now on.
pub record TellsFault (context number : ℕ) (before after : StoreLane Handle) (told : ExtValue) : Type 0 where
  pub at : told.context ≡ context
  pub named : told.number ≡ number
  pub fault : told.fault ≡ true
  pub uncloseable : told.closeable ≡ false
  pub why : Fault
  pub learnt : Learns before.faults after.faults number why
  pub handle : (own : ℕ) → own < 2 ^ 64 → IsFaultOf own why → told.handle ≡ own

-- The number and the context alone.
abbrev pub number_alone : ℕ → ℕ → ExtValue
number_alone context number =
    record { handle = 0; context = context; number = number; closeable = false; fault = false }

-- The call writes out only the number and the context. The thread found no handle for it.
abbrev pub TellsNumber : ℕ → ℕ → ExtValue → Type 0
TellsNumber context number told = told ≡ number_alone context number

-- Only the context is written.
abbrev pub at_context : ℕ → ExtValue → ExtValue
at_context at was = record {
  handle = was.handle;
  context = at;
  number = was.number;
  closeable = was.closeable;
  fault = was.fault;
}

-- The code and the value written out, if a value was found.
abbrev pub TellsFound : ℕ → ℕ → StoreLane Handle → StoreLane Handle → ExtValue → Code → Type 0
TellsFound context number before after told said =
    ((said ≡ code.Done) × TellsValue context number before after told)
    ⊎ ((said ≡ code.Unshown) × TellsNumber context number told × (known_at before.known number ≡ None))

-- The code and the fault written out, if a kept fault was found.
abbrev pub TellsStanding : ℕ → ℕ → StoreLane Handle → StoreLane Handle → ExtValue → Code → Type 0
TellsStanding context number before after told said =
    ((said ≡ code.FaultStands) × TellsFault context number before after told)
    ⊎ ((said ≡ code.Unshown) × TellsNumber context number told × KnowsNoFault number before)

-- The code and what is written out, if a value or a kept fault stood there.
abbrev pub TellsStood : ℕ → ℕ → StoreLane Handle → StoreLane Handle → ExtValue → Code → Type 0
TellsStood context number before after told said =
    ((said ≡ code.Done) × (TellsValue context number before after told ⊎ TellsFault context number before after told))
    ⊎ ((said ≡ code.Unshown) × TellsNumber context number told × (known_at before.known number ≡ None)
    × KnowsNoFault number before)

-- ---- calls that are not made on the store

-- The lane has a claim, or there is no such context or key.
pub data NotAsked (context key : ℕ) (seat : Seat) : Code → Type 0 where
  claiming : (claim : ℕ) → seat.claim ≡ Some claim → NotAsked context key seat code.Claiming
  no_context : seat.claim ≡ None → length (store_of seat).tree ≤ context → NotAsked context key seat code.BadContext
  no_key : seat.claim ≡ None → length (store_of seat).id.keys ≤ key → NotAsked context key seat code.BadKey

-- The same along a path: the lane has a claim, there is no such path, or there is no such key. A path has at least one
-- context.
pub data NotAskedAlong (path : List ℕ) (key : ℕ) (seat : Seat) : Code → Type 0 where
  claiming : (claim : ℕ) → seat.claim ≡ Some claim → NotAskedAlong path key seat code.Claiming
  no_path : seat.claim ≡ None → (1 ≤ length path → IsTrail (store_of seat) path → ⊥)
      → NotAskedAlong path key seat code.BadContext
  no_key : seat.claim ≡ None → length (store_of seat).id.keys ≤ key → NotAskedAlong path key seat code.BadKey

-- ---- get

-- The code and what is written out, by the store's answer to a look-up.
abbrev pub TellsLook : Result Look Refusal → StoreLane Handle → StoreLane Handle → ExtValue → ExtValue → Code → Type 0
TellsLook (Ok (look.Found at number)) before after was found said = TellsFound at number before after found said
TellsLook (Ok (look.Fault at number)) before after was found said = TellsStanding at number before after found said
TellsLook (Ok look.Absent) before after was found said = (said ≡ code.Absent) × (found ≡ was)
TellsLook (Ok (look.Busy at)) before after was found said = (said ≡ code.Busy) × (found ≡ at_context at was)
TellsLook (Ok (look.Closed at)) before after was found said = (said ≡ code.Closed) × (found ≡ at_context at was)
TellsLook (Err why) before after was found said = (said ≡ refusal_code why) × (found ≡ was)

-- The store is not asked, for this reason; or it looked like this, and the call answers what it found.
pub data LookSays (IsBarred : Code → Type 0) (Looks : Lane → Lane → Result Look Refusal → Type 0)
    (before after : Seat) (was found : ExtValue) (said : Code) : Type 0 where
  not_asked : IsBarred said → after ≡ before → found ≡ was → LookSays IsBarred Looks before after was found said
  asked : before.claim ≡ None → (looked : Result Look Refusal) → Looks before.lane.cells after.lane.cells looked
      → TellsLook looked before.lane after.lane was found said → LookSays IsBarred Looks before after was found said

-- It looks from the context, or along the path.
abbrev pub GetSays : ℕ → ℕ → Seat → Seat → ExtValue → ExtValue → Code → Type 0
GetSays context key before after was found said =
    LookSays (NotAsked context key before) (Gets (store_of before) context key) before after was found said

abbrev pub GetAlongSays : List ℕ → ℕ → Seat → Seat → ExtValue → ExtValue → Code → Type 0
GetAlongSays path key before after was found said =
    LookSays (NotAskedAlong path key before) (GetsAlong (store_of before) path key) before after was found said

-- ---- put and remove

-- The code and what is written out, by the store's answer to a put.
abbrev pub TellsPut : ℕ → Result (Option ℕ) (ℕ × Refusal) → StoreLane Handle → StoreLane Handle → ExtValue → ExtValue
    → Code → Type 0
TellsPut context (Ok None) before after was stood said = (said ≡ code.Done) × TellsNumber context 0 stood
TellsPut context (Ok (Some number)) before after was stood said = TellsStood context number before after stood said
TellsPut context (Err refused) before after was stood said = (said ≡ refusal_code refused.1) × (stood ≡ was)

-- The handle was kept under a number and that number put, or it was not kept.
pub data PutSays (context key : ℕ) (handle : Handle) (before after : Seat) (was stood : ExtValue) (said : Code)
    : Type 0 where
  not_asked : NotAsked context key before said → after ≡ before → stood ≡ was
      → PutSays context key handle before after was stood said
  unkept : before.claim ≡ None → (why : KeepFault)
      → KeepsNothing (store_of before) handle before.lane after.lane handle why → said ≡ keep_code why → stood ≡ was
      → PutSays context key handle before after was stood said
  put : before.claim ≡ None → (number : ℕ) (kept : StoreLane Handle) (result : Result (Option ℕ) (ℕ × Refusal))
      → KeepsAs handle before.lane kept number
      → Puts (store_of before) context key number kept.cells after.lane.cells result
      → TellsPut context result kept after.lane was stood said
      → PutSays context key handle before after was stood said

-- The code and what is written out, by the store's answer to a remove.
abbrev pub TellsRemove : ℕ → Result (Option ℕ) Refusal → StoreLane Handle → StoreLane Handle → ExtValue → ExtValue
    → Code → Type 0
TellsRemove context (Ok None) before after was taken said = (said ≡ code.Absent) × (taken ≡ was)
TellsRemove context (Ok (Some number)) before after was taken said = TellsStood context number before after taken said
TellsRemove context (Err why) before after was taken said = (said ≡ refusal_code why) × (taken ≡ was)

-- The store took what stood there, and this call answers what that was.
pub data RemoveSays (context key : ℕ) (before after : Seat) (was taken : ExtValue) (said : Code) : Type 0 where
  not_asked : NotAsked context key before said → after ≡ before → taken ≡ was
      → RemoveSays context key before after was taken said
  asked : before.claim ≡ None → (result : Result (Option ℕ) Refusal)
      → Removes (store_of before) context key before.lane.cells after.lane.cells result
      → TellsRemove context result before.lane after.lane was taken said
      → RemoveSays context key before after was taken said

-- ---- a compute

-- If a claim is refused, the context that decides is written, if one does.
abbrev pub at_decided : Refusal → ExtValue → ExtValue
at_decided (refusal.Busy at) was = at_context at was
at_decided (refusal.Closed at) was = at_context at was
at_decided refusal.Contended was = was
at_decided refusal.Exhausted was = was
at_decided refusal.DirectoryFull was = was
at_decided refusal.Unplaced was = was
at_decided refusal.Memory was = was

-- The code and what is written out, by the reason why there is no claim.
abbrev pub TellsUnused : Unused → StoreLane Handle → StoreLane Handle → ExtValue → ExtValue → Code → Type 0
TellsUnused (unused.Found at number) before after was found said = TellsFound at number before after found said
TellsUnused (unused.FaultStands at number) before after was found said = TellsStanding at number before after found said
TellsUnused (unused.Refused why) before after was found said = (said ≡ refusal_code why) × (found ≡ at_decided why was)

-- The store is not asked, for this reason; or the lane has claimed the place like this; or the call answers why not.
pub data ClaimSays (IsBarred : Code → Type 0) (Claims : LaneView → LaneView → Result ℕ Unused → Type 0)
    (before after : Seat) (was found : ExtValue) (said : Code) : Type 0 where
  not_asked : IsBarred said → after ≡ before → found ≡ was → ClaimSays IsBarred Claims before after was found said
  claimed : before.claim ≡ None → (claim : ℕ) → Claims before.lane.cells.view after.lane.cells.view (Ok claim)
      → after.claim ≡ Some claim → found ≡ was → said ≡ code.Run
      → ClaimSays IsBarred Claims before after was found said
  unclaimed : before.claim ≡ None → (why : Unused) → Claims before.lane.cells.view after.lane.cells.view (Err why)
      → TellsUnused why before.lane after.lane was found said → after.claim ≡ None
      → ClaimSays IsBarred Claims before after was found said

-- It looks from the context, or along the path.
abbrev pub BeginSays : ℕ → ℕ → Seat → Seat → ExtValue → ExtValue → Code → Type 0
BeginSays context key before after was found said =
    ClaimSays (NotAsked context key before) (ClaimsMissing (store_of before) context key) before after was found said

abbrev pub BeginAlongSays : List ℕ → ℕ → Seat → Seat → ExtValue → ExtValue → Code → Type 0
BeginAlongSays path key before after was found said =
    ClaimSays (NotAskedAlong path key before) (ClaimsAlong (store_of before) path key) before after was found said

-- The handle is kept and its number stands in the claimed cell; or it is not kept, and the claim is given up. That
-- other lanes were in the way is no reason: while the claim stands the lane draws again.
pub data FillSays (handle : Handle) (before after : Seat) (was number : ℕ) (said : Code) : Type 0 where
  no_claim : before.claim ≡ None → after ≡ before → number ≡ was → said ≡ code.NoClaim
      → FillSays handle before after was number said
  filled : (claim : ℕ) → before.claim ≡ Some claim
      → Fills (store_of before).id.cells.limits [] claim before.lane.cells.view after.lane.cells.view number
      → Learns before.lane.known after.lane.known number handle → said ≡ code.Done
      → FillSays handle before after was number said
  unkept : (claim : ℕ) (why : KeepFault) → before.claim ≡ Some claim
      → IsUnkept (store_of before).id.cells.limits (store_of before).tries [] claim before.lane.cells.view
      after.lane.cells.view why
      → IsDecidedFault why → number ≡ was → said ≡ keep_code why → FillSays handle before after was number said

-- The handle's fault is kept and its number stands in the claimed cell; or it is not kept, for the same reasons, and
-- the claim is given up; or the store keeps no faults.
pub data FailSays (handle : ℕ) (before after : Seat) (was number : ℕ) (said : Code) : Type 0 where
  no_claim : before.claim ≡ None → after ≡ before → number ≡ was → said ≡ code.NoClaim
      → FailSays handle before after was number said
  failed : (claim : ℕ) (why : Fault) → before.claim ≡ Some claim → IsTrue (store_of before).id.cells.limits.keep_faults
      → IsFaultOf handle why
      → Fails (store_of before).id.cells.limits [] claim before.lane.cells.view after.lane.cells.view number
      → Learns before.lane.faults after.lane.faults number why → said ≡ code.Done
      → FailSays handle before after was number said
  unkept : (claim : ℕ) (why : KeepFault) → before.claim ≡ Some claim
      → IsTrue (store_of before).id.cells.limits.keep_faults
      → IsUnkept (store_of before).id.cells.limits (store_of before).tries [] claim before.lane.cells.view
      after.lane.cells.view why
      → IsDecidedFault why → number ≡ was → said ≡ keep_code why → FailSays handle before after was number said
  given_up : (claim : ℕ) → before.claim ≡ Some claim → IsFalse (store_of before).id.cells.limits.keep_faults
      → EndsClaim before.lane.cells after.lane.cells (act_is.Abandon claim) → number ≡ was → said ≡ code.GivenUp
      → FailSays handle before after was number said

-- The claim is given up.
pub data AbandonSays (before after : Seat) (said : Code) : Type 0 where
  no_claim : before.claim ≡ None → after ≡ before → said ≡ code.NoClaim → AbandonSays before after said
  given_up : (claim : ℕ) → before.claim ≡ Some claim
      → EndsClaim before.lane.cells after.lane.cells (act_is.Abandon claim)
      → said ≡ code.Done → AbandonSays before after said

-- ---- the number of a key

-- The key has this number for the lane, which makes no step on the cells; or this is why it has none. The lane itself
-- puts no other key at a place.
pub data KeySays (key : KeyValue) (before after : Seat) (was number : ℕ) (said : Code) : Type 0 where
  numbered : IsKeyNumber after.lane.keys key number → PlacesOnly key before.lane.keys after.lane.keys
      → after.lane.cells ≡ before.lane.cells → said ≡ code.Done
      → KeySays key before after was number said
  refused : (why : Refusal) → IsKeyRefused before.lane after.lane key why
      → PlacesOnly key before.lane.keys after.lane.keys → number ≡ was → said ≡ refusal_code why
      → KeySays key before after was number said

-- The texts name a key, whose number the call answers; or the call answers why they name none.
pub data NamesKey (bytes lengths : List ℕ) (before after : Seat) (was number : ℕ) (said : Code) : Type 0 where
  unnamed : NamesNoKey bytes lengths said → after ≡ before → number ≡ was
      → NamesKey bytes lengths before after was number said
  named : AreTexts bytes lengths → (key : KeyValue) → IsNamed (texts_in bytes lengths) key
      → KeySays key before after was number said
      → NamesKey bytes lengths before after was number said
