-- What a call of a seat says of the steps that it made one after the other: what a step leaves as it was is told as of the first state.
use Rattle.std.proofs.Common.{◌≡◌, ◌≢◌, ◌<◌, ◌^◌, ℕ, ◌⊎◌, inl, inr, Some, None, Ok, Err, List, [], ◌∷◌, length, subst, sym, ap, ◌∙◌, refl}
use Rattle.std.proofs.lemmas.Bool.{cases_eq}
use Rattle.std.proofs.lemmas.List.{ext_get_or}
use Rattle.std.specs.Prelude.{Option, Result, IfSome, IsSome, IsTrue, is_some, slice_index_or, true, false}
use Rattle.std.specs.Arc.{arc_value}
use Rattle.ext_model.specs.declared.event.Act.TheVariants.{Abandon}
use Rattle.ext_model.specs.CallActs.{Calls, LaneView}
use Rattle.ext_model.specs.declared.look.Look.{Look}
use Rattle.ext_model.specs.declared.look.Look.TheVariants as look
use Rattle.ext_model.specs.declared.look.Fault.{Fault}
use Rattle.ext_values.specs.Known.{Known, Learns, known_at}
use Rattle.ext_cells.specs.CellCalls.{EndsClaim}
use Rattle.ext_cells.specs.Lanes.{CellsId, Lane}
use Rattle.ext_closing.specs.declared.fault.CloseFault.{CloseFault}
use Rattle.ext_store_core.specs.declared.fault.Refusal.{Refusal}
use Rattle.ext_store_core.specs.declared.claim.Unused.{Unused}
use Rattle.ext_store_core.specs.declared.claim.Unused.TheVariants as unused
use Rattle.ext_store.specs.Computing.{IsUnkept}
use Rattle.ext_store.specs.declared.fault.KeepFault.TheVariants as keep
use Rattle.ext_store.specs.Stores.{CloserView, StoreLane}
use Rattle.ext_store.specs.LaneCalls.{KeepsAs, Puts, Removes}
use Rattle.ext_c.specs.declared.code.Code.{Code}
use Rattle.ext_c.specs.declared.code.Code.TheVariants as code
use Rattle.ext_c.specs.declared.handle.Handle.{Handle}
use Rattle.ext_c.specs.declared.value.ExtValue.{ExtValue}
use Rattle.ext_c.specs.declared.seat.Seat.{Seat}
use Rattle.ext_c.specs.declared.slot.ExtSlot.{ExtSlot}
use Rattle.ext_c.specs.Closing.{Asks, CloseSays, IsRefusedFor, KeepsOthers, LosesOnly, NotClosing, TellsRefused, WritesClosed}
use Rattle.ext_c.specs.Codes.{code_number}
use Rattle.ext_c.specs.Faults.{IsFaultOf}
use Rattle.ext_c.specs.Slots.{OnSlot}
use Rattle.ext_c.specs.Answers.{ClaimSays, FailSays, LookSays, NotAsked, NotAskedAlong, PutSays, RemoveSays, SeesLegal, TellsFault, TellsFound, TellsLook, TellsPut, TellsRemove, TellsStanding, TellsStood, TellsUnused, TellsValue, store_of}

-- ---- told of a lane that knows the same

-- of these notes no fault of the number has a handle
abbrev NoneKnown : List (Known Fault) → ℕ → Type 0
NoneKnown notes number = (why : Fault) (own : ℕ) → known_at notes number ≡ Some why → own < 2 ^ 64 → IsFaultOf own why → ⊥

module _ (before mid after : StoreLane Handle) (known : mid.known ≡ before.known) (faults : mid.faults ≡ before.faults) (told : ExtValue) where
  value_as : (context number : ℕ) → TellsValue context number mid after told → TellsValue context number before after told
  value_as context number t = record {
    at = t.at;
    named = t.named;
    value = t.value;
    learnt = subst (λ (k : List (Known Handle)). Learns k after.known number (record { raw = told.handle; closeable = told.closeable })) known t.learnt;
  }

  fault_as : (context number : ℕ) → TellsFault context number mid after told → TellsFault context number before after told
  fault_as context number t = record {
    at = t.at;
    named = t.named;
    fault = t.fault;
    uncloseable = t.uncloseable;
    why = t.why;
    learnt = subst (λ (k : List (Known Fault)). Learns k after.faults number t.why) faults t.learnt;
    handle = t.handle;
  }

  found_as : (context number : ℕ) (said : Code) → TellsFound context number mid after told said → TellsFound context number before after told said
  found_as context number said (inl t) = inl (t.0, value_as context number t.1)
  found_as context number said (inr t) = inr (t.0, t.1, subst (λ (k : List (Known Handle)). known_at k number ≡ None) known t.2)

  standing_as : (context number : ℕ) (said : Code) → TellsStanding context number mid after told said → TellsStanding context number before after told said
  standing_as context number said (inl t) = inl (t.0, fault_as context number t.1)
  standing_as context number said (inr t) = inr (t.0, t.1, subst (λ (k : List (Known Fault)). NoneKnown k number) faults t.2)

  value_or_fault_as : (context number : ℕ) → (TellsValue context number mid after told ⊎ TellsFault context number mid after told)
      → (TellsValue context number before after told ⊎ TellsFault context number before after told)
  value_or_fault_as context number (inl t) = inl (value_as context number t)
  value_or_fault_as context number (inr t) = inr (fault_as context number t)

  stood_as : (context number : ℕ) (said : Code) → TellsStood context number mid after told said → TellsStood context number before after told said
  stood_as context number said (inl t) = inl (t.0, value_or_fault_as context number t.1)
  stood_as context number said (inr t) =
      inr (t.0, t.1, subst (λ (k : List (Known Handle)). known_at k number ≡ None) known t.2, subst (λ (k : List (Known Fault)). NoneKnown k number) faults t.3)

  module _ (was : ExtValue) where
    look_as : (looked : Result Look Refusal) (said : Code) → TellsLook looked mid after was told said → TellsLook looked before after was told said
    look_as (Ok (look.Found at number)) said t = found_as at number said t
    look_as (Ok (look.Fault at number)) said t = standing_as at number said t
    look_as (Ok look.Absent) said t = t
    look_as (Ok (look.Busy at)) said t = t
    look_as (Ok (look.Closed at)) said t = t
    look_as (Err why) said t = t

    put_as : (context : ℕ) (result : Result (Option ℕ) (ℕ × Refusal)) (said : Code) → TellsPut context result mid after was told said → TellsPut context result before after was told said
    put_as context (Ok None) said t = t
    put_as context (Ok (Some number)) said t = stood_as context number said t
    put_as context (Err refused) said t = t

    remove_as : (context : ℕ) (result : Result (Option ℕ) Refusal) (said : Code) → TellsRemove context result mid after was told said → TellsRemove context result before after was told said
    remove_as context (Ok None) said t = t
    remove_as context (Ok (Some number)) said t = stood_as context number said t
    remove_as context (Err why) said t = t

    unused_as : (why : Unused) (said : Code) → TellsUnused why mid after was told said → TellsUnused why before after was told said
    unused_as (unused.Found at number) said t = found_as at number said t
    unused_as (unused.FaultStands at number) said t = standing_as at number said t
    unused_as (unused.Refused why) said t = t

-- ---- claims

of_some : (m : Option ℕ) → is_some m ≡ true → (claim : ℕ) × (m ≡ Some claim)
of_some None e = absurd (cc)
of_some (Some claim) e = (claim, refl)

of_none : (m : Option ℕ) → is_some m ≡ false → m ≡ None
of_none None e = refl
of_none (Some claim) e = absurd (cc)

-- a lane that has none
pub has_none : (seat : Seat) → is_some seat.claim ≡ false → seat.claim ≡ None
has_none seat e = of_none seat.claim e

-- a lane that has a claim
pub has_claim : (context key : ℕ) (seat : Seat) → is_some seat.claim ≡ true → NotAsked context key seat code.Claiming
has_claim context key seat e = let own = of_some seat.claim e in NotAsked.claiming own.0 own.1

pub has_claim_along : (path : List ℕ) (key : ℕ) (seat : Seat) → is_some seat.claim ≡ true → NotAskedAlong path key seat code.Claiming
has_claim_along path key seat e = let own = of_some seat.claim e in NotAskedAlong.claiming own.0 own.1

-- a lane that has just got one
pub begin_run : (IsBarred : Code → Type 0) (Claims : LaneView → LaneView → Result ℕ Unused → Type 0) (before after : Seat) (was : ExtValue) (m : Option ℕ) → before.claim ≡ None → after.claim ≡ m → IsSome m
    → IfSome m (λ claim. Claims before.lane.cells.view after.lane.cells.view (Ok claim)) → ClaimSays IsBarred Claims before after was was code.Run
begin_run IsBarred Claims before after was None idle e some claims = absurd (cc)
begin_run IsBarred Claims before after was (Some claim) idle e some claims = ClaimSays.claimed idle claim claims e refl refl

-- ---- the calls

module _ (before mid after : Seat) (known : mid.lane.known ≡ before.lane.known) (faults : mid.lane.faults ≡ before.lane.faults)
    (still : after.lane.cells ≡ mid.lane.cells) (idle : before.claim ≡ None) (was told : ExtValue) (said : Code) where
  pub look_said : (IsBarred : Code → Type 0) (Looks : Lane → Lane → Result Look Refusal → Type 0) (looked : Result Look Refusal) → Looks before.lane.cells mid.lane.cells looked
      → TellsLook looked mid.lane after.lane was told said → LookSays IsBarred Looks before after was told said
  look_said IsBarred Looks looked looks tells =
      LookSays.asked idle looked (subst (λ (l : Lane). Looks before.lane.cells l looked) (sym still) looks)
      (look_as before.lane mid.lane after.lane known faults told was looked said tells)

  pub claim_said : (IsBarred : Code → Type 0) (Claims : LaneView → LaneView → Result ℕ Unused → Type 0) (why : Unused) → Claims before.lane.cells.view mid.lane.cells.view (Err why)
      → TellsUnused why mid.lane after.lane was told said → after.claim ≡ None → ClaimSays IsBarred Claims before after was told said
  claim_said IsBarred Claims why claims tells unclaimed =
      ClaimSays.unclaimed idle why (subst (λ (l : Lane). Claims before.lane.cells.view l.view (Err why)) (sym still) claims)
      (unused_as before.lane mid.lane after.lane known faults told was why said tells) unclaimed

module _ (context key : ℕ) (before mid after : Seat) (known : mid.lane.known ≡ before.lane.known) (faults : mid.lane.faults ≡ before.lane.faults)
    (still : after.lane.cells ≡ mid.lane.cells) (idle : before.claim ≡ None) (was told : ExtValue) (said : Code) where
  pub remove_said : (result : Result (Option ℕ) Refusal) → Removes (store_of before) context key before.lane.cells mid.lane.cells result
      → TellsRemove context result mid.lane after.lane was told said → RemoveSays context key before after was told said
  remove_said result removes tells =
      RemoveSays.asked idle result (subst (λ (l : Lane). Removes (store_of before) context key before.lane.cells l result) (sym still) removes)
      (remove_as before.lane mid.lane after.lane known faults told was context result said tells)

pub put_said : (context key : ℕ) (handle : Handle) (before kept put after : Seat) (was told : ExtValue) (said : Code) (number : ℕ) (result : Result (Option ℕ) (ℕ × Refusal))
    → before.claim ≡ None → kept.store ≡ before.store → KeepsAs handle before.lane kept.lane number → Puts (store_of kept) context key number kept.lane.cells put.lane.cells result
    → put.lane.known ≡ kept.lane.known → put.lane.faults ≡ kept.lane.faults → after.lane.cells ≡ put.lane.cells
    → TellsPut context result put.lane after.lane was told said → PutSays context key handle before after was told said
put_said context key handle before kept put after was told said number result idle same keeps puts known faults still tells =
    PutSays.put idle number kept.lane result keeps
    (subst (λ (l : Lane). Puts (store_of before) context key number kept.lane.cells l result) (sym still)
    (subst (λ s. Puts (arc_value s) context key number kept.lane.cells put.lane.cells result) same puts))
    (put_as kept.lane put.lane after.lane known faults told was context result said tells)

-- a fault for whose text there was no memory: its claim was given up
pub fail_without_memory : (handle : ℕ) (before after : Seat) (was claim : ℕ) (said : Code) → before.claim ≡ Some claim → IsTrue (store_of before).id.cells.limits.keep_faults → before.lane.cells.cells ≡ (store_of before).id.cells
    → EndsClaim before.lane.cells after.lane.cells (Abandon claim) → said ≡ code.NoMemory → FailSays handle before after was was said
unfolding IsUnkept
fail_without_memory handle before after was claim said is keeps fits ends e =
    FailSays.unkept claim keep.Memory is keeps (subst (λ (id : CellsId). Calls id.limits before.lane.cells.view after.lane.cells.view (Abandon claim ∷ [])) fits ends.calls) tt refl e

-- ---- closing

-- a lane that has a claim closes nothing
pub claim_bars : (context places : ℕ) (seat : Seat) → is_some seat.claim ≡ true → NotClosing context places seat code.Claiming
claim_bars context places seat e = let own = of_some seat.claim e in NotClosing.claiming own.0 own.1

-- lists that are the same at one place and at all others
same_but : (xs ys : List (Option CloserView)) (at : ℕ) → length xs ≡ length ys → slice_index_or xs at None ≡ slice_index_or ys at None
    → ((k : ℕ) → k ≢ at → slice_index_or xs k None ≡ slice_index_or ys k None) → xs ≡ ys
same_but xs ys at e here others =
    ext_get_or None xs ys e (λ k _. elim (cases_eq k at) as (λ _. slice_index_or xs k None ≡ slice_index_or ys k None)
    [ inl is ↦ subst (λ (n : ℕ). slice_index_or xs n None ≡ slice_index_or ys n None) (sym is) here | inr ne ↦ others k ne ])

-- of the seat as it was before the closer was taken from it
module _ (context : ℕ) (before mid : Seat) (closer : CloserView) (was : List ExtValue) (asks : Asks context (length was) before closer) (same : mid.store ≡ before.store)
    (lane : mid.lane ≡ before.lane) where
  pub close_done : (after : Seat) (values : List ExtValue) (count : ℕ) → WritesClosed context (store_of mid) closer mid.lane after.lane was values count → LosesOnly context before after
      → CloseSays context before after was values count code.Done
  close_done after values count writes loses =
      CloseSays.closed closer asks
      (subst (λ s. WritesClosed context (arc_value s) closer before.lane after.lane was values count) same
      (subst (λ (l : StoreLane Handle). WritesClosed context (store_of mid) closer l after.lane was values count) lane writes))
      refl loses

  pub close_refused : (after : Seat) (asked : StoreLane Handle) (back : CloserView) (why : CloseFault) (said : Code) (values : List ExtValue) (count : ℕ)
      → IsRefusedFor (store_of mid) closer mid.lane asked why → back ≡ closer → values ≡ was → count ≡ 0
      → TellsRefused why asked after.lane said → after.lane.cells ≡ asked.cells → slice_index_or after.closers.items context None ≡ Some back → KeepsOthers context before after
      → length after.closers.items ≡ length before.closers.items → CloseSays context before after was values count said
  close_refused after asked back why said values count refused handed unwritten none tells still there others places =
      CloseSays.refused closer why asked asks
      (subst (λ s. IsRefusedFor (arc_value s) closer before.lane asked why) same (subst (λ (l : StoreLane Handle). IsRefusedFor (store_of mid) closer l asked why) lane refused)) tells still
      (same_but after.closers.items before.closers.items context places (there ∙ (ap (λ (c : CloserView). Some c) handed ∙ sym asks.has)) others) unwritten none

-- ---- through a slot

-- what a call says of the seat that was taken from the slot and given back to it
pub on_slot : (Keeps : Seat → Seat → Type 0) (Untold : Type 0) (Says : Seat → Seat → Code → Type 0) (before after : ExtSlot) (said : ℕ) (taken used now : Seat) (own : Code) → before.lane.seat ≡ Some taken
    → after.state ≡ 1 → after.lane.seat ≡ Some now → SeesLegal now → Keeps used now → used ≡ taken → said ≡ code_number own → Says used now own → OnSlot Keeps Untold Says before after said
on_slot Keeps Untold Says before after said taken used now own was lane is legal keeps e number says =
    OnSlot.on_lane used now own (was ∙ ap (λ (s : Seat). Some s) (sym e)) lane is legal keeps number says
