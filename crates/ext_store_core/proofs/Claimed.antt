-- Which events the claim of a missing value made: none of them stores a number.
use Rattle.std.proofs.Common.{◌≡◌, ℕ, List, [], ◌∷◌, refl, inl, inr}
use Rattle.std.specs.Prelude.{None, Result, Ok, Err, All}
use Rattle.std.proofs.lemmas.List.Elements.{All-nil, All-cons}
use Rattle.ext_model.specs.declared.event.Act.{Act}
use Rattle.ext_model.specs.declared.event.Act.TheVariants.{Claim, Abandon}
use Rattle.ext_model.specs.declared.look.Look.{Look}
use Rattle.ext_model.specs.declared.look.Look.TheVariants as look
use Rattle.ext_model.specs.History.{Limits, stored_number}
use Rattle.ext_model.specs.CallActs.{LaneView, Calls}
use Rattle.ext_store_core.specs.declared.fault.Refusal.TheVariants as refusal
use Rattle.ext_store_core.specs.declared.claim.Unused.{Unused}
use Rattle.ext_store_core.specs.declared.claim.Unused.TheVariants.{Found, FaultStands, Refused}
use Rattle.ext_store_core.specs.ContextCalls.{ContextCells, cell_in}
use Rattle.ext_store_core.specs.Claiming.{given_up_events, Meets, IsRefused, ClaimsFrom}

-- acts that store no number
abbrev pub StoresNone : Act ℕ → Type 0
StoresNone act = stored_number act ≡ None

pub none_stored : All StoresNone []
none_stored = All-nil StoresNone

pub nor_this : (act : Act ℕ) (acts : List (Act ℕ)) → StoresNone act → All StoresNone acts → All StoresNone (act ∷ acts)
nor_this act acts = All-cons StoresNone act acts

-- the events of a claim, or of one that was given up, or of none
abbrev pub StoringNone : Limits → LaneView → LaneView → Type 0
StoringNone limits a b = (acts : List (Act ℕ)) × All StoresNone acts × Calls limits a b acts

module _ (store : ContextCells) (context : ℕ) (ancestors : List ℕ) (key : ℕ) (a b : LaneView) where
  quiet_acts : Calls store.cells.limits a b [] → StoringNone store.cells.limits a b
  quiet_acts one = ([], none_stored, one)

  given_up_acts : Calls store.cells.limits a b (given_up_events store context key) → StoringNone store.cells.limits a b
  given_up_acts one = (given_up_events store context key, nor_this (Claim (cell_in store key context)) (Abandon (cell_in store key context) ∷ []) refl (nor_this (Abandon (cell_in store key context)) [] refl none_stored), one)

  meets_acts : (met : Look) → Meets store.cells.limits store context ancestors key a b met → StoringNone store.cells.limits a b
  unfolding Meets
  meets_acts met m = elim m [
    | inl h ↦ quiet_acts h.calls
    | inr k ↦ given_up_acts k.0
  ]

  pub claim_acts : (r : Result ℕ Unused) → ClaimsFrom store context ancestors key a b r → StoringNone store.cells.limits a b
  unfolding IsRefused
  claim_acts (Ok claim) m = (Claim (cell_in store key context) ∷ [], nor_this (Claim (cell_in store key context)) [] refl none_stored, m.2)
  claim_acts (Err (Found at number)) m = meets_acts (look.Found at number) m
  claim_acts (Err (FaultStands at number)) m = meets_acts (look.Fault at number) m
  claim_acts (Err (Refused (refusal.Busy at))) m = meets_acts (look.Busy at) m
  claim_acts (Err (Refused (refusal.Closed at))) m = meets_acts (look.Closed at) m
  claim_acts (Err (Refused refusal.Contended)) m = elim m [
    | inl over ↦ quiet_acts over.calls
    | inr k ↦ given_up_acts k.0
  ]
  claim_acts (Err (Refused refusal.DirectoryFull)) m = absurd m
  claim_acts (Err (Refused refusal.Unplaced)) m = absurd m
  claim_acts (Err (Refused refusal.Memory)) m = absurd m
  claim_acts (Err (Refused refusal.Exhausted)) m = quiet_acts m.0.calls
