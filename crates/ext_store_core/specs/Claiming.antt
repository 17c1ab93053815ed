-- What the claim of a missing value promises: the first look-up, the claim, and the second look-up along the ancestors.
-- `CallActs` of ext_model has the words. `before` and `after` are the lane before and after the call. `first` are the
-- call's events before the part in question.
use Rattle.std.specs.Prelude.{ℕ, ◌≡◌, ◌+◌, ◌≤◌, ◌⊎◌, List, [], ◌∷◌, ◌++◌, map, Option, None, Some, Result, Ok, Err}
use mathlib.Core.List.{IsPrefix}
use Rattle.ext_model.specs.declared.event.Act.{Act}
use Rattle.ext_model.specs.declared.event.Act.TheVariants.{Claim, Abandon}
use Rattle.ext_model.specs.declared.look.Look.{Look}
use Rattle.ext_model.specs.declared.look.Look.TheVariants as look
use Rattle.ext_model.specs.Events as events
use Rattle.ext_model.specs.History.{History, Limits, by, reply_after, version_of}
use Rattle.ext_history.specs.Histories.{first_front, seen_by}
use Rattle.ext_model.specs.CallActs.{LaneView, IsPointAfter, Calls, HoldsAtPoint, IsOvertaken, IsCrowded, IsHeld, look_after, LooksAgain}
use Rattle.ext_tree.specs.Trees.{IsPathOf}
use Rattle.ext_cells.specs.Lanes.{Lane}
use Rattle.ext_cells.specs.CellCalls.{IsOvertakenOn}
use Rattle.ext_store_core.specs.declared.fault.Refusal.{Refusal}
use Rattle.ext_store_core.specs.declared.fault.Refusal.TheVariants as refusal
use Rattle.ext_store_core.specs.declared.claim.Unused.{Unused}
use Rattle.ext_store_core.specs.declared.claim.Unused.TheVariants.{Found, FaultStands, Refused}
use Rattle.ext_store_core.specs.ContextCalls.{ContextCells, cell_in}
use Rattle.ext_store_core.specs.InnerLooking.{LooksAt}

-- ---- one event of several

-- After its first events the lane makes this one, as one thread would there, with this answer.
pub record HappensAfter (limits : Limits) (first : List (Act ℕ)) (before after : LaneView) (act : Act ℕ)
    (answer : Option ℕ) : Type 0 where
  pub at : History
  pub point : IsPointAfter before after first at
  pub made : IsPointAfter before after (first ++ act ∷ []) (at ++ by before.number act ∷ [])
  pub replied : reply_after limits at before.number act ≡ events.Happens answer

-- ---- what stands there, or is in the way

-- At a point of the call, no earlier than its first step and before its events, the look-up on the path is absent.
pub record LooksFirst (cell_of : ℕ → ℕ) (path : List ℕ) (before after : LaneView) : Type 0 where
  pub at : History
  pub stepped : IsPrefix (first_front before after) at
  pub point : IsPointAfter before after [] at
  pub missing : look_after cell_of path at ≡ look.Absent

-- The look-up from the context is absent at a point of the call, and after that the lane claims the context's cell.
pub record Claims (limits : Limits) (store : ContextCells) (context : ℕ) (ancestors : List ℕ) (key : ℕ)
    (before after : LaneView) : Type 0 where
  pub looked_first : LooksFirst (cell_in store key) (context ∷ ancestors) before after
  pub claimed : HappensAfter limits [] before after (Claim (cell_in store key context)) None

-- The lane claims the cell, and then, before its next event, the look-up along the ancestors gives this.
pub record ClaimsAndLooks (limits : Limits) (store : ContextCells) (context : ℕ) (ancestors : List ℕ) (key : ℕ)
    (before after : LaneView) (look : Look) : Type 0 where
  pub claims : Claims limits store context ancestors key before after
  pub looked : LooksAgain (cell_in store key) ancestors before after (Claim (cell_in store key context) ∷ []) look

-- The events of a claim that is given up.
abbrev pub given_up_events : ContextCells → ℕ → ℕ → List (Act ℕ)
given_up_events store context key = Claim (cell_in store key context) ∷ Abandon (cell_in store key context) ∷ []

-- The look-up from the context meets this at a point of the call, which made no event. Or the look-up from the parent
-- meets it while the lane's claim stands, and the lane gives the claim up.
unfoldable pub Meets : Limits → ContextCells → ℕ → List ℕ → ℕ → LaneView → LaneView → Look → Type 0
Meets limits store context ancestors key before after met =
    HoldsAtPoint limits before after [] (λ p. look_after (cell_in store key) (context ∷ ancestors) p ≡ met)
    ⊎ (Calls limits before after (given_up_events store context key)
    × ClaimsAndLooks limits store context ancestors key before after met)

-- At least `tries` events after the call's first front were on the key's cells on the path.
abbrev pub IsCrowdedAlong : ContextCells → List ℕ → ℕ → LaneView → LaneView → Type 0
IsCrowdedAlong store path key before after = IsOvertakenOn store.tries (map (cell_in store key) path) before after

-- The claim would happen directly after what the lane has seen last, and at least `tries` events after the call's first
-- front were on its cell.
pub record ClaimComesLast (limits : Limits) (tries cell : ℕ) (before after : LaneView) : Type 0 where
  pub would_happen : (answer : Option ℕ)
      × (reply_after limits (seen_by after) before.number (Claim cell) ≡ events.Happens answer)
  pub own_cell : version_of (first_front before after) cell + tries ≤ version_of (seen_by after) cell

-- Other lanes were in the way of a call that made no event, and at one of two places: on the path, during the first
-- look-up; or at the context's cell, after the first look-up was absent.
pub record IsOvertakenThere (limits : Limits) (store : ContextCells) (context : ℕ) (ancestors : List ℕ) (key : ℕ)
    (before after : LaneView) : Type 0 where
  pub calls : Calls limits before after []
  pub passed : IsCrowded store.tries before after
  pub there :
      IsCrowdedAlong store (context ∷ ancestors) key before after
      ⊎ (LooksFirst (cell_in store key) (context ∷ ancestors) before after
      × ClaimComesLast limits store.tries (cell_in store key context) before after)

-- What each refusal means.
unfoldable pub IsRefused : Limits → ContextCells → ℕ → List ℕ → ℕ → LaneView → LaneView → Refusal → Type 0
IsRefused limits store context ancestors key before after (refusal.Busy at) =
    Meets limits store context ancestors key before after (look.Busy at)
IsRefused limits store context ancestors key before after (refusal.Closed at) =
    Meets limits store context ancestors key before after (look.Closed at)
IsRefused limits store context ancestors key before after refusal.Contended =
    IsOvertakenThere limits store context ancestors key before after
    ⊎ (Calls limits before after (given_up_events store context key)
    × Claims limits store context ancestors key before after × IsCrowded store.tries before after
    × IsCrowdedAlong store ancestors key before after)
IsRefused limits store context ancestors key before after refusal.DirectoryFull = ⊥
IsRefused limits store context ancestors key before after refusal.Unplaced = ⊥
IsRefused limits store context ancestors key before after refusal.Memory = ⊥
IsRefused limits store context ancestors key before after refusal.Exhausted =
    HoldsAtPoint limits before after []
    (λ p. reply_after limits p before.number (Claim (cell_in store key context)) ≡ events.Refuses events.Exhausted)
    × LooksFirst (cell_in store key) (context ∷ ancestors) before after

-- ---- the parts of a claim

-- Why no factory is called after a look-up with this answer; `None` if one is.
abbrev pub unused_of : Result Look Refusal → Option Unused
unused_of (Ok look.Absent) = None
unused_of (Ok (look.Found at number)) = Some (Found at number)
unused_of (Ok (look.Fault at number)) = Some (FaultStands at number)
unused_of (Ok (look.Busy at)) = Some (Refused (refusal.Busy at))
unused_of (Ok (look.Closed at)) = Some (Refused (refusal.Closed at))
unused_of (Err why) = Some (Refused why)

-- What the look-up along the path met at a point of a call without events: nothing, or this; or other lanes were in the
-- way.
abbrev pub Stands : ContextCells → List ℕ → ℕ → Lane → Lane → Option Unused → Type 0
Stands store path key before after None = LooksAt store path key before after look.Absent
Stands store path key before after (Some (Found at number)) = LooksAt store path key before after (look.Found at number)
Stands store path key before after (Some (FaultStands at number)) =
    LooksAt store path key before after (look.Fault at number)
Stands store path key before after (Some (Refused (refusal.Busy at))) =
    LooksAt store path key before after (look.Busy at)
Stands store path key before after (Some (Refused (refusal.Closed at))) =
    LooksAt store path key before after (look.Closed at)
Stands store path key before after (Some (Refused refusal.Contended)) =
    IsOvertaken before.cells.limits store.tries before.view after.view
    × IsCrowdedAlong store path key before.view after.view
Stands store path key before after (Some (Refused refusal.DirectoryFull)) = ⊥
Stands store path key before after (Some (Refused refusal.Unplaced)) = ⊥
Stands store path key before after (Some (Refused refusal.Memory)) = ⊥
Stands store path key before after (Some (Refused refusal.Exhausted)) = ⊥

-- The lane holds a claim under which the look-up from the parent is absent, or this is why it does not.
abbrev pub ClaimsFrom : ContextCells → ℕ → List ℕ → ℕ → LaneView → LaneView → Result ℕ Unused → Type 0
ClaimsFrom store context ancestors key before after (Ok claim) =
    (claim ≡ cell_in store key context) × IsHeld after claim
    × Calls store.cells.limits before after (Claim (cell_in store key context) ∷ [])
    × ClaimsAndLooks store.cells.limits store context ancestors key before after look.Absent
ClaimsFrom store context ancestors key before after (Err (Found at number)) =
    Meets store.cells.limits store context ancestors key before after (look.Found at number)
ClaimsFrom store context ancestors key before after (Err (FaultStands at number)) =
    Meets store.cells.limits store context ancestors key before after (look.Fault at number)
ClaimsFrom store context ancestors key before after (Err (Refused why)) =
    IsRefused store.cells.limits store context ancestors key before after why

-- The same along a path: the context that it begins with, and its ancestors.
abbrev pub ClaimsAlong : ContextCells → List ℕ → ℕ → LaneView → LaneView → Result ℕ Unused → Type 0
ClaimsAlong store [] key before after result = ⊥
ClaimsAlong store (context ∷ ancestors) key before after result =
    ClaimsFrom store context ancestors key before after result

-- The same for the path of the context.
abbrev pub ClaimsMissing : ContextCells → ℕ → ℕ → LaneView → LaneView → Result ℕ Unused → Type 0
ClaimsMissing store context key before after result = (ancestors : List ℕ)
    × IsPathOf store.tree context (context ∷ ancestors) × ClaimsFrom store context ancestors key before after result
