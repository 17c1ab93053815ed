-- What the contract of a call on a lane of a store says: its events, its fronts, and the histories at which one thread
-- would have given its answer.
-- The words are those of `Histories` in ext_history, with a call's events given as acts of its lane. A new call needs
-- only its reply, as a function of the history, and the acts that each answer means.
-- The second look before a value is computed stands here, too. JUnit computes a value only if neither the context nor
-- an ancestor has one (User Guide, "Keeping State in Extensions"; Javadoc `ExtensionContext.Store`,
-- `getOrComputeIfAbsent`). An ancestor may get a value between the first look-up and the claim, so the lane looks
-- again.
use Rattle.std.specs.Prelude.{ℕ, ◌≡◌, ◌⊎◌, List, [], ◌∷◌, ◌++◌, map, Option, Some, Contains}
use Rattle.ext_history.specs.Histories as histories
use Rattle.ext_model.specs.declared.event.Act.{Act}
use Rattle.ext_model.specs.declared.event.Event.{Event}
use Rattle.ext_model.specs.History.{History, by, lane_of, Limits, own, stored, state_after, reply_after, IsAllowed, slots_in}
use Rattle.ext_history.specs.Histories.{seen_by}
use Rattle.ext_model.specs.declared.event.Act.TheVariants.{Keep, Claim, Seal}
use Rattle.ext_model.specs.declared.slot.Slot.TheVariants as slot
use Rattle.ext_model.specs.Events as events
use Rattle.ext_model.specs.declared.look.Look.{Look}
use Rattle.ext_model.specs.State.{lookup}

-- A lane as contracts see it: its number and its fronts.
abbrev pub LaneView : Type 0
LaneView = histories.LaneView (Event ℕ)

abbrev pub events_by : ℕ → List (Act ℕ) → History
events_by lane acts = map (by lane) acts

-- A history at which the call may be answered, if the answer means these acts.
abbrev pub IsAnswerPoint : LaneView → LaneView → List (Act ℕ) → History → Type 0
IsAnswerPoint before after acts p = histories.IsAnswerPoint before after (events_by before.number acts) p

-- A point of the call at which the lane had made exactly these of the call's acts.
abbrev pub IsPointAfter : LaneView → LaneView → List (Act ℕ) → History → Type 0
IsPointAfter before after acts p = histories.IsPointAfter lane_of before after (events_by before.number acts) p

-- The call made the events of these acts and no others.
abbrev pub Calls : Limits → LaneView → LaneView → List (Act ℕ) → Type 0
Calls limits before after acts = histories.Calls lane_of before after (events_by before.number acts)

-- The call made these events, and `Fact` holds at a history where it may be answered.
abbrev pub HoldsAtPoint : Limits → LaneView → LaneView → List (Act ℕ) → (History → Type 0) → Type 0
HoldsAtPoint limits before after acts Fact =
    histories.HoldsAtPoint lane_of before after (events_by before.number acts) Fact

-- Other lanes made at least `tries` events after the call's first front, and this lane made none.
abbrev pub IsOvertaken : Limits → ℕ → LaneView → LaneView → Type 0
IsOvertaken limits tries before after = histories.IsOvertaken lane_of tries before after

-- Other lanes made at least `tries` events after the call's first front. The lane itself may have made some, too.
abbrev pub IsCrowded : ℕ → LaneView → LaneView → Type 0
IsCrowded tries before after = histories.IsCrowded lane_of tries before after

-- What a call's result means, as `histories.Answers` has it, by the acts of the lane.
abbrev pub Answers : {R : Type 0} → Limits → ℕ → R → LaneView → LaneView → (R → List (Act ℕ)) → (History → R) → R
    → Type 0
Answers limits tries contended before after acts_of reply_at result =
    histories.Answers lane_of tries contended before after (λ r. events_by before.number (acts_of r)) reply_at result

-- A legal history that extends what the lane has seen by events of other lanes alone.
abbrev pub GoesOn : Limits → LaneView → History → Type 0
GoesOn limits lane h = histories.GoesOn lane_of (IsAllowed limits) lane h

-- The cell is sealed and has kept this. The answer doesn't say whether this call sealed it or found it sealed.
abbrev pub Seals : Limits → ℕ → LaneView → LaneView → Option ℕ → Type 0
Seals limits cell before after kept =
    HoldsAtPoint limits before after (Seal cell ∷ [])
    (λ p. reply_after limits p before.number (Seal cell) ≡ events.Happens kept)
    ⊎ HoldsAtPoint limits before after [] (λ p. reply_after limits p before.number (Seal cell) ≡ events.Answers kept)

-- ---- conditions on a lane, by what it has seen

-- The lane holds a claim of the cell.
abbrev pub IsHeld : LaneView → ℕ → Type 0
IsHeld lane cell = (state_after (seen_by lane)).slots cell ≡ Some (slot.Claim lane.number)

-- In these events the lane drew the number, and nobody has stored it yet.
pub record MayStore (lane number : ℕ) (past : History) : Type 0 where
  pub drew : Contains past (by lane (Keep number))
  pub fresh : ¬ (Contains (stored past) number)

-- The lane has drawn the number and not stored it yet.
abbrev pub MayStoreNow : LaneView → ℕ → Type 0
MayStoreNow lane number = MayStore lane.number number (own lane.number (seen_by lane))

-- ---- look-ups, and the second one under a claim

-- What a look-up on the path answers after these events. `cell_of` gives the cell of each context under the key.
abbrev pub look_after : (ℕ → ℕ) → List ℕ → History → Look
look_after cell_of path h = lookup (slots_in cell_of h) path

-- After these events of the call, of which the claim is the last, and before the lane's next event, the look-up on the
-- path gives this. The path starts at the context's parent; for the root it is empty and the look-up always absent.
abbrev pub LooksAgain : (ℕ → ℕ) → List ℕ → LaneView → LaneView → List (Act ℕ) → Look → Type 0
LooksAgain cell_of path before after acts look = (p : History) × IsPointAfter before after acts p
    × (look_after cell_of path p ≡ look)

-- The same, read off one history: after the lane's claim and before its next event, the look-up gives this.
pub record LookedAgain (cell_of : ℕ → ℕ) (path : List ℕ) (lane cell : ℕ) (h : History) (look : Look) : Type 0 where
  pub earlier : History
  pub between : History
  pub later : History
  pub is : h ≡ earlier ++ by lane (Claim cell) ∷ (between ++ later)
  pub quiet : own lane between ≡ []
  pub looks : look_after cell_of path (earlier ++ by lane (Claim cell) ∷ between) ≡ look
