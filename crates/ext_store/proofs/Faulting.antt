-- What the keeping of a fault says, by what was drawn and what became of it, and that a store that keeps no faults meets none.
use Rattle.std.proofs.Common.{◌≡◌, ◌≢◌, ℕ, List, [], ◌∷◌, sym, refl, ap, ◌∙◌, subst, inl, inr}
use Rattle.std.specs.Prelude.{Result, Ok, Err, IfErr, IfOk, MatchResult, IsFalse}
use Rattle.ext_model.specs.declared.event.Act.{Act}
use Rattle.ext_model.specs.declared.event.Act.TheVariants.{Keep}
use Rattle.ext_model.specs.declared.look.Fault.{Fault}
use Rattle.ext_model.specs.declared.look.Look.TheVariants as look
use Rattle.ext_model.specs.History.{IsLegal}
use Rattle.ext_history.specs.Histories.{seen_by}
use Rattle.ext_model.specs.CallActs.{LaneView, Calls, IsHeld, MayStoreNow}
use Rattle.ext_history.proofs.Legal.{legal_begun}
use Rattle.ext_history.proofs.Composed.{answer_point, point_legal}
use Rattle.ext_tree.proofs.KeyPlacing.{keeps_all}
use Rattle.ext_values.specs.Known.{Known, KeepsKnown, LearnsOne, known_at, slots_of}
use Rattle.ext_cells.specs.declared.refusal.CellRefusal.{CellRefusal}
use Rattle.ext_cells.specs.Lanes.{CellsId, Lane}
use Rattle.ext_cells.specs.CellCalls as cells
use Rattle.ext_store_core.specs.declared.claim.Unused.{Unused}
use Rattle.ext_store_core.specs.declared.claim.Unused.TheVariants.{Found, FaultStands, Refused}
use Rattle.ext_store_core.specs.ContextCalls.{ContextCells, cell_in}
use Rattle.ext_store_core.specs.Claiming.{ClaimsFrom, Meets}
use Rattle.ext_store_core.proofs.Events.{drew_quiet}
use Rattle.ext_store_core.proofs.Faultless.{none_met}
use Rattle.ext_store.specs.declared.fault.KeepFault.{KeepFault}
use Rattle.ext_store.specs.declared.fault.KeepFault.TheVariants.{Memory, Unplaced}
use Rattle.ext_store.specs.declared.computed.Compute.{Compute}
use Rattle.ext_store.specs.Stores.{StoreView, StoreLane, IsKeptBy, IsLaneOf, StillKeeps, context_cells}
use Rattle.ext_store.specs.LaneCalls.{Frame, KeepFails, KeepsFault, KeepsNoFault, KnowsUnkept}
use Rattle.ext_store.specs.Computing.{ClaimsAlong, ClaimsMissing, IsFaultless, IsFaultlessUnused, with_factory}
use Rattle.ext_store.specs.InnerKeeping.{keep_fault, IsInSlot, SlotsDrawn}
use Rattle.ext_store.proofs.Keeping.{quiet_keeps, unplaced_keeps, drew, drew_none}
use Rattle.ext_store.proofs.NewDraws.{drawn_apart, draws_new, knows_undrawn}
use Rattle.ext_store.proofs.Frames.{framed, no_frame}

-- ---- keeping a fault

pub record FaultParts {V : Type 0} (store : StoreView) (why : Fault) (before after : StoreLane V) (r : Result ℕ (Fault × KeepFault)) : Type 0 where
  pub answer : MatchResult r (KeepsFault why before after) (λ e. KeepsNoFault store why before after e.0 e.1)
  pub known : after.known ≡ before.known
  pub apart : IfOk r (λ number. (m : ℕ) → IsKeptBy before m → m ≢ number)
  pub frame : Frame store.id [] before after

-- where there is no memory for the fault
pub no_fault_memory : {V : Type 0} (store : StoreView) (why back : Fault) (lane : StoreLane V) → IsLaneOf store.id lane → back ≡ why → FaultParts store why lane lane (Err (back, Memory))
unfolding KeepFails
no_fault_memory store why back lane mine handed = record {
  answer = record { handed_back = handed; faults = refl; fails = refl };
  known = refl;
  apart = tt;
  frame = no_frame store.id lane mine;
}

module _ {V : Type 0} (store : StoreView) (tries : ℕ) (same : tries ≡ store.tries) (why : Fault) (a : StoreLane V) (mine : IsLaneOf store.id a) (after : Lane) (is : after.cells ≡ a.cells.cells) (lawful : IsLegal a.cells.cells.limits (seen_by after.view)) (notes : List (Known Fault)) where
  abbrev b : StoreLane V
  b = record { cells = after; known = a.known; faults = notes; keys = a.keys }

  own_lane : slots_of notes ≡ slots_of a.faults → IsLaneOf store.id b
  own_lane slots = record { cells = is ∙ mine.cells; slots = mine.slots; fault_slots = slots ∙ mine.fault_slots; keys = mine.keys }

  placed : (number : ℕ) → cells.Answers tries a.cells after cells.number_acts (cells.number_reply a.cells) (Ok number) → MayStoreNow after.view number → IsInSlot why a.faults notes number → FaultParts store why a b (Ok number)
  placed number answers storable is_in_slot =
      let drawn = drew store tries a.cells after same number answers in
      record {
        answer = record { drawn = drawn; learnt = is_in_slot.learnt; storable = storable };
        known = refl;
        apart = λ m kept. drawn_apart a.cells after number m lawful drawn kept.storable;
        frame = framed store.id a b mine (own_lane is_in_slot.learnt.slots) (λ n v known. known) is_in_slot.known (keeps_all a.keys) (Keep number ∷ []) drawn.calls (unplaced_keeps a.cells.cells.limits a b number drawn.calls refl);
      }

  module _ (back : Fault) (handed : back ≡ why) where
    nothing : (acts : List (Act ℕ)) → Calls a.cells.cells.limits a.cells.view after.view acts → StillKeeps a b → slots_of notes ≡ slots_of a.faults → KeepsKnown a.faults notes → (cause : KeepFault) → KeepFails store a.cells after cause
        → KnowsUnkept a.cells.view after.view a.faults notes cause → FaultParts store why a b (Err (back, cause))
    nothing acts calls keeps slots knows cause fails learnt = record {
      answer = record { handed_back = handed; faults = learnt; fails = fails };
      known = refl;
      apart = tt;
      frame = framed store.id a b mine (own_lane slots) (λ n v known. known) knows (keeps_all a.keys) acts calls keeps;
    }

    unplaced : (number : ℕ) → cells.Answers tries a.cells after cells.number_acts (cells.number_reply a.cells) (Ok number) → LearnsOne a.faults notes number → KeepsKnown a.faults notes → FaultParts store why a b (Err (back, Unplaced))
    unfolding KeepFails
    unplaced number answers stands knows =
        let drawn = drew store tries a.cells after same number answers in
        nothing (Keep number ∷ []) drawn.calls (unplaced_keeps a.cells.cells.limits a b number drawn.calls refl) stands.1.slots knows Unplaced (number, drawn) (number, draws_new a.cells after number lawful drawn, stands)

    undrawn : (cause : CellRefusal) → cells.Answers tries a.cells after cells.number_acts (cells.number_reply a.cells) (Err cause) → notes ≡ a.faults → FaultParts store why a b (Err (back, keep_fault cause))
    undrawn cause answers still =
        let quiet = drew_quiet tries a.cells after cause answers in
        nothing [] quiet (quiet_keeps a.cells.cells.limits a b quiet refl) (ap (λ l. slots_of l) still) (λ number v known. ap (λ l. known_at l number) still ∙ known) (keep_fault cause) (drew_none store tries a.cells after same cause answers)
        (knows_undrawn a.cells after a.faults notes cause still)

  by_drawn : (drawn : Result ℕ CellRefusal) → cells.Answers tries a.cells after cells.number_acts (cells.number_reply a.cells) drawn → IfOk drawn (MayStoreNow after.view)
      → (r : Result ℕ (Fault × KeepFault)) → SlotsDrawn why drawn a.faults notes r → FaultParts store why a b r
  by_drawn (Ok n) answers storable (Ok number) p =
      let e : n ≡ number = cc p.0 in
      placed number (subst (λ k. cells.Answers tries a.cells after cells.number_acts (cells.number_reply a.cells) (Ok k)) e answers) (subst (MayStoreNow after.view) e storable) p.1
  by_drawn (Err cause) answers storable (Ok number) p = absurd (cc p.0)
  by_drawn (Ok n) answers storable (Err (back, cause)) p = subst (λ w. FaultParts store why a b (Err (back, w))) (sym p.1.0) (unplaced back p.0 n answers p.1.1 p.1.2)
  by_drawn (Err refused) answers storable (Err (back, cause)) p = subst (λ w. FaultParts store why a b (Err (back, w))) (sym p.1.0) (undrawn back p.0 refused answers p.1.1)

-- the same for a lane as the caller has it
pub fault_by_drawn : {V : Type 0} (store : StoreView) (tries : ℕ) → tries ≡ store.tries → (why : Fault) (inside before : StoreLane V) → inside ≡ before → IsLaneOf store.id before
    → (after : Lane) → after.cells ≡ inside.cells.cells → IsLegal after.cells.limits (seen_by after.view) → (notes : List (Known Fault)) (drawn : Result ℕ CellRefusal)
    → cells.Answers tries inside.cells after cells.number_acts (cells.number_reply inside.cells) drawn → IfOk drawn (MayStoreNow after.view)
    → (r : Result ℕ (Fault × KeepFault)) → SlotsDrawn why drawn inside.faults notes r → FaultParts store why before (record { cells = after; known = inside.known; faults = notes; keys = inside.keys }) r
fault_by_drawn store tries same why inside before is mine after cells legal notes drawn answers storable r p =
    subst (λ l. FaultParts store why l (record { cells = after; known = inside.known; faults = notes; keys = inside.keys }) r) is
    (by_drawn store tries same why inside (subst (IsLaneOf store.id) (sym is) mine) after cells (subst (λ (z : CellsId). IsLegal z.limits (seen_by after.view)) cells legal) notes drawn answers storable r p)

-- ---- a store that keeps no faults

-- no fault is the reason why a factory is not called
meets_none : (store : ContextCells) (context : ℕ) (ancestors : List ℕ) (key : ℕ) (a b : LaneView) (at number : ℕ) → IsLegal store.cells.limits (seen_by b) → IsFalse store.cells.limits.keep_faults → Meets store.cells.limits store context ancestors key a b (look.Fault at number) → ⊥
unfolding Meets
meets_none store context ancestors key a b at number lawful off m = elim m [
  | inl h ↦ none_met store.cells.limits h.point.0 (cell_in store key) (context ∷ ancestors) at number off (point_legal lawful h.point.0 (answer_point h.calls h.point.0 h.point.1)) h.point.2
  | inr k ↦ none_met store.cells.limits k.1.looked.0 (cell_in store key) ancestors at number off (legal_begun k.1.looked.0 (seen_by b) k.1.looked.1.until lawful) k.1.looked.2
]

pub none_stands : (store : ContextCells) (context : ℕ) (ancestors : List ℕ) (key : ℕ) (a b : LaneView) (unused : Unused) → IsLegal store.cells.limits (seen_by b) → ClaimsFrom store context ancestors key a b (Err unused) → IsFalse store.cells.limits.keep_faults → IsFaultlessUnused unused
none_stands store context ancestors key a b (Found at number) lawful m off = tt
none_stands store context ancestors key a b (FaultStands at number) lawful m off = meets_none store context ancestors key a b at number lawful off m
none_stands store context ancestors key a b (Refused why) lawful m off = tt

-- so a factory that comes back does not come back for one
pub handed_faultless : {V F : Type 0} (factory : F) (unused : Unused) (r : Compute V F) → r ≡ with_factory factory unused → IsFaultlessUnused unused → IsFaultless r
handed_faultless {V} {F} factory unused r is none = subst IsFaultless (sym is) (faultless unused none)
  where
    faultless : (u : Unused) → IsFaultlessUnused u → IsFaultless (with_factory {V = V} {F = F} factory u)
    faultless (Found at number) n = tt
    faultless (FaultStands at number) n = n
    faultless (Refused why) n = tt

-- ---- what a begun compute says, whether the claim is won or not

pub along_held : (store : StoreView) (path : List ℕ) (key : ℕ) (a b : LaneView) (r : Result ℕ Unused) → ClaimsAlong store path key a b r → IfOk r (IsHeld b)
along_held store [] key a b r m = absurd m
along_held store (context ∷ rest) key a b (Ok claim) m = m.1
along_held store (context ∷ rest) key a b (Err unused) m = tt

pub along_faultless : (store : StoreView) (path : List ℕ) (key : ℕ) (a b : LaneView) (r : Result ℕ Unused) → IsLegal store.id.cells.limits (seen_by b) → ClaimsAlong store path key a b r → IsFalse store.id.cells.limits.keep_faults → IfErr r IsFaultlessUnused
along_faultless store [] key a b r lawful m off = absurd m
along_faultless store (context ∷ rest) key a b (Ok claim) lawful m off = tt
along_faultless store (context ∷ rest) key a b (Err unused) lawful m off = none_stands (context_cells store) context rest key a b unused lawful m off

pub begun_held : (store : StoreView) (context key : ℕ) (a b : LaneView) (r : Result ℕ Unused) → ClaimsMissing store context key a b r → IfOk r (IsHeld b)
begun_held store context key a b r m = along_held store (context ∷ m.0) key a b r m.2

pub begun_faultless : (store : StoreView) (context key : ℕ) (a b : LaneView) (r : Result ℕ Unused) → IsLegal store.id.cells.limits (seen_by b) → ClaimsMissing store context key a b r → IsFalse store.id.cells.limits.keep_faults → IfErr r IsFaultlessUnused
begun_faultless store context key a b r lawful m off = along_faultless store (context ∷ m.0) key a b r lawful m.2 off
