-- What all clauses of `keep` and of `keep_wait` say together, by what was drawn and what became of it.
use Rattle.std.proofs.Common.{◌≡◌, ◌≢◌, ◌≤◌, arith, length, ℕ, List, [], ◌∷◌, sym, refl, ap, ◌∙◌, subst}
use Rattle.std.specs.Prelude.{Result, Ok, Err, IfOk, IfErr, MatchResult}
use Rattle.ext_model.specs.declared.event.Act.{Act}
use Rattle.ext_model.specs.declared.event.Act.TheVariants.{Keep}
use Rattle.ext_history.specs.Histories.{seen_by}
use Rattle.ext_model.specs.History.{IsLegal}
use Rattle.ext_model.specs.CallActs.{Calls, MayStoreNow}
use Rattle.ext_tree.proofs.KeyPlacing.{keeps_all}
use Rattle.ext_values.specs.Slots.{IsNumber}
use Rattle.ext_values.specs.Known.{Known, KeepsKnown, LearnsOne, known_at, slots_of}
use Rattle.ext_cells.specs.declared.refusal.CellRefusal.{CellRefusal}
use Rattle.ext_cells.specs.declared.refusal.CellRefusal.TheVariants as cell
use Rattle.ext_cells.specs.Lanes.{CellsId, Lane}
use Rattle.ext_cells.specs.CellCalls as cells
use Rattle.ext_store.specs.declared.fault.KeepFault.{KeepFault}
use Rattle.ext_store.specs.declared.fault.KeepFault.TheVariants.{Memory, Unplaced}
use Rattle.ext_store.specs.Stores.{StoreView, StoreLane, IsKeptBy, IsLaneOf, StillKeeps}
use Rattle.ext_store.specs.LaneCalls.{Frame, KeepFails, KeepsAs, KeepsNothing, KnowsUnkept}
use Rattle.ext_store.specs.Waiting.{IsDecidedFault}
use Rattle.ext_store.specs.InnerKeeping.{IsOfCount, keep_fault, IsInSlot, SlotsDrawn}
use Rattle.ext_store.proofs.Keeping.{quiet_keeps, found_keeps, learnt_keeps, drew, drew_number, drew_none, not_both}
use Rattle.ext_store.proofs.NewDraws.{drawn_apart, draws_new, knows_undrawn}
use Rattle.ext_store_core.proofs.Events.{drew_quiet}
use Rattle.ext_store.proofs.Frames.{framed, no_frame}
use Rattle.ext_store.proofs.Refused.{draw_refusal}

pub record KeepParts {V : Type 0} (store : StoreView) (value : V) (before after : StoreLane V) (r : Result ℕ (V × KeepFault)) : Type 0 where
  pub answer : MatchResult r (KeepsAs value before after) (λ e. KeepsNothing store value before after e.0 e.1)
  pub lane : IsLaneOf store.id after
  pub known : KeepsKnown before.known after.known
  pub faults : after.faults ≡ before.faults
  pub kept : StillKeeps before after
  pub apart : IfOk r (λ number. (m : ℕ) → IsKeptBy before m → m ≢ number)
  pub frame : Frame store.id [] before after

-- where there is no memory for the value
pub no_memory : {V : Type 0} (store : StoreView) (value back : V) (lane : StoreLane V) → IsLaneOf store.id lane → back ≡ value → KeepParts store value lane lane (Err (back, Memory))
unfolding KeepFails
no_memory store value back lane mine handed = record {
  answer = record { handed_back = handed; known = refl; fails = refl };
  lane = mine;
  known = λ number v known. known;
  faults = refl;
  kept = λ number kept. kept;
  apart = tt;
  frame = no_frame store.id lane mine;
}

module _ {V : Type 0} (store : StoreView) (tries : ℕ) (same : tries ≡ store.tries) (value : V) (a : StoreLane V) (mine : IsLaneOf store.id a) (after : Lane) (is : after.cells ≡ a.cells.cells) (lawful : IsLegal a.cells.cells.limits (seen_by after.view)) (notes : List (Known V)) where
  abbrev b : StoreLane V
  b = record { cells = after; known = notes; faults = a.faults; keys = a.keys }

  own : slots_of notes ≡ slots_of a.known → IsLaneOf store.id b
  own slots = record { cells = is ∙ mine.cells; slots = slots ∙ mine.slots; fault_slots = mine.fault_slots; keys = mine.keys }

  placed : (number : ℕ) → cells.Answers tries a.cells after cells.number_acts (cells.number_reply a.cells) (Ok number) → MayStoreNow after.view number → IsInSlot value a.known notes number → KeepParts store value a b (Ok number)
  placed number answers storable is_in_slot =
      let drawn = drew store tries a.cells after same number answers in
      let mine_still = own is_in_slot.learnt.slots in
      let keeps = learnt_keeps a.cells.cells.limits a b number value drawn.calls is_in_slot.learnt is_in_slot.free in
      record {
        answer = record { drawn = drawn; learnt = is_in_slot.learnt; kept = record { storable = storable; value = value; known = is_in_slot.learnt.learnt } };
        lane = mine_still;
        known = is_in_slot.known;
        faults = refl;
        kept = keeps;
        apart = λ m kept at. not_both _ kept.value (ap (λ n. known_at a.known n) (sym at) ∙ kept.known) is_in_slot.free;
        frame = framed store.id a b mine mine_still is_in_slot.known (λ number v known. known) (keeps_all a.keys) (Keep number ∷ []) drawn.calls keeps;
      }

  module _ (back : V) (handed : back ≡ value) where
    nothing : (acts : List (Act ℕ)) → Calls a.cells.cells.limits a.cells.view after.view acts → StillKeeps a b → slots_of notes ≡ slots_of a.known → KeepsKnown a.known notes → (why : KeepFault) → KeepFails store a.cells after why
        → KnowsUnkept a.cells.view after.view a.known notes why → KeepParts store value a b (Err (back, why))
    nothing acts calls keeps slots knows why fails learnt =
        let mine_still = own slots in
        record {
          answer = record { handed_back = handed; known = learnt; fails = fails };
          lane = mine_still;
          known = knows;
          faults = refl;
          kept = keeps;
          apart = tt;
          frame = framed store.id a b mine mine_still knows (λ number v known. known) (keeps_all a.keys) acts calls keeps;
        }

    unplaced : (number : ℕ) → cells.Answers tries a.cells after cells.number_acts (cells.number_reply a.cells) (Ok number) → LearnsOne a.known notes number → KeepsKnown a.known notes → KeepParts store value a b (Err (back, Unplaced))
    unfolding KeepFails
    unplaced number answers stands knows =
        let drawn = drew store tries a.cells after same number answers in
        let keeps = found_keeps a.cells.cells.limits a b number stands.0 drawn.calls stands.1 (λ m kept. drawn_apart a.cells after number m lawful drawn kept.storable) in
        nothing (Keep number ∷ []) drawn.calls keeps stands.1.slots knows Unplaced (number, drawn) (number, draws_new a.cells after number lawful drawn, stands)

    undrawn : (why : CellRefusal) → cells.Answers tries a.cells after cells.number_acts (cells.number_reply a.cells) (Err why) → notes ≡ a.known → KeepParts store value a b (Err (back, keep_fault why))
    undrawn why answers still =
        let quiet = drew_quiet tries a.cells after why answers in
        nothing [] quiet (quiet_keeps a.cells.cells.limits a b quiet still) (ap (λ l. slots_of l) still) (λ number v known. ap (λ l. known_at l number) still ∙ known) (keep_fault why) (drew_none store tries a.cells after same why answers)
        (knows_undrawn a.cells after a.known notes why still)

  by_drawn : (drawn : Result ℕ CellRefusal) → cells.Answers tries a.cells after cells.number_acts (cells.number_reply a.cells) drawn → IfOk drawn (MayStoreNow after.view)
      → (r : Result ℕ (V × KeepFault)) → SlotsDrawn value drawn a.known notes r → KeepParts store value a b r
  by_drawn (Ok n) answers storable (Ok number) p =
      let e : n ≡ number = cc p.0 in
      placed number (subst (λ k. cells.Answers tries a.cells after cells.number_acts (cells.number_reply a.cells) (Ok k)) e answers) (subst (MayStoreNow after.view) e storable) p.1
  by_drawn (Err why) answers storable (Ok number) p = absurd (cc p.0)
  by_drawn (Ok n) answers storable (Err (back, why)) p = subst (λ w. KeepParts store value a b (Err (back, w))) (sym p.1.0) (unplaced back p.0 n answers p.1.1 p.1.2)
  by_drawn (Err refused) answers storable (Err (back, why)) p = subst (λ w. KeepParts store value a b (Err (back, w))) (sym p.1.0) (undrawn back p.0 refused answers p.1.1)

-- the same for a lane as the caller has it
pub kept_by_drawn : {V : Type 0} (store : StoreView) (tries : ℕ) → tries ≡ store.tries → (value : V) (inside before : StoreLane V) → inside ≡ before → IsLaneOf store.id before
    → (after : Lane) → after.cells ≡ inside.cells.cells → IsLegal after.cells.limits (seen_by after.view) → (notes : List (Known V)) (drawn : Result ℕ CellRefusal)
    → cells.Answers tries inside.cells after cells.number_acts (cells.number_reply inside.cells) drawn → IfOk drawn (MayStoreNow after.view)
    → (r : Result ℕ (V × KeepFault)) → SlotsDrawn value drawn inside.known notes r → KeepParts store value before (record { cells = after; known = notes; faults = inside.faults; keys = inside.keys }) r
kept_by_drawn store tries same value inside before is mine after cells legal notes drawn answers storable r p =
    subst (λ l. KeepParts store value l (record { cells = after; known = notes; faults = inside.faults; keys = inside.keys }) r) is
    (by_drawn store tries same value inside (subst (IsLaneOf store.id) (sym is) mine) after cells (subst (λ (z : CellsId). IsLegal z.limits (seen_by after.view)) cells legal) notes drawn answers storable r p)

-- what the drawing of a number says is what the placing of it asks for
pub drawn_fits : (store : StoreView) (tries : ℕ) → tries ≡ store.tries → (before after : Lane) (drawn : Result ℕ CellRefusal) → cells.Answers tries before after cells.number_acts (cells.number_reply before) drawn
    → (slots : List ℕ) → before.cells.limits.numbers ≡ length slots → MatchResult drawn (IsNumber slots) IsOfCount
drawn_fits store tries same before after (Ok number) answers slots numbers = let d = drew_number store tries before after same number answers in (omega (arith, d.0), subst (λ n. number ≤ n) numbers d.1)
drawn_fits store tries same before after (Err why) answers slots numbers = draw_refusal tries before after why answers

-- a draw that other lanes were not in the way of gives no fault of that kind
pub decided_by_drawn : {V : Type 0} (slots : List ℕ) (value : V) (drawn : Result ℕ CellRefusal) (before after : List (Known V)) (r : Result ℕ (V × KeepFault)) → drawn ≢ Err cell.Contended → MatchResult drawn (IsNumber slots) IsOfCount
    → SlotsDrawn value drawn before after r → IfErr r (λ e. IsDecidedFault e.1)
decided_by_drawn slots value drawn before after (Ok number) ne fits p = tt
decided_by_drawn slots value (Ok n) before after (Err (back, why)) ne fits p = subst IsDecidedFault (sym p.1.0) tt
decided_by_drawn slots value (Err cell.NumbersFull) before after (Err (back, why)) ne fits p = subst IsDecidedFault (sym p.1.0) tt
decided_by_drawn slots value (Err cell.Contended) before after (Err (back, why)) ne fits p = absurd (ne refl)
decided_by_drawn slots value (Err cell.Busy) before after (Err (back, why)) ne fits p = absurd fits
decided_by_drawn slots value (Err cell.Closed) before after (Err (back, why)) ne fits p = absurd fits
decided_by_drawn slots value (Err cell.Exhausted) before after (Err (back, why)) ne fits p = absurd fits
decided_by_drawn slots value (Err cell.Memory) before after (Err (back, why)) ne fits p = absurd fits
decided_by_drawn slots value (Err cell.BadLimit) before after (Err (back, why)) ne fits p = absurd fits
