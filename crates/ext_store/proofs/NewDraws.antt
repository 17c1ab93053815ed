-- The number that a call drew: its event is new, and what the lane knows where the number's slot did not take what was to be kept.
use Rattle.std.proofs.Common.{◌≡◌, ◌≢◌, arith, ℕ, ◌+◌, ◌≤◌, List, [], ◌∷◌, ◌++◌, Contains, sym, refl, subst, inl, inr, Some}
use Rattle.std.specs.Prelude.{◌==◌}
use Rattle.std.proofs.lemmas.List.Elements.{Contains-append_left, Contains-push}
use mathlib.Core.List.{IsPrefix}
use base.Growing.{prefix_refl}
use Rattle.ext_model.specs.declared.event.Act.TheVariants.{Keep}
use Rattle.ext_model.specs.declared.event.Event.{Event}
use Rattle.ext_model.specs.Events as events
use Rattle.ext_model.specs.History.{History, by, state_after, IsLegal}
use Rattle.ext_history.specs.Histories.{seen_by}
use Rattle.ext_model.specs.CallActs.{LaneView, MayStoreNow}
use Rattle.ext_history.proofs.Lists.{contains_from_filter}
use Rattle.ext_history.proofs.Legal.{legal_prefix}
use Rattle.ext_history.proofs.Composed.{same_number, seen_goes_on}
use Rattle.ext_model.proofs.Numbers.{bounded}
use Rattle.ext_values.specs.Known.{Known}
use Rattle.ext_cells.specs.declared.refusal.CellRefusal.{CellRefusal}
use Rattle.ext_cells.specs.declared.refusal.CellRefusal.TheVariants as cell
use Rattle.ext_cells.specs.Lanes.{Lane}
use Rattle.ext_store.specs.declared.fault.KeepFault.{KeepFault}
use Rattle.ext_store.specs.declared.fault.KeepFault.TheVariants as fault
use Rattle.ext_store.specs.Stores.{StoreId, StoreLane}
use Rattle.ext_store.specs.InnerKeeping.{keep_fault}
use Rattle.ext_store.specs.LaneCalls.{Draws, Frame, HoldsAtPoint, KnowsUnkept, reply_to}

contains_on : (x y : History) → IsPrefix x y → (e : Event ℕ) → Contains x e → Contains y e
contains_on x y on e there = subst (λ z. Contains z e) on.1 (Contains-append_left x on.0 e there)

-- ---- a number that is drawn now was not drawn before

pub draws_new : (a b : Lane) (n : ℕ) → IsLegal a.cells.limits (seen_by b.view) → HoldsAtPoint a b (Keep n ∷ []) (λ p. reply_to a (Keep n) p ≡ events.Happens (Some n)) → Draws a.view b.view n
draws_new a b n lawful h =
    let p : History = h.point.0 in
    let e : Event ℕ = by a.view.number (Keep n) in
    let seen : seen_by b.view ≡ p ++ by a.view.number (Keep n) ∷ [] = h.point.1.1 in
    let legal : IsLegal a.cells.limits (p ++ by a.view.number (Keep n) ∷ []) = subst (IsLegal a.cells.limits) seen lawful in
    let next : n ≡ (state_after p).drawn + 1 = (legal.each p e [] refl).next in
    record {
      new = λ there.
          let least : n ≤ (state_after p).drawn = (bounded p (legal_prefix p (e ∷ []) legal)).kept a.view.number n (contains_on (seen_by a.view) p h.point.1.0 e there) in
          absurd (omega (arith, least, next));
      drawn = subst (λ z. Contains z (by a.view.number (Keep n))) (sym seen) (Contains-push p e);
    }

-- so it is none that the lane may store
pub drawn_apart : (a b : Lane) (n m : ℕ) → IsLegal a.cells.limits (seen_by b.view) → HoldsAtPoint a b (Keep n ∷ []) (λ p. reply_to a (Keep n) p ≡ events.Happens (Some n)) → MayStoreNow a.view m → m ≢ n
drawn_apart a b n m lawful h now e =
    let there : Contains (seen_by a.view) (by a.view.number (Keep m)) = contains_from_filter (λ (x : Event ℕ). x.lane == a.view.number) (seen_by a.view) (by a.view.number (Keep m)) now.drew in
    (draws_new a b n lawful h).new (subst (λ k. Contains (seen_by a.view) (by a.view.number (Keep k))) e there)

-- ---- a part of a call, and the whole call

-- the second lane is the first one, and has seen all that it had
abbrev pub GoesOnTo : LaneView → LaneView → Type 0
GoesOnTo a b = (b.number ≡ a.number) × IsPrefix (seen_by a) (seen_by b)

draws_within : (a b c d : LaneView) (n : ℕ) → GoesOnTo a b → IsPrefix (seen_by c) (seen_by d) → Draws b c n → Draws a d n
draws_within a b c d n low high drew = record {
  new = λ there. drew.new (subst (λ k. Contains (seen_by b) (by k (Keep n))) (sym low.0) (contains_on (seen_by a) (seen_by b) low.1 (by a.number (Keep n)) there));
  drawn = subst (λ k. Contains (seen_by d) (by k (Keep n))) low.0 (contains_on (seen_by c) (seen_by d) high (by b.number (Keep n)) drew.drawn);
}

pub knows_within : {V : Type 0} (a b c d : LaneView) (known learnt : List (Known V)) (why : KeepFault) → GoesOnTo a b → IsPrefix (seen_by c) (seen_by d) → KnowsUnkept b c known learnt why → KnowsUnkept a d known learnt why
knows_within a b c d known learnt fault.Memory low high k = k
knows_within a b c d known learnt fault.NumbersFull low high k = k
knows_within a b c d known learnt fault.Contended low high k = k
knows_within a b c d known learnt fault.Unplaced low high k = (k.0, draws_within a b c d k.0 low high k.1, k.2)

-- where a part came before that
pub knows_since : {V : Type 0} (a b c : LaneView) (known learnt : List (Known V)) (why : KeepFault) → GoesOnTo a b → KnowsUnkept b c known learnt why → KnowsUnkept a c known learnt why
knows_since a b c known learnt why low k = knows_within a b c c known learnt why low (prefix_refl (seen_by c)) k

-- and where one came behind it
pub knows_until : {V : Type 0} (a b c : LaneView) (known learnt : List (Known V)) (why : KeepFault) → IsPrefix (seen_by b) (seen_by c) → KnowsUnkept a b known learnt why → KnowsUnkept a c known learnt why
knows_until a b c known learnt why high k = knows_within a a b c known learnt why (refl, prefix_refl (seen_by a)) high k

-- a frame goes on
pub frame_on : {V : Type 0} (id : StoreId) (stored : List ℕ) (a b : StoreLane V) → Frame id stored a b → GoesOnTo a.cells.view b.cells.view
unfolding Frame
frame_on id stored a b frame = elim frame.steps.1 [
  | inl still ↦ subst (λ (l : Lane). GoesOnTo l.view b.cells.view) still.0 (refl, prefix_refl (seen_by b.cells.view))
  | inr calls ↦ (same_number calls, seen_goes_on calls)
]

-- ---- where no number was drawn

-- nothing is learnt
pub knows_undrawn : {V : Type 0} (before after : Lane) (known learnt : List (Known V)) (why : CellRefusal) → learnt ≡ known → KnowsUnkept before.view after.view known learnt (keep_fault why)
knows_undrawn before after known learnt cell.NumbersFull still = still
knows_undrawn before after known learnt cell.Contended still = still
knows_undrawn before after known learnt cell.Busy still = still
knows_undrawn before after known learnt cell.Closed still = still
knows_undrawn before after known learnt cell.Exhausted still = still
knows_undrawn before after known learnt cell.Memory still = still
knows_undrawn before after known learnt cell.BadLimit still = still
