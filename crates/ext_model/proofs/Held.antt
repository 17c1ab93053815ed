-- A claim that a lane has seen as its own stands on while its calls make no event on the cell.
use Rattle.std.proofs.Common.{◌≡◌, ℕ, false, cond, List, [], ◌∷◌, refl, ap, sym, subst, ◌∙◌, arith, Some, nat_eq}
use Rattle.std.specs.Prelude.{All, IsTrue}
use Rattle.std.proofs.lemmas.List.Elements.{All-head, All-tail}
use Rattle.ext_model.specs.declared.event.Act.{Act}
use Rattle.ext_model.specs.declared.event.Act.TheVariants.{Fill, Fail, Abandon}
use Rattle.ext_model.specs.declared.slot.Slot.TheVariants as slot
use Rattle.ext_model.specs.Events.{is_on}
use Rattle.ext_model.specs.History.{History, Limits, by, state_after, version_of, IsQuiet, IsAllowed, IsLegal}
use Rattle.ext_model.specs.CellWords.{word_of}
use Rattle.ext_model.specs.CallActs.{MayStore, LaneView, events_by, Calls, IsHeld, MayStoreNow, GoesOn}
use Rattle.ext_history.specs.Histories.{seen_by}
use Rattle.ext_model.proofs.Allowed.{allowed}
use Rattle.ext_model.proofs.Owned.{own_may_store}
use Rattle.ext_model.proofs.Versions.{version-cons}
use Rattle.ext_model.proofs.Claims.{claim_stands, quiet_slot, quiet_word, used_within, holder_within}
use Rattle.ext_history.proofs.Composed.{same_number, seen_goes_on, events_past}
use Rattle.ext_history.proofs.Single.{none_own}

quiet_acts : (lane cell : ℕ) (acts : List (Act ℕ)) → All (λ act. is_on nat_eq cell act ≡ false) acts → IsQuiet cell (events_by lane acts)
quiet_acts lane cell [] off = refl
quiet_acts lane cell (act ∷ acts) off =
    let P : Act ℕ → Type 0 = λ x. is_on nat_eq cell x ≡ false in
    let r : version_of (events_by lane acts) cell ≡ 0 = quiet_acts lane cell acts (All-tail P act acts off) in
    let bit : ◌≡◌ {A = ℕ} (cond (is_on nat_eq cell act) 1 0) 0 = ap (λ b. cond b 1 0) (All-head P act acts off) in
    omega (arith, r, bit, version-cons (by lane act) (events_by lane acts) cell)

pub claim_held : (limits : Limits) (a b : LaneView) (acts : List (Act ℕ)) (cell : ℕ) → IsLegal limits (seen_by b) → Calls limits a b acts → All (λ act. is_on nat_eq cell act ≡ false) acts → IsHeld a cell → IsHeld b cell × (word_of (seen_by b) cell ≡ word_of (seen_by a) cell)
claim_held limits a b acts cell legal one off is =
    let begins = seen_goes_on one in
    let quiet : IsQuiet cell begins.0 =
    claim_stands (seen_by a) begins.0 a.number cell (subst (IsLegal limits) (sym begins.1) legal) is (subst (IsQuiet cell) (sym (events_past one)) (quiet_acts a.number cell acts off)) in (
      ap (λ h. (state_after h).slots cell) (sym begins.1) ∙ (quiet_slot (seen_by a) begins.0 cell quiet ∙ (is ∙ ap (λ n. Some (slot.Claim n)) (sym (same_number one)))),
      ap (λ h. word_of h cell) (sym begins.1) ∙ quiet_word (seen_by a) begins.0 cell quiet,
    )

-- ---- what other lanes did meanwhile

module _ (limits : Limits) (lane : LaneView) (h : History) (on : GoesOn limits lane h) where
  still_quiet : (cell : ℕ) → IsHeld lane cell → IsQuiet cell on.begins.0
  still_quiet cell is =
      let none : IsQuiet cell [] = refl in
      claim_stands (seen_by lane) on.begins.0 lane.number cell (subst (IsLegal limits) (sym on.begins.1) on.legal) is (subst (IsQuiet cell) (sym (none_own on)) none)

  still_held : (cell : ℕ) → IsHeld lane cell → (state_after h).slots cell ≡ Some (slot.Claim lane.number)
  still_held cell is = ap (λ g. (state_after g).slots cell) (sym on.begins.1) ∙ (quiet_slot (seen_by lane) on.begins.0 cell (still_quiet cell is) ∙ is)

  still_store : (number : ℕ) → MayStoreNow lane number → MayStore lane.number number h
  still_store number may = own_may_store h lane.number number on.legal (subst (MayStore lane.number number) (sym on.own_same) may)

pub held_word : (limits : Limits) (lane : LaneView) (cell : ℕ) (h : History) → GoesOn limits lane h → IsHeld lane cell → word_of h cell ≡ word_of (seen_by lane) cell
held_word limits lane cell h on is = ap (λ g. word_of g cell) (sym on.begins.1) ∙ quiet_word (seen_by lane) on.begins.0 cell (still_quiet limits lane h on cell is)

pub goes_on_store : (limits : Limits) (lane : LaneView) (number : ℕ) (h : History) → GoesOn limits lane h → MayStoreNow lane number → MayStore lane.number number h
goes_on_store limits lane number h on may = still_store limits lane h on number may

pub held_fill : (limits : Limits) (lane : LaneView) (cell number : ℕ) (h : History) → GoesOn limits lane h → IsHeld lane cell → MayStoreNow lane number → IsAllowed limits h (by lane.number (Fill cell number))
held_fill limits lane cell number h on is may =
    let stands = still_held limits lane h on cell is in
    allowed limits h lane.number (Fill cell number) (holder_within h cell lane.number on.legal stands, (used_within h cell (slot.Claim lane.number) on.legal stands, stands, still_store limits lane h on number may))

pub held_fail : (limits : Limits) (lane : LaneView) (cell number : ℕ) (h : History) → IsTrue limits.keep_faults → GoesOn limits lane h → IsHeld lane cell → MayStoreNow lane number → IsAllowed limits h (by lane.number (Fail cell number))
held_fail limits lane cell number h keeps on is may =
    let stands = still_held limits lane h on cell is in
    allowed limits h lane.number (Fail cell number) (holder_within h cell lane.number on.legal stands, (used_within h cell (slot.Claim lane.number) on.legal stands, stands, still_store limits lane h on number may, keeps))

pub held_abandon : (limits : Limits) (lane : LaneView) (cell : ℕ) (h : History) → GoesOn limits lane h → IsHeld lane cell → IsAllowed limits h (by lane.number (Abandon cell))
held_abandon limits lane cell h on is =
    let stands = still_held limits lane h on cell is in
    allowed limits h lane.number (Abandon cell) (holder_within h cell lane.number on.legal stands, (used_within h cell (slot.Claim lane.number) on.legal stands, stands))
