-- The end of a claim by its lane: whatever other lanes did meanwhile, the claim stands, and an exchange that meets the words ends it.
use Rattle.std.proofs.Common.{◌≡◌, ℕ, ◌+◌, ◌^◌, ◌<◌, false, [], ◌∷◌, ◌++◌, sym, refl, ap, ◌∙◌, subst, arith, None, Some, IfSome, nat_eq, eq-eqb}
use Rattle.std.specs.Prelude.{if◌then◌else◌, IsTrue, Result, Ok, Err, All}
use Rattle.std.proofs.lemmas.List.Elements.{All-nil, All-cons}
use Rattle.ext_model.specs.declared.event.Act.{Act}
use Rattle.ext_model.specs.declared.event.Act.TheVariants.{Keep, Put, Remove, Claim, Fill, Fail, Abandon, Seal}
use Rattle.ext_model.specs.declared.slot.Slot.TheVariants as slot
use Rattle.ext_model.specs.Events.{Happens, Refuses, Barred, slot_after, place_of, is_on, end_reply}
use Rattle.ext_model.specs.History.{History, Limits, by, stored_number, fault_number, state_after, version_of, reply_after, IsAllowed, IsLegal}
use Rattle.ext_model.specs.CellWords.{slot_word}
use Rattle.ext_history.specs.Histories.{seen_by, moved}
use Rattle.ext_model.specs.CallActs.{LaneView, GoesOn, IsHeld, MayStoreNow}
use Rattle.ext_model.proofs.Allowed.{may_happen}
use Rattle.ext_history.proofs.Composed.{same_number}
use Rattle.ext_model.proofs.Claims.{used_within}
use Rattle.ext_model.proofs.Held.{claim_held, held_word, held_fill, held_fail, held_abandon}
use Rattle.ext_cells.specs.declared.cell_state.CellState.TheVariants.{Computing, Sealed}
use Rattle.ext_cells.specs.declared.claim.Claimed.{Claimed}
use Rattle.ext_cells.specs.declared.claim.Claimed.TheVariants.{Won}
use Rattle.ext_cells.specs.declared.refusal.CellRefusal.{CellRefusal}
use Rattle.ext_cells.specs.WordChanges.{word_with, next_word, Suits}
use Rattle.ext_cells.specs.Lanes.{CellsId, Lane}
use Rattle.ext_cells.specs.CellCalls.{Answers, EndsClaim, IfWon, number_acts, number_reply}
use Rattle.ext_cells.specs.InnerTableSteps.{IsWordAt}
use Rattle.ext_cells.specs.InnerDeciding.{IsCellWord}
use Rattle.ext_cells.specs.InnerSteps.{Finds, MayGoOn, IsEndOf}
use Rattle.ext_cells.proofs.CellWords.{cell_word, word_after}
use Rattle.ext_cells.proofs.CallEvents.{call_made}
use Rattle.ext_cells.proofs.Changing.{fits_bits}
use Rattle.ext_cells.proofs.Tries.{TriesOn, made, goes_on, seen_on}

pub place_is : (cell : ℕ) (act : Act ℕ) → IsEndOf cell act → place_of act ≡ Some cell
place_is cell (Keep n) is = absurd is
place_is cell (Put at n) is = absurd is
place_is cell (Remove at) is = absurd is
place_is cell (Claim at) is = absurd is
place_is cell (Fill at n) is = ap Some is
place_is cell (Fail at n) is = ap Some is
place_is cell (Abandon at) is = ap Some is
place_is cell (Seal at) is = absurd is

-- the word after it is that of what it leaves
leaves : (cell version lane : ℕ) (act : Act ℕ) → IsEndOf cell act → next_word act Computing 0 version ≡ slot_word (slot_after lane act (Some (slot.Claim lane))) (version + 1)
leaves cell version lane (Keep n) is = absurd is
leaves cell version lane (Put at n) is = absurd is
leaves cell version lane (Remove at) is = absurd is
leaves cell version lane (Claim at) is = absurd is
leaves cell version lane (Fill at n) is = refl
leaves cell version lane (Fail at n) is = refl
leaves cell version lane (Abandon at) is = refl
leaves cell version lane (Seal at) is = absurd is

happens : (limits : Limits) (h : History) (lane cell : ℕ) (act : Act ℕ) → IsEndOf cell act → (state_after h).slots cell ≡ Some (slot.Claim lane) → reply_after limits h lane act ≡ Happens None
happens limits h lane cell act is stands = go act is
  where
    own_claim : (at : ℕ) → at ≡ cell → end_reply lane ((state_after h).slots at) ≡ Happens None
    own_claim at same =
        ap (λ k. end_reply lane ((state_after h).slots k)) same ∙ ap (end_reply lane) stands ∙ ap (λ b. if b then Happens None else Refuses Barred) (eq-eqb lane lane refl)

    go : (a : Act ℕ) → IsEndOf cell a → reply_after limits h lane a ≡ Happens None
    go (Keep n) same = absurd same
    go (Put at n) same = absurd same
    go (Remove at) same = absurd same
    go (Claim at) same = absurd same
    go (Fill at n) same = own_claim at same
    go (Fail at n) same = own_claim at same
    go (Abandon at) same = own_claim at same
    go (Seal at) same = absurd same

module _ (limits : Limits) (lane : LaneView) (h : History) (cell : ℕ) (on : GoesOn limits lane h) (held : IsHeld lane cell) where
  stands : (cell < limits.cells) × ((state_after h).slots cell ≡ Some (slot.Claim lane.number))
  stands = (may_happen limits h lane.number (Abandon cell) (held_abandon limits lane cell h on held)).1

  may_end : (act : Act ℕ) → IsEndOf cell act → IfSome (stored_number act) (MayStoreNow lane) → IfSome (fault_number act) (λ number. IsTrue limits.keep_faults) → IsAllowed limits h (by lane.number act)
  may_end (Keep n) is store keeps = absurd is
  may_end (Put at n) is store keeps = absurd is
  may_end (Remove at) is store keeps = absurd is
  may_end (Claim at) is store keeps = absurd is
  may_end (Fail at n) is store keeps = subst (λ k. IsAllowed limits h (by lane.number (Fail k n))) (sym is) (held_fail limits lane cell n h keeps on held store)
  may_end (Fill at n) is store keeps = subst (λ k. IsAllowed limits h (by lane.number (Fill k n))) (sym is) (held_fill limits lane cell n h on held store)
  may_end (Abandon at) is store keeps = subst (λ k. IsAllowed limits h (by lane.number (Abandon k))) (sym is) (held_abandon limits lane cell h on held)
  may_end (Seal at) is store keeps = absurd is

  suits : (act : Act ℕ) (version : ℕ) → limits.numbers < 2 ^ 20 → IsEndOf cell act → IfSome (stored_number act) (MayStoreNow lane) → version + 1 < 2 ^ 40 → Suits act Computing version
  suits (Keep n) version few is store room = absurd is
  suits (Put at n) version few is store room = absurd is
  suits (Remove at) version few is store room = absurd is
  suits (Claim at) version few is store room = absurd is
  suits (Fill at n) version few is store room = (refl, fits_bits limits lane h n few on store, omega (arith, room))
  suits (Fail at n) version few is store room = (refl, fits_bits limits lane h n few on store, omega (arith, room))
  suits (Abandon at) version few is store room = (refl, omega (arith, room))
  suits (Seal at) version few is store room = absurd is

  -- the cell's word is that of a claim
  claimed_word : (word : ℕ) → limits.numbers < 2 ^ 20 → IsWordAt limits h cell word → IsCellWord (Some (slot.Claim lane.number)) (version_of h cell) word
  claimed_word word small at = subst (λ s. IsCellWord s (version_of h cell) word) stands.1 (cell_word h cell word small on.legal at stands.0)

-- a cell that a lane holds is one of the cells
pub held_within : (limits : Limits) (lane : LaneView) (cell : ℕ) → IsLegal limits (seen_by lane) → IsHeld lane cell → cell < limits.cells
held_within limits lane cell legal held = used_within (seen_by lane) cell (slot.Claim lane.number) legal held

module _ (before now : Lane) (word cell : ℕ) (act : Act ℕ) (small : before.cells.limits.numbers < 2 ^ 20) (held : IsHeld before.view cell) (is : IsEndOf cell act) (store : IfSome (stored_number act) (MayStoreNow before.view))
    (c : TriesOn before now cell word 0) where
  seen : GoesOn before.cells.limits before.view (seen_by now.view)
  seen = seen_on before.cells.limits before.view now.view cell word 0 c.tries

  abbrev pub version : ℕ
  version = version_of (seen_by now.view) cell

  pub word_now : IsCellWord (Some (slot.Claim before.view.number)) version word
  word_now = claimed_word before.cells.limits before.view (seen_by now.view) cell seen held word small c.tries.word_is

  pub room : version + 1 < 2 ^ 40
  room = word_now.room (λ e. let q : Computing ≡ Sealed = e in cc q)

  pub suits_now : Suits act Computing version
  suits_now = suits before.cells.limits before.view (seen_by now.view) cell seen held act version small is store room

  -- no step of another lane changes the cell: whatever is found there next is the word that was read
  pub never_missed : (found : ℕ) (h : History) → Finds now.cells.limits now.view cell found h → found ≡ word
  never_missed found h f =
      let f' : Finds before.cells.limits now.view cell found h = subst (λ l. Finds l now.view cell found h) (ap (λ z. z.limits) c.cells) f in
      let still = (claim_held before.cells.limits before.view now.view [] cell c.tries.legal c.tries.calls (All-nil (λ a. is_on nat_eq cell a ≡ false)) held).0 in
      let less = (stands before.cells.limits before.view (seen_by now.view) cell seen held).0 in
      f'.word_is.cell less ∙ held_word before.cells.limits now.view cell h f'.on still ∙ sym (c.tries.word_is.cell less)

  -- the parts that were read are those of the word
  module _ (keeps : IfSome (fault_number act) (λ number. IsTrue before.cells.limits.keep_faults)) (next : ℕ) (read : (version : ℕ) → word ≡ word_with Computing 0 version → next ≡ next_word act Computing 0 version) where
    may_at : (h : History) → Finds before.cells.limits now.view cell word h → MayGoOn before.cells.limits now.view h cell next act
    may_at h f =
        let on = goes_on before.cells.limits before.view now.view cell word 0 c.tries h f.on in
        let number : now.view.number ≡ before.view.number = same_number c.tries.calls in
        let claim = stands before.cells.limits before.view h cell on held in
        let here = claimed_word before.cells.limits before.view h cell on held word small f.word_is in
        let slot : slot_word (slot_after before.view.number act (Some (slot.Claim before.view.number))) (version_of h cell + 1) ≡ slot_word (slot_after before.view.number act ((state_after h).slots cell)) (version_of h cell + 1) =
        ap (λ s. slot_word (slot_after before.view.number act s) (version_of h cell + 1)) (sym claim.1) in
        subst (λ (l : LaneView). MayGoOn before.cells.limits l h cell next act) (λ i. record { number = sym number i; fronts = now.view.fronts }) (record {
          allowed = may_end before.cells.limits before.view h cell on held act is store keeps;
          word_is = word_after before.cells.limits h before.view.number act cell next (place_is cell act is) claim.0 (read (version_of h cell) here.is ∙ leaves cell (version_of h cell) before.view.number act is ∙ slot);
        })

    pub may_now : (h : History) → Finds now.cells.limits now.view cell word h → MayGoOn now.cells.limits now.view h cell next act
    may_now h f =
        let same = ap (λ z. z.limits) c.cells in
        subst (λ l. MayGoOn l now.view h cell next act) (sym same) (may_at h (subst (λ l. Finds l now.view cell word h) same f))

    pub ended : (after : Lane) (h : History) → Finds now.cells.limits now.view cell word h → after.view ≡ moved now.view ((h ++ by now.view.number act ∷ []) ∷ []) → EndsClaim before after act
    ended after h f e =
        let f' = subst (λ l. Finds l now.view cell word h) (ap (λ z. z.limits) c.cells) f in
        let on = goes_on before.cells.limits before.view now.view cell word 0 c.tries h f'.on in
        made before.cells.limits before.view now.view cell word 0 c.tries after.view act h (λ p. reply_after before.cells.limits p before.view.number act ≡ Happens None) f'.on e
        (happens before.cells.limits h before.view.number cell act is (stands before.cells.limits before.view h cell on held).1)

-- a claim that was won stands
pub won_held : (lane : LaneView) (cell claim : ℕ) (asked : Claimed) → asked ≡ Won claim → IfWon (Ok asked) (λ k. (k ≡ cell) × IsHeld lane k) → IsHeld lane claim
won_held lane cell claim asked is held = (subst (λ z. IfWon (Ok z) (λ k. (k ≡ cell) × IsHeld lane k)) is held).1

-- a claim of the lane stands on while it draws a number, whatever is answered
pub held_while_drawing : (tries : ℕ) (before after : Lane) (cell : ℕ) (r : Result ℕ CellRefusal) → after.cells ≡ before.cells → IsLegal after.cells.limits (seen_by after.view) → Answers tries before after number_acts (number_reply before) r → IsHeld before.view cell → IsHeld after.view cell
held_while_drawing tries before after cell r same legal a held =
    (claim_held before.cells.limits before.view after.view (number_acts r) cell (subst (λ (z : CellsId). IsLegal z.limits (seen_by after.view)) same legal) (call_made tries before after number_acts (number_reply before) r refl a) (off r) held).0
  where
    IsOff : Act ℕ → Type 0
    IsOff act = is_on nat_eq cell act ≡ false

    off : (r : Result ℕ CellRefusal) → All IsOff (number_acts r)
    off (Ok number) = All-cons IsOff (Keep number) [] refl (All-nil IsOff)
    off (Err why) = All-nil IsOff
