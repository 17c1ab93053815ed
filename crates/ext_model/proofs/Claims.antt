-- A claim stands while its lane makes no event on the cell, and the versions that are left.
use Rattle.std.proofs.Common.{◌≡◌, ℕ, ◌+◌, ◌-◌, ◌^◌, ◌≤◌, ◌<◌, inl, inr, Bool, true, false, cond, [], ◌∷◌, ◌++◌, refl, ap, sym, subst, ◌∙◌, arith, append_assoc, eq-eqb, Option, None, Some, nat_eq}
use Rattle.std.specs.Prelude.{if◌then◌else◌, ◌==◌}
use Rattle.std.proofs.lemmas.Bool.Decides.{nat_tests}
use Rattle.ext_model.specs.declared.event.Act.{Act}
use Rattle.ext_model.specs.declared.event.Act.TheVariants.{Keep, Put, Remove, Claim, Fill, Fail, Abandon, Seal}
use Rattle.ext_model.specs.declared.event.Event.{Event}
use Rattle.ext_model.specs.declared.slot.Slot.{Slot}
use Rattle.ext_model.specs.declared.slot.Slot.TheVariants as slot
use Rattle.ext_model.specs.Events.{slot_after, is_on}
use Rattle.ext_model.specs.History.{History, Limits, by, lane_of, own, state_after, version_of, IsQuiet, IsAllowed, IsLegal}
use Rattle.ext_model.specs.CellWords.{word_of}
use Rattle.ext_model.specs.Allowed.{IsOpen, IsPresent, Permits}
use Rattle.ext_history.proofs.Lists.{bools}
use Rattle.ext_history.proofs.Lanes.{own_yes, own_not}
use Rattle.ext_history.proofs.Legal.{legal_induct}
use Rattle.ext_model.proofs.Allowed.{may_happen}
use Rattle.ext_model.proofs.Versions.{version-cons, same_word, slot_stays, after-append}
use Rattle.ext_model.proofs.Words.{version-push, slots-push}

pub same_cell : (at cell : ℕ) → nat_eq at cell ≡ true → at ≡ cell
same_cell at cell is = grind (arith, nat_tests)

-- an event leaves the cell alone, or what its act leaves there
pub slot_off : (h : History) (e : Event ℕ) (cell : ℕ) → is_on nat_eq cell e.act ≡ false → (state_after (h ++ e ∷ [])).slots cell ≡ (state_after h).slots cell
slot_off h e cell off = slots-push h e cell ∙ ap (λ b. if b then slot_after e.lane e.act ((state_after h).slots cell) else (state_after h).slots cell) off

pub slot_on : (h : History) (e : Event ℕ) (cell : ℕ) → is_on nat_eq cell e.act ≡ true → (state_after (h ++ e ∷ [])).slots cell ≡ slot_after e.lane e.act ((state_after h).slots cell)
slot_on h e cell on = slots-push h e cell ∙ ap (λ b. if b then slot_after e.lane e.act ((state_after h).slots cell) else (state_after h).slots cell) on

module _ (limits : Limits) (h : History) (lane cell : ℕ) where
  there : (at : ℕ) (x : Option Slot) → nat_eq at cell ≡ true → (state_after h).slots cell ≡ x → (state_after h).slots at ≡ x
  there at x on is = ap (state_after h).slots (same_cell at cell on) ∙ is

  -- an event on a claimed cell is the claimer's own
  pub claimer : (act : Act ℕ) (holder : ℕ) → (state_after h).slots cell ≡ Some (slot.Claim holder) → is_on nat_eq cell act ≡ true → Permits limits h lane act → lane ≡ holder
  claimer (Keep number) holder is on may = absurd (cc on)
  claimer (Put at number) holder is on may = absurd (subst IsOpen (there at _ on is) may.1)
  claimer (Remove at) holder is on may = absurd (subst IsPresent (there at _ on is) may.1)
  claimer (Claim at) holder is on may = let e : None ≡ Some (slot.Claim holder) = sym may.1 ∙ there at _ on is in absurd (cc e)
  claimer (Fill at number) holder is on may = let e : Some (slot.Claim lane) ≡ Some (slot.Claim holder) = sym may.1 ∙ there at _ on is in cc e
  claimer (Fail at number) holder is on may = let e : Some (slot.Claim lane) ≡ Some (slot.Claim holder) = sym may.1 ∙ there at _ on is in cc e
  claimer (Abandon at) holder is on may = let e : Some (slot.Claim lane) ≡ Some (slot.Claim holder) = sym may.1 ∙ there at _ on is in cc e
  claimer (Seal at) holder is on may = absurd (subst IsOpen (there at _ on is) may.1)

bit_of : (e : Event ℕ) (cell : ℕ) (b : Bool) → is_on nat_eq cell e.act ≡ b → ◌≡◌ {A = ℕ} (cond (is_on nat_eq cell e.act) 1 0) (cond b 1 0)
bit_of e cell b is = ap (λ c. cond c 1 0) is

-- none of the lane's events is on the cell, and so no later ones are
later_quiet : (lane cell : ℕ) (e : Event ℕ) (es : History) → IsQuiet cell (own lane (e ∷ es)) → IsQuiet cell (own lane es)
later_quiet lane cell e es quiet = elim (bools (e.lane == lane)) [
  | inl mine ↦ let q : version_of (e ∷ own lane es) cell ≡ 0 = subst (IsQuiet cell) (own_yes lane_of lane e es mine) quiet in omega (arith, q, version-cons e (own lane es) cell)
  | inr not_mine ↦ subst (IsQuiet cell) (own_not lane_of lane e es not_mine) quiet
]

-- where the lane's events are none on the cell, its first is not
first_quiet : (lane cell : ℕ) (e : Event ℕ) (es : History) → (e.lane == lane) ≡ true → is_on nat_eq cell e.act ≡ true → IsQuiet cell (own lane (e ∷ es)) → ⊥
first_quiet lane cell e es mine on quiet =
    let q : version_of (e ∷ own lane es) cell ≡ 0 = subst (IsQuiet cell) (own_yes lane_of lane e es mine) quiet in
    let bit : ◌≡◌ {A = ℕ} (cond (is_on nat_eq cell e.act) 1 0) 1 = bit_of e cell true on in
    omega (arith, q, bit, version-cons e (own lane es) cell)

-- past a point where the lane's claim stands the cell has no event, while the lane makes none on it
pub claim_stands : {limits : Limits} (h rest : History) (lane cell : ℕ) → IsLegal limits (h ++ rest) → (state_after h).slots cell ≡ Some (slot.Claim lane) → IsQuiet cell (own lane rest) → IsQuiet cell rest
claim_stands h [] lane cell legal is quiet = refl
claim_stands {limits} h (e ∷ rest) lane cell legal is quiet =
    elim (bools (is_on nat_eq cell e.act)) [
      | inl on ↦
          let mine : e.lane ≡ lane = claimer limits h e.lane cell e.act lane is on (may_happen limits h e.lane e.act (legal.each h e rest refl)).1 in
          absurd (first_quiet lane cell e rest (eq-eqb e.lane lane mine) on quiet)
      | inr off ↦
          let regrouped = append_assoc h (e ∷ []) rest in
          let r : version_of rest cell ≡ 0 =
          claim_stands (h ++ e ∷ []) rest lane cell (subst (IsLegal limits) (sym regrouped) legal) (slot_off h e cell off ∙ is) (later_quiet lane cell e rest quiet) in
          let bit : ◌≡◌ {A = ℕ} (cond (is_on nat_eq cell e.act) 1 0) 0 = bit_of e cell false off in
          omega (arith, version-cons e rest cell, r, bit)
    ]

pub quiet_slot : (h rest : History) (cell : ℕ) → IsQuiet cell rest → (state_after (h ++ rest)).slots cell ≡ (state_after h).slots cell
quiet_slot h rest cell quiet = ap (λ s. s.slots cell) (after-append h rest) ∙ slot_stays rest (state_after h) cell quiet

pub quiet_word : (h rest : History) (cell : ℕ) → IsQuiet cell rest → word_of (h ++ rest) cell ≡ word_of h cell
quiet_word = same_word

-- ---- versions

-- how many events a cell may have had by what stands there
abbrev pub most : Option Slot → ℕ
most None = 2 ^ 40 - 2
most (Some (slot.Entry number)) = 2 ^ 40 - 2
most (Some (slot.Fault number)) = 2 ^ 40 - 2
most (Some (slot.Claim lane)) = 2 ^ 40 - 3
most (Some (slot.Sealed kept)) = 2 ^ 40 - 1

open_most : (x : Option Slot) (v : ℕ) → IsOpen x → v ≤ most x → v ≤ 2 ^ 40 - 2
open_most None v o room = room
open_most (Some (slot.Entry number)) v o room = room
open_most (Some (slot.Fault number)) v o room = room
open_most (Some (slot.Claim lane)) v o room = absurd o
open_most (Some (slot.Sealed kept)) v o room = absurd o

module _ (limits : Limits) (h : History) (lane cell : ℕ) where
  next_room : (act : Act ℕ) → is_on nat_eq cell act ≡ true → Permits limits h lane act → version_of h cell ≤ most ((state_after h).slots cell) → version_of h cell + 1 ≤ most (slot_after lane act ((state_after h).slots cell))
  next_room (Keep number) on may room = absurd (cc on)
  next_room (Put at number) on may room = let v : version_of h cell ≤ 2 ^ 40 - 3 = subst (λ k. version_of h k ≤ 2 ^ 40 - 3) (same_cell at cell on) may.2 in omega (arith, v)
  next_room (Remove at) on may room = let v : version_of h cell ≤ 2 ^ 40 - 3 = subst (λ k. version_of h k ≤ 2 ^ 40 - 3) (same_cell at cell on) may.2 in omega (arith, v)
  next_room (Claim at) on may room = let v : version_of h cell ≤ 2 ^ 40 - 4 = subst (λ k. version_of h k ≤ 2 ^ 40 - 4) (same_cell at cell on) may.2 in omega (arith, v)
  next_room (Fill at number) on may room = let v : version_of h cell ≤ 2 ^ 40 - 3 = subst (λ x. version_of h cell ≤ most x) (ap (state_after h).slots (sym (same_cell at cell on)) ∙ may.1) room in omega (arith, v)
  next_room (Fail at number) on may room = let v : version_of h cell ≤ 2 ^ 40 - 3 = subst (λ x. version_of h cell ≤ most x) (ap (state_after h).slots (sym (same_cell at cell on)) ∙ may.1) room in omega (arith, v)
  next_room (Abandon at) on may room = let v : version_of h cell ≤ 2 ^ 40 - 3 = subst (λ x. version_of h cell ≤ most x) (ap (state_after h).slots (sym (same_cell at cell on)) ∙ may.1) room in omega (arith, v)
  next_room (Seal at) on may room = let v = open_most ((state_after h).slots cell) (version_of h cell) (subst (λ k. IsOpen ((state_after h).slots k)) (same_cell at cell on) may.1) room in omega (arith, v)

-- in a legal history each cell has a version left for each act that must not fail
pub room_left : {limits : Limits} (h : History) (cell : ℕ) → IsLegal limits h → version_of h cell ≤ most ((state_after h).slots cell)
room_left {limits} h cell legal = legal_induct (IsAllowed limits) (λ g. version_of g cell ≤ most ((state_after g).slots cell)) (omega arith) step h legal
  where
    step : (g : History) (e : Event ℕ) → IsLegal limits g → version_of g cell ≤ most ((state_after g).slots cell) → IsAllowed limits g e → version_of (g ++ e ∷ []) cell ≤ most ((state_after (g ++ e ∷ [])).slots cell)
    step g e legal room a = elim (bools (is_on nat_eq cell e.act)) [
      | inl on ↦
          let v : version_of (g ++ e ∷ []) cell ≡ version_of g cell + 1 = version-push g e cell ∙ ap (λ b. version_of g cell + cond b 1 0) on in
          let n = next_room limits g e.lane cell e.act on (may_happen limits g e.lane e.act a).1 room in
          subst (λ x. version_of (g ++ e ∷ []) cell ≤ most x) (sym (slot_on g e cell on)) (omega (arith, v, n))
      | inr off ↦
          let v : version_of (g ++ e ∷ []) cell ≡ version_of g cell + 0 = version-push g e cell ∙ ap (λ b. version_of g cell + cond b 1 0) off in
          subst (λ x. version_of (g ++ e ∷ []) cell ≤ most x) (sym (slot_off g e cell off)) (omega (arith, v, room))
    ]

fits : (x : Option Slot) (v : ℕ) → v ≤ most x → v < 2 ^ 40
fits None v room = omega (arith, room)
fits (Some (slot.Entry number)) v room = omega (arith, room)
fits (Some (slot.Fault number)) v room = omega (arith, room)
fits (Some (slot.Claim lane)) v room = omega (arith, room)
fits (Some (slot.Sealed kept)) v room = omega (arith, room)

pub version_fits : {limits : Limits} (h : History) (cell : ℕ) → IsLegal limits h → version_of h cell < 2 ^ 40
version_fits h cell legal = fits ((state_after h).slots cell) (version_of h cell) (room_left h cell legal)

pub claim_can_end : {limits : Limits} (h : History) (lane cell : ℕ) → IsLegal limits h → (state_after h).slots cell ≡ Some (slot.Claim lane) → version_of h cell + 2 < 2 ^ 40
claim_can_end h lane cell legal is = let v : version_of h cell ≤ 2 ^ 40 - 3 = subst (λ x. version_of h cell ≤ most x) is (room_left h cell legal) in omega (arith, v)

pub can_be_sealed : {limits : Limits} (h : History) (cell : ℕ) → IsLegal limits h → IsOpen ((state_after h).slots cell) → version_of h cell + 1 < 2 ^ 40
can_be_sealed h cell legal is_open = let v = open_most ((state_after h).slots cell) (version_of h cell) is_open (room_left h cell legal) in omega (arith, v)

-- ---- cells

used_after : (b : Bool) (limits : Limits) (x y : Option Slot) (cell : ℕ) (slot : Slot) → (b ≡ true → cell < limits.cells) → (y ≡ Some slot → cell < limits.cells) → (if b then x else y) ≡ Some slot → cell < limits.cells
used_after true limits x y cell slot on old is = on refl
used_after false limits x y cell slot on old is = old is

act_within : (limits : Limits) (h : History) (lane cell : ℕ) (act : Act ℕ) → IsAllowed limits h (by lane act) → is_on nat_eq cell act ≡ true → cell < limits.cells
act_within limits h lane cell (Keep number) a on = absurd (cc on)
act_within limits h lane cell (Put at number) a on = subst (λ k. k < limits.cells) (same_cell at cell on) a.within
act_within limits h lane cell (Remove at) a on = subst (λ k. k < limits.cells) (same_cell at cell on) a.within
act_within limits h lane cell (Claim at) a on = subst (λ k. k < limits.cells) (same_cell at cell on) a.within
act_within limits h lane cell (Fill at number) a on = subst (λ k. k < limits.cells) (same_cell at cell on) a.within
act_within limits h lane cell (Fail at number) a on = subst (λ k. k < limits.cells) (same_cell at cell on) a.within
act_within limits h lane cell (Abandon at) a on = subst (λ k. k < limits.cells) (same_cell at cell on) a.within
act_within limits h lane cell (Seal at) a on = subst (λ k. k < limits.cells) (same_cell at cell on) a.within

-- only cells of the store are used
pub used_within : {limits : Limits} (h : History) (cell : ℕ) (slot : Slot) → IsLegal limits h → (state_after h).slots cell ≡ Some slot → cell < limits.cells
used_within {limits} h cell slot legal = legal_induct (IsAllowed limits) (λ g. (state_after g).slots cell ≡ Some slot → cell < limits.cells) (λ is. absurd (cc is)) step h legal
  where
    step : (g : History) (e : Event ℕ) → IsLegal limits g → ((state_after g).slots cell ≡ Some slot → cell < limits.cells) → IsAllowed limits g e → (state_after (g ++ e ∷ [])).slots cell ≡ Some slot → cell < limits.cells
    step g e legal old a is =
        used_after (is_on nat_eq cell e.act) limits (slot_after e.lane e.act ((state_after g).slots cell)) ((state_after g).slots cell) cell slot
        (λ on. act_within limits g e.lane cell e.act a on) old (sym (slots-push g e cell) ∙ is)

-- and a claim is one of the store's lanes
claimed_after : (b : Bool) (limits : Limits) (lane holder : ℕ) (act : Act ℕ) (y : Option Slot) → lane < limits.lanes → (y ≡ Some (slot.Claim holder) → holder < limits.lanes)
    → (if b then slot_after lane act y else y) ≡ Some (slot.Claim holder) → holder < limits.lanes
claimed_after false limits lane holder act y few old is = old is
claimed_after true limits lane holder (Keep number) y few old is = old is
claimed_after true limits lane holder (Put at number) y few old is = absurd (cc is)
claimed_after true limits lane holder (Remove at) y few old is = absurd (cc is)
claimed_after true limits lane holder (Claim at) y few old is = let e : lane ≡ holder = cc is in subst (λ n. n < limits.lanes) e few
claimed_after true limits lane holder (Fill at number) y few old is = absurd (cc is)
claimed_after true limits lane holder (Fail at number) y few old is = absurd (cc is)
claimed_after true limits lane holder (Abandon at) y few old is = absurd (cc is)
claimed_after true limits lane holder (Seal at) y few old is = absurd (cc is)

pub holder_within : {limits : Limits} (h : History) (cell holder : ℕ) → IsLegal limits h → (state_after h).slots cell ≡ Some (slot.Claim holder) → holder < limits.lanes
holder_within {limits} h cell holder legal = legal_induct (IsAllowed limits) (λ g. (state_after g).slots cell ≡ Some (slot.Claim holder) → holder < limits.lanes) (λ is. absurd (cc is)) step h legal
  where
    step : (g : History) (e : Event ℕ) → IsLegal limits g → ((state_after g).slots cell ≡ Some (slot.Claim holder) → holder < limits.lanes) → IsAllowed limits g e
        → (state_after (g ++ e ∷ [])).slots cell ≡ Some (slot.Claim holder) → holder < limits.lanes
    step g e legal old a is = claimed_after (is_on nat_eq cell e.act) limits e.lane holder e.act ((state_after g).slots cell) a.lane old (sym (slots-push g e cell) ∙ is)
